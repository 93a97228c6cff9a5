use Rattle.std.proofs.Common.{◌≡◌, ℕ, List, ◌∷◌, ◌++◌, length, ap, sym, ◌∙◌, arith}
use Rattle.std.specs.Int.{w64, cast_unsigned}
use Rattle.bsi_schema.specs.Columns.{form_of, NamedColumn}
use Rattle.bsi_segments.specs.Bytes.{text_words, AreBytes}
use Rattle.bsi_segments.specs.Schemas.{column_words, form_words}
use Rattle.bsi_segments.proofs.Coding.{column_parts, same_form, same_text}
use Rattle.bsi_segments.proofs.columns.decode_column.Goals as goal

-- behind the name stands the form
behind_name : (words name rest more : List ℕ) (column : NamedColumn) → AreBytes name → AreBytes column.name → words ≡ text_words name ++ rest → words ≡ column_words column ++ more
    → rest ≡ form_words column.form ++ (cast_unsigned w64 column.offset ∷ more)
behind_name words name rest more column are column_are consumed is =
    (same_text name column.name rest (form_words column.form ++ (cast_unsigned w64 column.offset ∷ more)) are column_are (sym consumed ∙ is ∙ column_parts column more)).1

pub returns-in_default-2-clause-none : goal.returns-in_default-2-clause-none
returns-in_default-2-clause-none c = λ column more are valid is.
    let consumed = rw c.in-Some.is at c.in_ok-name.ensures.made in
    let fits = rw c.in-Some.is at c.in_ok-name.ensures.fits in
    let none = rw c.in_default-2.is at c.in_ok-spec.ensures.none in
    none column.form (cast_unsigned w64 column.offset ∷ more) valid
    (behind_name c.args.words.now c.in-Some.name.items c.in-Some.rest.now more column fits are consumed is)

pub returns-in_default-rest-clause-none : goal.returns-in_default-rest-clause-none
returns-in_default-rest-clause-none c = λ column more are valid is.
    let consumed = rw c.in-Some.is at c.in_ok-name.ensures.made in
    let fits = rw c.in-Some.is at c.in_ok-name.ensures.fits in
    let formed = rw c.in-Some-2.is at c.in_ok-spec.ensures.made in
    let behind = behind_name c.args.words.now c.in-Some.name.items c.in-Some.rest.now more column fits are consumed is in
    let last = (same_form (form_of c.in-Some-2.spec) column.form c.in-Some-2.rest.now (cast_unsigned w64 column.offset ∷ more) (sym formed ∙ behind)).1 in
    omega (arith, c.in_default-rest.len_below, ap length last)
