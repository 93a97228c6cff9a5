use Rattle.std.proofs.Common.{◌≡◌, ◌+◌, ◌<◌, ◌||◌, ◌++◌, ◌∷◌, ℕ, Bool, true, false, [], length, drop, take, suc, refl, ap, sym, subst, ◌∙◌, arith, length-append}
use Rattle.std.specs.List.{flat_map}
use Rattle.bsi_schema.specs.Columns.{column_at, Declared, MayFollow}
use Rattle.bsi_segments.specs.Schemas.{column_words, decoded_column}
use Rattle.bsi_segments.proofs.Coding.{fit_more, fits_words, next_column, same_column, split_more}
use Rattle.bsi_segments.proofs.schemas.decode_columns.Goals as goal

-- a flag that another one implies
or_same : (a b : Bool) → (a ≡ true → b ≡ true) → a || b ≡ b
or_same true b signed_is = sym (signed_is refl)
or_same false b signed_is = refl

same_flag : (a b : Bool) (count : ℕ) → (0 < count → a ≡ b) → (a ≡ true → b ≡ true) → (b ≡ true → 0 < count) → a ≡ b
same_flag true b count same signed_is some = sym (signed_is refl)
same_flag false true count same signed_is some = same (some refl)
same_flag false false count same signed_is some = refl

pub returns-in_default-clause-none : goal.returns-in_default-clause-none
returns-in_default-clause-none c = λ schema more declared many signed is.
    let i = c.columns.invariant in
    let k = length c.columns.schema.columns in
    let within : k < length schema.columns = omega (arith, i.many, many, c.columns-test.true) in
    let next = next_column c.args.words.now c.columns.rest.now more c.columns.schema.columns schema i.fit declared within i.split is in
    let may = declared.each k within in
    let none = rw c.in_default.is at c.in_ok-column.ensures.none in
    none (column_at schema.columns k) (flat_map column_words (drop (suc k) schema.columns) ++ more) (fits_words (take k schema.columns) schema.signed (column_at schema.columns k) may).name may.valid.form next.1

pub returns-then-not-branch-clause-none : goal.returns-then-not-branch-clause-none
returns-then-not-branch-clause-none c = λ schema more declared many signed is.
    let i = c.columns.invariant in
    let k = length c.columns.schema.columns in
    let within : k < length schema.columns = omega (arith, i.many, many, c.columns-test.true) in
    let next = next_column c.args.words.now c.columns.rest.now more c.columns.schema.columns schema i.fit declared within i.split is in
    let may = declared.each k within in
    let consumed = rw c.in-Some.is at c.in_ok-column.ensures.made in
    let fits = rw c.in-Some.is at c.in_ok-column.ensures.fits in
    let same =
    same_column (decoded_column c.in-Some.column) (column_at schema.columns k) c.in-Some.behind.now (flat_map column_words (drop (suc k) schema.columns) ++ more) fits
    (fits_words (take k schema.columns) schema.signed (column_at schema.columns k) may) (sym consumed ∙ next.1) in
    c.in_ok-add_column.ensures.refused c.if-not-branch.true
    (subst (λ columns. MayFollow columns c.args.signed (decoded_column c.in-Some.column)) (sym next.0)
    (subst (λ flag. MayFollow (take k schema.columns) flag (decoded_column c.in-Some.column)) signed
    (subst (MayFollow (take k schema.columns) schema.signed) (sym same.0) may)))

pub columns-preserved : goal.columns-preserved
columns-preserved c =
    let i = c.columns.invariant in
    let consumed = rw c.in-Some.is at c.in_ok-column.ensures.made in
    let fits = rw c.in-Some.is at c.in_ok-column.ensures.fits in
    let added = c.in_ok-add_column.ensures.added c.if-not-branch.false in
    let columns = ap (λ (s : Declared). s.columns) added in
    let flag = ap (λ (s : Declared). s.signed) added ∙ or_same c.columns.schema.signed c.args.signed i.signed_is in
    record {
      split = split_more c.args.words.now c.columns.rest.now c.in-Some.behind.now c.columns.schema.columns c.add_column.new.schema.columns (decoded_column c.in-Some.column) columns i.split consumed;
      many = ap length columns ∙ length-append c.columns.schema.columns (decoded_column c.in-Some.column ∷ []) ∙ ap (λ n. n + 1) i.many;
      fit = fit_more c.columns.schema.columns c.add_column.new.schema.columns (decoded_column c.in-Some.column) columns i.fit fits;
      signed_is = λ on. sym flag ∙ on;
      signed = λ some. flag;
    }

pub returns-clause-made : goal.returns-clause-made
returns-clause-made c =
    let i = c.columns.invariant in
    let whole : c.columns.counter ≡ c.args.count = omega (arith, c.columns-test.false, c.columns.auto.counter-end) in (
      i.many ∙ whole,
      same_flag c.columns.schema.signed c.args.signed c.args.count (λ some. i.signed (omega (arith, some, whole))) i.signed_is c.requires,
      i.split,
    )
