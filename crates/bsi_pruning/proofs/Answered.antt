-- A line over open columns is that over the table of the file.
use Rattle.std.proofs.Common.{◌≡◌, ℕ, ◌<◌, ◌≤◌, List, [], ◌∷◌, ◌++◌, ◌+◌, Option, Some, inl, inr, get_or, length, ap, subst, sym, ◌∙◌, arith, append-nil, append_assoc, length-append}
use Rattle.std.specs.Prelude.{All, Contains}
use Rattle.std.proofs.lemmas.Bool.{cases_eq}
use Rattle.std.proofs.lemmas.List.{get_or_default}
use Rattle.std.proofs.lemmas.List.Elements.{All-weaker, Contains-append_left}
use Rattle.bsi_answers.specs.AskLines.{IsAskLineBy}
use Rattle.bsi_projection.specs.Chosen.{chosen_table}
use Rattle.bsi_projection.specs.Words.{chosen_texts, chosen_words, AreChosen}
use Rattle.bsi_pruning.specs.Named.{HasMore, IsOpenOf}
use Rattle.bsi_pruning.specs.declared.open_columns.OpenColumns.{OpenColumns}
use Rattle.bsi_pruning.proofs.Alike.{lines-alike}
use Rattle.bsi_rows.specs.Fields.{Field}
use Rattle.bsi_rows.specs.Table.{Table}
use Rattle.bsi_storage.specs.ChosenFiles.{AreFileHeads}
use Rattle.bsi_storage.specs.declared.segment_head.SegmentHead.{SegmentHead}
use Rattle.bsi_storage.proofs.FileWalk.{rows_fit}
use Rattle.bsi_syntax.specs.Bytes.{Bytes, KnownBytes}
use Rattle.bsi_syntax.specs.Notations.{NumberTexts}
use Rattle.bsi_syntax.specs.Vocabularies.{Words}
use Rattle.bsi_syntax.specs.declared.grammar.Grammar.{Grammar}

pub line_over : (grammar : Grammar) (words : Words) (Of : NumberTexts) (known : KnownBytes) (heads : List SegmentHead) (columns : OpenColumns) (t : Table) (notes kinds : Bytes)
    (fields : List Field) (line : Bytes) (count : ℕ) → IsOpenOf known heads columns → AreChosen words fields columns.chosen.items → AreFileHeads known heads t notes kinds
    → count ≡ length t.schema.columns
    → IsAskLineBy grammar (chosen_words columns.chosen.items count words) (chosen_texts columns.chosen.items count Of) columns.index.schema columns.index.rows fields line
    → IsAskLineBy grammar words Of t.schema t.rows fields line
line_over grammar words Of known heads columns t notes kinds fields line count opened are file counted asked =
    let chosen = columns.chosen.items in
    let Is : ℕ → Table → Type 0 = λ n u. IsAskLineBy grammar (chosen_words chosen n words) (chosen_texts chosen n Of) u.schema u.rows fields line in
    let at_table : Is count (chosen_table chosen t) = subst (Is count) (opened.is t notes kinds file) asked in
    let at_count : Is (length t.schema.columns) (chosen_table chosen t) = subst (λ n. Is n (chosen_table chosen t)) counted at_table in
    (lines-alike grammar words Of t.schema t.rows chosen fields line (opened.there t notes kinds file) are (rows_fit known t notes kinds file.keeps)).0 at_count

-- the same where the vocabulary and the chosen columns were lent
pub line_lent : (grammar : Grammar) (words lent : Words) (Of texts : NumberTexts) (known : KnownBytes) (heads : List SegmentHead) (columns : OpenColumns) (t : Table) (notes kinds : Bytes)
    (fields : List Field) (line : Bytes) (chosen : List ℕ) (count : ℕ) → lent ≡ words → texts ≡ Of → chosen ≡ columns.chosen.items
    → IsOpenOf known heads columns → AreChosen words fields columns.chosen.items → AreFileHeads known heads t notes kinds → count ≡ length t.schema.columns
    → IsAskLineBy grammar (chosen_words chosen count lent) (chosen_texts chosen count texts) columns.index.schema columns.index.rows fields line
    → IsAskLineBy grammar words Of t.schema t.rows fields line
line_lent grammar words lent Of texts known heads columns t notes kinds fields line chosen count words_are texts_are chosen_are opened are file counted asked =
    let Is : Words → NumberTexts → List ℕ → Type 0 = λ w x cs.
    IsAskLineBy grammar (chosen_words cs count w) (chosen_texts cs count x) columns.index.schema columns.index.rows fields line in
    line_over grammar words Of known heads columns t notes kinds fields line count opened are file counted
    (subst (Is words Of) chosen_are (subst (λ x. Is words x chosen) texts_are (subst (λ w. Is w texts chosen) words_are asked)))

-- and the lines of all records of a ahead
pub lines_lent : (grammar : Grammar) (words lent : Words) (Of texts : NumberTexts) (known : KnownBytes) (heads : List SegmentHead) (columns : OpenColumns) (t : Table) (notes kinds : Bytes)
    (records : List (List Field)) (chosen : List ℕ) (count : ℕ) → lent ≡ words → texts ≡ Of → chosen ≡ columns.chosen.items
    → IsOpenOf known heads columns → All (λ fields. AreChosen words fields columns.chosen.items) records → AreFileHeads known heads t notes kinds → count ≡ length t.schema.columns
    → All (λ fields. (line : Bytes) → IsAskLineBy grammar (chosen_words chosen count lent) (chosen_texts chosen count texts) columns.index.schema columns.index.rows fields line
    → IsAskLineBy grammar words Of t.schema t.rows fields line) records
lines_lent grammar words lent Of texts known heads columns t notes kinds records chosen count words_are texts_are chosen_are opened are file counted =
    All-weaker (λ (fields : List Field). AreChosen words fields columns.chosen.items)
    (λ (fields : List Field). (line : Bytes) → IsAskLineBy grammar (chosen_words chosen count lent) (chosen_texts chosen count texts) columns.index.schema columns.index.rows fields line
    → IsAskLineBy grammar words Of t.schema t.rows fields line)
    (λ fields one line. line_lent grammar words lent Of texts known heads columns t notes kinds fields line chosen count words_are texts_are chosen_are opened one file counted) records are

-- ---- chosen columns

-- nothing was added to a list that stayed as long
pub unchanged : (old new : List ℕ) → HasMore old new → length new ≡ length old → new ≡ old
unchanged old new more long = by more.more more.new_is
  where
    by : (added : List ℕ) → new ≡ old ++ added → new ≡ old
    by [] is = is ∙ append-nil old
    by (x ∷ xs) is = absurd (omega (arith, long, ap (λ (ns : List ℕ). length ns) is, length-append old (x ∷ xs)))

-- what is chosen stays chosen where more is
pub chosen_still : (words : Words) (fields : List Field) (old more : List ℕ) → AreChosen words fields old → AreChosen words fields (old ++ more)
chosen_still words fields old more are = λ name has c says. Contains-append_left old more c (are name has c says)

pub all_still : (words : Words) (records : List (List Field)) (old more : List ℕ) → All (λ fields. AreChosen words fields old) records
    → All (λ fields. AreChosen words fields (old ++ more)) records
all_still words records old more are =
    All-weaker (λ (fields : List Field). AreChosen words fields old) (λ (fields : List Field). AreChosen words fields (old ++ more))
    (λ fields one. chosen_still words fields old more one) records are

-- the columns of all fields
pub all_named : (words : Words) (fields : List Field) (chosen : List ℕ) (n : ℕ) → length fields ≤ n
    → ((k : ℕ) → k < n → (c : ℕ) → words.column (get_or fields k []) ≡ Some c → Contains chosen c) → AreChosen words fields chosen
all_named words fields chosen n long each = λ name has c says.
    each has.0 (omega (arith, long, has.1)) c (ap words.column (get_or_default fields has.0 [] name has.1 ∙ has.2) ∙ says)

-- the column of one field more
pub one_named : (words : Words) (fields : List Field) (old new added : List ℕ) (k : ℕ) (found : Option ℕ) → found ≡ words.column (get_or fields k [])
    → ((j : ℕ) → j < k → (c : ℕ) → words.column (get_or fields j []) ≡ Some c → Contains old c) → new ≡ old ++ added
    → ((c : ℕ) → found ≡ Some c → Contains new c) → (j : ℕ) → j < k + 1 → (c : ℕ) → words.column (get_or fields j []) ≡ Some c → Contains new c
one_named words fields old new added k found here each grown own j below c says = elim (cases_eq j k) [
  | inl same ↦ own c (here ∙ ap (λ i. words.column (get_or fields i [])) (sym same) ∙ says)
  | inr apart ↦ subst (λ (ns : List ℕ). Contains ns c) (sym grown) (Contains-append_left old added c (each j (omega (arith, below, apart)) c says))
]

pub more_more : (first old new added : List ℕ) → HasMore first old → new ≡ old ++ added → HasMore first new
more_more first old new added more grown = record {
  more = more.more ++ added;
  new_is = grown ∙ ap (λ (xs : List ℕ). xs ++ added) more.new_is ∙ append_assoc first more.more added;
}
