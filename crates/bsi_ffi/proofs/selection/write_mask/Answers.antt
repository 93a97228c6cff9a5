use Rattle.std.proofs.Common.{◌≡◌, ◌≤◌, ◌<◌, Bool, false, Option, None, Some, Result, Ok, Err, List, ◌∷◌, ℕ, map, length, take, codes, rules, refl, ap, subst, sym, ◌∙◌}
use Rattle.std.specs.Prelude.{IfErr, MatchOption, OnOk, slice_index_or}
use Rattle.std.proofs.lemmas.List.{length-map, length-take-le}
use Rattle.bsi_bits.specs.BitList.{word_count}
use Rattle.bsi_bits.specs.Packed.{bit_of}
use Rattle.bsi_rows.specs.Rows.{holds, row_entries}
use Rattle.bsi_rows.specs.Table.{Table}
use Rattle.bsi_rows.specs.declared.query.Pred.{Pred}
use Rattle.bsi_ffi.specs.Calls.{IsMasked}
use Rattle.bsi_ffi.specs.OpenIndex.{OpenIndex}
use Rattle.bsi_ffi.specs.declared.refusal.Refusal.{Refusal}
use Rattle.bsi_ffi.specs.declared.refusal.Refusal.TheVariants.{BufferTooSmall}
use Rattle.bsi_syntax.proofs.Ranked.{question_is_there}
use Rattle.bsi_syntax.specs.Predicates.{IsPredicate}
use Rattle.bsi_syntax.specs.Vocabularies.{schema_vocabulary}
use Rattle.bsi_rows.specs.Answers.{missing_column}
use Rattle.bsi_rows.specs.declared.query.Query.{Query}
use Rattle.bsi_rows.specs.declared.query.Total.TheVariants.{Count}
use Rattle.bsi_ffi.proofs.selection.write_mask.Goals as goal

-- no column of a predicate that was read is missing, as none of the count by it
pub returns-clause-masked : goal.returns-clause-masked
returns-clause-masked c = λ other spelled.
    let schema = c.args.opened.now.table.schema in
    let fields : List (List ℕ) = map (λ f. f.now) c.args.fields.now in
    let spells : IsPredicate (schema_vocabulary schema) fields c.in-Some.pred = search rules in
    let counted : Query = record { total = Count; pred = c.in-Some.pred } in
    let missing : missing_column (length schema.columns) counted ≡ Some c.in-Err-BadColumn.field-0-0 = search rules in
    let wrong : None ≡ Some c.in-Err-BadColumn.field-0-0 = sym (question_is_there schema (codes "count" ∷ fields) counted (refl, spells)) ∙ missing in
    subst (λ (o : Option ℕ). MatchOption o (Unit {0}) (λ place. ⊥)) wrong tt

module _ (opened : OpenIndex) (fields : List (List ℕ)) (words : List ℕ) (pred : Pred) (is : IsPredicate (schema_vocabulary opened.table.schema) fields pred)
    (selection : List Bool) (selection_is : selection ≡ map (λ row. holds pred (row_entries row)) opened.table.rows) where
  rows : length selection ≡ length opened.table.rows
  rows = ap length selection_is ∙ length-map opened.table.rows (λ row. holds pred (row_entries row))

  -- the words are those of the mask, or too few
  masked : (result : Result (Unit {0}) Refusal) → OnOk result (word_count (length selection) ≤ length words)
      → OnOk result ((i : ℕ) → bit_of (take (word_count (length selection)) words) i ≡ slice_index_or selection i false)
      → IfErr result (λ why. (why ≡ BufferTooSmall) × (length words < word_count (length selection))) → IsMasked opened fields words result
  masked (Ok done) long bits short = (
    pred,
    is,
    record {
      long = length-take-le (word_count (length opened.table.rows)) words (subst (λ n. word_count n ≤ length words) rows long);
      bits = λ i. ap (λ n. bit_of (take (word_count n) words) i) (sym rows) ∙ bits i ∙ ap (λ bs. slice_index_or bs i false) selection_is;
    },
  )
  masked (Err why) long bits short =
      subst (λ why. IsMasked opened fields words (Err why)) (sym short.0) (pred, is, subst (λ n. length words < word_count n) rows short.1)

pub returns-in-Ok-clause-masked : goal.returns-in-Ok-clause-masked
returns-in-Ok-clause-masked c =
    let opened = c.args.opened.now in
    let fields : List (List ℕ) = map (λ f. f.now) c.args.fields.now in
    let spells : IsPredicate (schema_vocabulary opened.table.schema) fields c.in-Some.pred = search rules in
    masked opened fields c.copy_words.new.words c.in-Some.pred spells c.in-Ok.selection.bits
    (c.in-Ok.ensures.1 ∙ ap (λ (t : Table). map (λ row. holds c.in-Some.pred (row_entries row)) t.rows) c.index-index.ensures)
    c.copy_words.result c.copy_words.ensures.long c.copy_words.ensures.bits c.copy_words.ensures.short
