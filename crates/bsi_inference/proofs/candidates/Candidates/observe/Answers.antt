use Rattle.std.proofs.Common.{inl, inr, sym, ◌∙◌, ◌==◌, length}
use Rattle.std.proofs.lemmas.Bool.{both_ways}
use Rattle.bsi_inference.proofs.Taking.{next_alike, value_null, word_is, word_null}
use Rattle.bsi_inference.proofs.candidates.Candidates.observe.Goals as goal

pub returns-then-is_null_word-clause-value : goal.returns-then-is_null_word-clause-value
returns-then-is_null_word-clause-value c = λ value. absurd (both_ways _ value
    (word_null (λ w. w.items) c.args.words.now c.args.field.now (length c.args.field.now == 0) (sym c.is_null_word.ensures ∙ c.if-is_null_word.true)))

pub returns-else-is_null_word-clause-null : goal.returns-else-is_null_word-clause-null
returns-else-is_null_word-clause-null c = λ null. absurd (both_ways _
    (value_null (λ w. w.items) c.args.words.now c.args.field.now (length c.args.field.now == 0) (sym c.is_empty.ensures ∙ c.if-is_empty.false) (sym c.is_null_word.ensures ∙ c.if-is_null_word.false)) null)

pub returns-else-is_null_word-clause-alike : goal.returns-else-is_null_word-clause-alike
returns-else-is_null_word-clause-alike c = next_alike c.args.field.now c.args.self.now c.observe_value.new.self c.observe_value.ensures.next

pub returns-then-is_null_word-clause-only : goal.returns-then-is_null_word-clause-only
returns-then-is_null_word-clause-only c = record {
  nulls = λ f there. elim (c.observe_null.ensures.nulls f there) [
    | inl before ↦ inl before
    | inr same ↦ inr (same, word_is (λ w. w.items) c.args.words.now c.args.field.now (sym c.is_null_word.ensures ∙ c.if-is_null_word.true))
  ];
  texts = c.observe_null.ensures.only;
}
