use Rattle.std.proofs.Common.{◌≡◌, ◌<◌, ℕ, inl, inr, List, Vec, Global, get_or, length, sym, subst, ap, ◌∙◌, arith, IsTrue}
use Rattle.std.proofs.lemmas.Bool.{cases_eq}
use Rattle.std.proofs.lemmas.List.{length-map}
use Rattle.bsi_rows.specs.Fields.{Field}
use Rattle.bsi_survey.specs.Made.{is_null_by}
use Rattle.bsi_survey.proofs.Lists.{mapped_at, read_at}
use Rattle.bsi_survey.proofs.Saying.{adds_none, adds_then}
use Rattle.bsi_survey.proofs.Schemas.{at_of}
use Rattle.bsi_survey.proofs.making.add_words.Goals as goal

pub words-init : goal.words-init
words-init c = record { adds = adds_none c.args.logical.now; nulls = λ k d low. absurd (omega (arith, low)) }

-- one word more
pub words-preserved : goal.words-preserved
words-preserved c =
    let i = c.words.word-index in
    let new = c.add_word.new.logical in
    let adds = c.in_ok-add_word.ensures.adds in
    let null : IsTrue (is_null_by new.nulls c.word-item.result.items) =
    subst (λ (w : Field). IsTrue (is_null_by new.nulls w)) c.as_slice.ensures.value c.in_ok-add_word.ensures.null in
    record {
      adds = adds_then c.args.logical.now c.words.logical new c.words.invariant.adds adds;
      nulls = λ k d low. elim (cases_eq k i) [
        | inl same ↦ subst (λ (w : Vec ℕ Global). IsTrue (is_null_by new.nulls w.items))
            (sym (ap (λ n. get_or c.args.words.now n d) same ∙ read_at c.args.words.now i c.word-item.result (omega arith) c.word-item.is d)) null
        | inr other ↦ adds.preserved (get_or c.args.words.now k d).items (c.words.invariant.nulls k d (omega arith))
      ];
    }

pub returns-clause-adds : goal.returns-clause-adds
returns-clause-adds c = c.words.invariant.adds

pub returns-clause-nulls : goal.returns-clause-nulls
returns-clause-nulls c = λ word there.
    let seen : Vec ℕ Global → List ℕ = λ w. w.items in
    let words = c.args.words.now in
    let low : there.0 < length words = omega (arith, there.1, length-map words seen) in
    let item = at_of words there.0 low in
    let same : item.item.items ≡ word =
    sym (mapped_at seen words there.0 item.item word low (sym (item.is item.item))) ∙ there.2 in
    subst (λ (w : Field). IsTrue (is_null_by c.words.logical.nulls w)) (ap seen (item.is item.item) ∙ same)
    (c.words.invariant.nulls there.0 item.item (omega (arith, low)))
