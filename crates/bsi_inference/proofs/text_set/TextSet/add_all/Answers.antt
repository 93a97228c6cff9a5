use Rattle.std.proofs.Common.{inl, inr, List, ℕ, map, arith, ap, subst, sym, ◌∙◌}
use Rattle.std.specs.List.{Contains}
use Rattle.bsi_inference.proofs.Inserting.{added_more, all_added, in_other, only_more}
use Rattle.bsi_inference.proofs.text_set.TextSet.add_all.Goals as goal

pub returns-in_err-add-clause-preserved : goal.returns-in_err-add-clause-preserved
returns-in_err-add-clause-preserved c = λ f there.
    let done = c.texts.invariant.0 in
    subst (λ (ts : List (List ℕ)). Contains ts f) (sym c.in_err-add.ensures.err) (done.preserved f there)

pub returns-in_err-add-clause-only : goal.returns-in_err-add-clause-only
returns-in_err-add-clause-only c = λ f there.
    let same = ap (map (λ t. t.items)) c.deref-text-items.ensures.value ∙ c.in_ok-texts.ensures.texts in
    in_other same (c.texts.invariant.1 f (subst (λ (ts : List (List ℕ)). Contains ts f) c.in_err-add.ensures.err there))

pub texts-preserved : goal.texts-preserved
texts-preserved c =
    let gained = c.in_ok-add.ensures.ok in
    let done = c.texts.invariant.0 in (
      added_more (λ t. t.items) (Contains c.args.self.now) (Contains c.texts.self) (Contains c.add.new.self) c.deref-text-items.result.now c.texts.text-index c.text-item.result
          (omega arith) c.text-item.is done (subst (Contains c.add.new.self) c.as_slice.ensures.value gained.added) gained.preserved,
      only_more (λ t. t.items) (Contains c.args.self.now) (Contains c.texts.self) (Contains c.add.new.self) c.deref-text-items.result.now c.texts.text-index c.text-item.result
          (omega arith) c.text-item.is c.texts.invariant.1 (λ f there. elim (gained.only f there) [ inl before ↦ inl before | inr same ↦ inr (same ∙ c.as_slice.ensures.value) ]),
    )

pub returns-clause-joined : goal.returns-clause-joined
returns-clause-joined c = λ f there.
    let same = ap (map (λ t. t.items)) c.deref-text-items.ensures.value ∙ c.in_ok-texts.ensures.texts in
    let done = c.texts.invariant.0 in
    all_added (λ t. t.items) (Contains c.texts.self) c.deref-text-items.result.now (λ k d low. done.added k d (omega (arith, low))) f
    (subst (λ (ts : List (List ℕ)). Contains ts f) (sym same) there)

pub returns-clause-only : goal.returns-clause-only
returns-clause-only c = λ f there.
    let same = ap (map (λ t. t.items)) c.deref-text-items.ensures.value ∙ c.in_ok-texts.ensures.texts in
    in_other same (c.texts.invariant.1 f there)
