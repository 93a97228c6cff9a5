use Rattle.std.proofs.Common.{inl, inr, List, ℕ, map, arith, ap, subst, sym, ◌∙◌}
use Rattle.std.specs.List.{Contains}
use Rattle.bsi_inference.specs.Gatherings.{HasText}
use Rattle.bsi_inference.proofs.Inserting.{added_more, all_added, in_other, only_more}
use Rattle.bsi_inference.proofs.gathered.Gathered.add_all.Goals as goal

pub returns-in_err-add-clause-only : goal.returns-in_err-add-clause-only
returns-in_err-add-clause-only c = λ f there.
    let same = ap (map (λ t. t.items)) c.deref-text-items.ensures.value ∙ c.in_ok-texts.ensures.texts in
    in_other same (only_more (λ t. t.items) (Contains c.args.self.now.texts) (Contains c.texts.self.texts) (Contains c.add.new.self.texts) c.deref-text-items.result.now
    c.texts.text-index c.text-item.result (omega arith) c.text-item.is c.texts.invariant.2
    (λ text has. elim (c.in_err-add.ensures.only text has) [ inl before ↦ inl before | inr is ↦ inr (is ∙ c.as_slice.ensures.value) ]) f there)

pub texts-preserved : goal.texts-preserved
texts-preserved c =
    let done = c.texts.invariant.0 in (
      added_more (λ t. t.items) (HasText c.args.self.now) (HasText c.texts.self) (HasText c.add.new.self) c.deref-text-items.result.now c.texts.text-index c.text-item.result
          (omega arith) c.text-item.is done (subst (HasText c.add.new.self) c.as_slice.ensures.value c.in_ok-add.ensures.text) c.in_ok-add.ensures.preserved,
      λ missing. c.texts.invariant.1 (elim c.in_ok-add.ensures.state [ inl same ↦ sym same ∙ missing | inr full ↦ absurd (cc (full.0, missing)) ]),
      only_more (λ t. t.items) (Contains c.args.self.now.texts) (Contains c.texts.self.texts) (Contains c.add.new.self.texts) c.deref-text-items.result.now c.texts.text-index c.text-item.result
          (omega arith) c.text-item.is c.texts.invariant.2 (λ f there. elim (c.in_ok-add.ensures.only f there) [ inl before ↦ inl before | inr same ↦ inr (same ∙ c.as_slice.ensures.value) ]),
    )

pub returns-clause-joined : goal.returns-clause-joined
returns-clause-joined c = λ f there.
    let same = ap (map (λ t. t.items)) c.deref-text-items.ensures.value ∙ c.in_ok-texts.ensures.texts in
    let done = c.texts.invariant.0 in
    all_added (λ t. t.items) (HasText c.texts.self) c.deref-text-items.result.now (λ k d low. done.added k d (omega (arith, low))) f
    (subst (λ (ts : List (List ℕ)). Contains ts f) (sym same) there)

pub returns-clause-only : goal.returns-clause-only
returns-clause-only c = λ f there.
    let same = ap (map (λ t. t.items)) c.deref-text-items.ensures.value ∙ c.in_ok-texts.ensures.texts in
    in_other same (c.texts.invariant.2 f there)
