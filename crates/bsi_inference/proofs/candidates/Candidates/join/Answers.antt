use Rattle.std.proofs.Common.{inl, inr, List, ℕ, subst, sym}
use Rattle.std.proofs.lemmas.Result.{on_ok_weaker}
use Rattle.std.specs.List.{Contains}
use Rattle.bsi_inference.specs.Candidates.{AreJoined}
use Rattle.bsi_inference.specs.Gatherings.{HasText}
use Rattle.bsi_inference.specs.declared.candidate.Candidate.{Candidate}
use Rattle.bsi_inference.specs.declared.gathered.Gathered.{Gathered}
use Rattle.bsi_inference.proofs.Taking.{join_alike, join_joined, join_kept}
use Rattle.bsi_inference.proofs.candidates.Candidates.join.Goals as goal

pub returns-in_err-add_all-clause-alike : goal.returns-in_err-add_all-clause-alike
returns-in_err-add_all-clause-alike c =
    let kinds = c.join_kinds.ensures in
    let forms = subst (λ (cs : List Candidate). AreJoined c.args.self.now.forms.items cs c.join_kinds.new.self.forms.items) c.deref.ensures.value kinds.forms in
    join_alike c.args.self.now c.args.other _ c.requires kinds.point kinds.decimals forms

pub returns-clause-preserved : goal.returns-clause-preserved
returns-clause-preserved c =
    let kinds = c.join_kinds.ensures in
    let forms = subst (λ (cs : List Candidate). AreJoined c.args.self.now.forms.items cs c.join_kinds.new.self.forms.items) c.deref.ensures.value kinds.forms in
    join_kept c.args.self.now c.args.other _ c.requires kinds.point kinds.decimals forms
    (λ f word. c.add_all.ensures.preserved f (subst (λ (ts : List (List ℕ)). Contains ts f) (sym kinds.nulls) word))
    (λ f has. c.join.ensures.preserved f (subst (λ (g : Gathered). HasText g f) (sym kinds.gathered) has))

pub returns-clause-joined : goal.returns-clause-joined
returns-clause-joined c =
    let kinds = c.join_kinds.ensures in
    let forms = subst (λ (cs : List Candidate). AreJoined c.args.self.now.forms.items cs c.join_kinds.new.self.forms.items) c.deref.ensures.value kinds.forms in
    on_ok_weaker c.join.result (join_joined c.args.self.now c.args.other _ c.requires kinds.point kinds.decimals forms c.in_ok-add_all.ensures.joined) c.join.ensures.joined

pub returns-clause-alike : goal.returns-clause-alike
returns-clause-alike c =
    let kinds = c.join_kinds.ensures in
    let forms = subst (λ (cs : List Candidate). AreJoined c.args.self.now.forms.items cs c.join_kinds.new.self.forms.items) c.deref.ensures.value kinds.forms in
    join_alike c.args.self.now c.args.other _ c.requires kinds.point kinds.decimals forms

pub returns-in_err-add_all-clause-only : goal.returns-in_err-add_all-clause-only
returns-in_err-add_all-clause-only c =
    let kinds = c.join_kinds.ensures in
    record {
      nulls = λ f there. elim (c.add_all.ensures.only f there) [ inl before ↦ inl (subst (λ (ts : List (List ℕ)). Contains ts f) kinds.nulls before) | inr other ↦ inr other ];
      texts = λ f there. inl (subst (λ (g : Gathered). Contains g.texts f) kinds.gathered there);
    }

pub returns-clause-only : goal.returns-clause-only
returns-clause-only c =
    let kinds = c.join_kinds.ensures in
    record {
      nulls = λ f there. elim (c.add_all.ensures.only f there) [ inl before ↦ inl (subst (λ (ts : List (List ℕ)). Contains ts f) kinds.nulls before) | inr other ↦ inr other ];
      texts = λ f there. elim (c.join.ensures.only f there) [ inl before ↦ inl (subst (λ (g : Gathered). Contains g.texts f) kinds.gathered before) | inr other ↦ inr other ];
    }
