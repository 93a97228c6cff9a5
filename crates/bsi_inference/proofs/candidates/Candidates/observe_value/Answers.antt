use Rattle.std.proofs.Common.{inl, inr, refl, subst, sym}
use Rattle.std.specs.List.{Contains}
use Rattle.std.proofs.lemmas.Result.{on_ok_weaker}
use Rattle.bsi_inference.specs.Gatherings.{HasText}
use Rattle.bsi_inference.specs.declared.gathered.Gathered.{Gathered}
use Rattle.bsi_inference.proofs.Taking.{missing_has, value_kept, value_taken}
use Rattle.bsi_inference.proofs.candidates.Candidates.observe_value.Goals as goal

pub returns-then-has_remaining-clause-preserved : goal.returns-then-has_remaining-clause-preserved
returns-then-has_remaining-clause-preserved c =
    let read = c.read_value.ensures in
    value_kept c.args.field.now c.args.self.now c.read_value.new.self _ read.next refl refl refl read.nulls (λ f has. missing_has c.stop_gathering.new.self f c.stop_gathering.ensures.state)

pub returns-clause-field : goal.returns-clause-field
returns-clause-field c =
    let read = c.read_value.ensures in
    on_ok_weaker c.add.result (value_taken c.args.field.now c.args.self.now c.read_value.new.self _ read.next refl refl refl read.nulls) c.add.ensures.text

pub returns-clause-preserved : goal.returns-clause-preserved
returns-clause-preserved c =
    let read = c.read_value.ensures in
    value_kept c.args.field.now c.args.self.now c.read_value.new.self _ read.next refl refl refl read.nulls
    (λ f has. c.add.ensures.preserved f (subst (λ (g : Gathered). HasText g f) (sym read.gathered) has))

pub returns-clause-only : goal.returns-clause-only
returns-clause-only c = λ f there.
    let read = c.read_value.ensures in
    elim (c.add.ensures.only f there) [ inl before ↦ inl (subst (λ (g : Gathered). Contains g.texts f) read.gathered before) | inr same ↦ inr same ]
