use Rattle.std.proofs.Common.{inl, inr, arith, refl}
use Rattle.bsi_inference.proofs.Inserting.{few_after, gained_only}
use Rattle.bsi_inference.proofs.gathered.Gathered.add.Goals as goal
use Rattle.bsi_inference.proofs.gathered.Gathered.add.Goals.{else-len-eq-MAX_TEXTS-via-then-len-eq-MAX_TEXTS+else-not-contains, else-len-eq-MAX_TEXTS-via-else-len-eq-MAX_TEXTS}

pub invariant_of-self : goal.invariant_of-self
invariant_of-self c =
    let set = c.args.self.now in
    record {
      few = elim c.else-len-eq-MAX_TEXTS.branch [
        | else-len-eq-MAX_TEXTS-via-then-len-eq-MAX_TEXTS+else-not-contains w ↦
            few_after c.add.result set.texts c.add.new.self c.args.text.now 65536 c.add.ensures.ok c.add.ensures.err set.few (inr (w.if-not-contains.ensures.0 refl))
        | else-len-eq-MAX_TEXTS-via-else-len-eq-MAX_TEXTS w ↦
            few_after c.add.result set.texts c.add.new.self c.args.text.now 65536 c.add.ensures.ok c.add.ensures.err set.few (inl (omega (arith, c.args.self.now.few)))
      ];
    }

pub returns-clause-only : goal.returns-clause-only
returns-clause-only c = gained_only c.add.result c.args.self.now.texts c.add.new.self c.args.text.now c.add.ensures.ok c.add.ensures.err
