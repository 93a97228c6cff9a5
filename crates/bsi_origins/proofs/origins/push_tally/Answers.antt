use Rattle.std.proofs.Common.{◌++◌, ◌∷◌, [], get_or, refl, sym, ap, append_assoc, arith, ◌∙◌}
use Rattle.std.proofs.lemmas.List.{append-nil, take_all, take_more}
use Rattle.bsi_origins.proofs.origins.push_tally.Goals as goal

pub counts-init : goal.counts-init
counts-init c = record { items = sym (append-nil c.args.tallies.now.items); len = omega arith; capacity = refl }

pub push_reserved-requires : goal.push_reserved-requires
push_reserved-requires c = omega (arith, c.counts.invariant.len, c.counts.invariant.capacity)

pub counts-preserved : goal.counts-preserved
counts-preserved c =
    let tallies = c.args.tallies.now.items in
    let counts = c.args.counts.now in
    let f = c.counts.count-index in
    record {
      items = c.push_reserved.ensures.items ∙ ap (λ xs. xs ++ get_or counts f 0 ∷ []) c.counts.invariant.items
          ∙ append_assoc tallies _ (get_or counts f 0 ∷ [])
          ∙ ap (λ xs. tallies ++ xs) (sym (take_more counts f 0 c.counts-test.true));
      len = omega (arith, c.push_reserved.ensures.len, c.counts.invariant.len);
      capacity = c.push_reserved.ensures.capacity ∙ c.counts.invariant.capacity;
    }

pub returns-clause-items : goal.returns-clause-items
returns-clause-items c =
    c.counts.invariant.items ∙ ap (λ xs. c.args.tallies.now.items ++ xs) (take_all c.counts.count-index c.args.counts.now (omega arith))

pub returns-clause-capacity : goal.returns-clause-capacity
returns-clause-capacity c = c.counts.invariant.capacity
