use Rattle.std.proofs.Common.{◌<◌, ◌++◌, ◌∷◌, [], get_or, length, take, ap, sym, ◌∙◌, subst, arith}
use Rattle.std.proofs.lemmas.List.{length-append, length-take-le, take_more}
use Rattle.bsi_system.specs.Rings.{new_feeder_state, AreOpened}
use Rattle.bsi_system.proofs.Openings.{opened_more}
use Rattle.bsi_system.proofs.rings.open_rings.Goals as goal

-- the ring of this capacity is opened beside those before
pub capacities-preserved : goal.capacities-preserved
capacities-preserved c =
    let schema = c.args.schema.now.value in
    let all = c.args.capacities.now in
    let n = c.capacities.number in
    let within : n < length all = omega (arith, c.capacities-test.true) in
    let before = length-take-le n all (omega arith) in
    let feeder = c.in_ok-feeder.field-0.feeder in
    let channel = c.in_ok-feeder.field-0.reader in
    let is = c.in_ok-feeder.ensures.feeder ∙ ap (λ m. new_feeder_state m channel.channel (get_or all n 0)) (sym before) in
    let more = opened_more schema (take n all) c.capacities.feeders.items c.capacities.readers.items (get_or all n 0) feeder channel
    c.capacities.invariant.opened c.in_ok-feeder.ensures.reader c.in_ok-feeder.ensures.schema is in
    let fs = c.push_reserved.ensures.items in
    let is = c.push_reserved-in-capacities.ensures.items in
    record {
      opened = subst (λ cs. AreOpened schema cs c.push_reserved.new.self.items c.push_reserved-in-capacities.new.self.items) (sym (take_more all n 0 within))
          (subst (λ fs. AreOpened schema (take n all ++ get_or all n 0 ∷ []) fs c.push_reserved-in-capacities.new.self.items) (sym fs)
          (subst (λ is. AreOpened schema (take n all ++ get_or all n 0 ∷ []) (c.capacities.feeders.items ++ feeder ∷ []) is) (sym is) more));
      feeders = omega (arith, ap length fs, length-append c.capacities.feeders.items (feeder ∷ []), c.capacities.invariant.feeders);
      readers = omega (arith, ap length is, length-append c.capacities.readers.items (channel ∷ []), c.capacities.invariant.readers);
      feeders_room = omega (arith, c.push_reserved.ensures.capacity, c.capacities.invariant.feeders_room);
      readers_room = omega (arith, c.push_reserved-in-capacities.ensures.capacity, c.capacities.invariant.readers_room);
    }
