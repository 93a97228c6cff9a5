use Rattle.std.proofs.Common.{◌≡◌, ◌+◌, ◌-◌, ◌%◌, ◌<◌, ◌≤◌, ◌++◌, replicate, length, take, get_or, set, vec_capacity, sym, ap, subst, arith, length-set, ◌∙◌}
use Rattle.std.specs.Prelude.{All}
use Rattle.std.proofs.lemmas.List.{length-replicate}
use Rattle.std.proofs.lemmas.List.Elements.{All-replicate}
use Rattle.bsi_origins.specs.declared.origins.Origins.TheInside.{Inside}
use Rattle.bsi_origins.specs.Origins.{HasRoomFor, IsTallied}
use Rattle.bsi_origins.proofs.Tallying.{counted_run, tally_small, tallied_begun, tallied_push, tallied_within}
use Rattle.bsi_origins.proofs.origins.Origins.push_run.Goals as goal
use Rattle.bsi_origins.proofs.origins.Origins.push_run.Goals.{then-len-eq0, else-len-eq0}

pub push_tally-requires-clause-small : goal.push_tally-requires-clause-small
push_tally-requires-clause-small c =
    let i = c.self.inside in
    let room = ap (λ o. o.room) c.self.view_is in
    tally_small i.feeders i.row_feeders.items i.counts i.tallies.items c.self.invariant.0 c.tally_len.result c.tally_len.ensures
    (omega (arith, c.self.invariant.1.within, c.requires.room, room))

pub invariant_of-self : goal.invariant_of-self
invariant_of-self c =
    let i = c.self.inside in
    let was = c.self.invariant.0 in
    let rows = i.row_feeders.items in
    let feeder = c.args.feeder in
    let n = c.args.rows in
    let below : feeder < i.feeders = omega (arith, c.requires.feeder, ap (λ o. o.feeders) c.self.view_is) in
    let room : n ≤ i.room = omega (arith, c.requires.room, ap (λ o. o.room) c.self.view_is) in
    let len : c.len.result ≡ length rows = c.len.ensures ∙ i.row_feeders.ok.0 in
    let counts = set i.counts feeder (get_or i.counts feeder 0 + n) in
    let from : All (λ f. f < i.feeders) (replicate n feeder) = All-replicate (λ f. f < i.feeders) n feeder below in
    let long : length counts ≡ 64 = length-set i.counts feeder (get_or i.counts feeder 0 + n) ∙ was.long in
    let counted = counted_run i.feeders rows i.counts feeder n was.long was.few below was.counted in
    let tallied : Inside → Type 0 = λ now. IsTallied now.feeders c.push_feeder.new.row_feeders.items (set now.counts feeder (get_or now.counts feeder 0 + n)) now.tallies.items
    × HasRoomFor (now.room - n) (length c.push_feeder.new.row_feeders.items) now.feeders (vec_capacity c.push_feeder.new.row_feeders) (vec_capacity now.tallies) in
    elim c.if-len-eq0.branch [
      | then-len-eq0 w ↦
          let begins : length rows % 512 ≡ 0 = ap (λ n. n % 512) (sym len) ∙ w.if-len-eq0.true in
          let items = c.push_feeder.ensures.items ∙ ap (λ (now : Inside). now.row_feeders.items ++ replicate n feeder) w.self-inside-is in
          let capacity : vec_capacity i.row_feeders ≤ vec_capacity c.push_feeder.new.row_feeders = omega (arith, c.push_feeder.ensures.capacity, ap (λ (now : Inside). vec_capacity now.row_feeders) w.self-inside-is) in
          let tallies = w.push_tally.ensures.items ∙ ap (λ n. i.tallies.items ++ take n i.counts) w.tally_len.ensures in
          subst tallied (sym w.self-inside-is)
          (tallied_push i.feeders i.room (vec_capacity i.row_feeders) (vec_capacity i.tallies) n rows (replicate n feeder) counts c.push_feeder.new.row_feeders.items w.push_tally.new.tallies.items
          c.self.invariant.1 (length-replicate n feeder) room items (vec_capacity c.push_feeder.new.row_feeders) (vec_capacity w.push_tally.new.tallies) (omega (arith, capacity)) (omega (arith, w.push_tally.ensures.capacity))
          (subst (IsTallied i.feeders (rows ++ replicate n feeder) counts) (sym tallies)
          (tallied_begun i.feeders rows i.counts i.tallies.items was (replicate n feeder) counts from long counted (omega (arith, begins, c.requires.within, ap (λ o. length o.rows) c.self.view_is, length-replicate n feeder)) begins (omega (arith, c.requires.some, length-replicate n feeder)))))
      | else-len-eq0 w ↦
          let begun : 0 < length rows % 512 = omega (arith, len, w.if-len-eq0.false) in
          let items = c.push_feeder.ensures.items ∙ ap (λ (now : Inside). now.row_feeders.items ++ replicate n feeder) w.self-inside-is in
          let capacity : vec_capacity i.row_feeders ≤ vec_capacity c.push_feeder.new.row_feeders = omega (arith, c.push_feeder.ensures.capacity, ap (λ (now : Inside). vec_capacity now.row_feeders) w.self-inside-is) in
          subst tallied (sym w.self-inside-is)
          (tallied_push i.feeders i.room (vec_capacity i.row_feeders) (vec_capacity i.tallies) n rows (replicate n feeder) counts c.push_feeder.new.row_feeders.items i.tallies.items
          c.self.invariant.1 (length-replicate n feeder) room items (vec_capacity c.push_feeder.new.row_feeders) (vec_capacity i.tallies) (omega (arith, capacity)) (omega arith)
          (tallied_within i.feeders rows i.counts i.tallies.items was (replicate n feeder) counts from long counted (omega (arith, c.requires.within, ap (λ o. length o.rows) c.self.view_is, length-replicate n feeder)) begun))
    ]
