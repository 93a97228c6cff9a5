use Rattle.std.proofs.Common.{◌≡◌, ◌+◌, ◌-◌, ◌%◌, ◌<◌, ◌≤◌, ◌++◌, ◌∷◌, [], length, take, get_or, set, vec_capacity, refl, sym, ap, subst, arith, length-set, ◌∙◌}
use Rattle.std.specs.Prelude.{All}
use Rattle.std.proofs.lemmas.List.Elements.{All-replicate}
use Rattle.bsi_origins.specs.declared.origins.Origins.TheInside.{Inside}
use Rattle.bsi_origins.specs.Origins.{HasRoomFor, IsTallied}
use Rattle.bsi_origins.proofs.Tallying.{counted_run, tally_small, tallied_begun, tallied_push, tallied_within}
use Rattle.bsi_origins.proofs.origins.Origins.push_reserved.Goals as goal
use Rattle.bsi_origins.proofs.origins.Origins.push_reserved.Goals.{then-len-eq0, else-len-eq0}

pub push_tally-requires-clause-small : goal.push_tally-requires-clause-small
push_tally-requires-clause-small c =
    let i = c.self.inside in
    let room = ap (λ o. o.room) c.self.view_is in
    tally_small i.feeders i.row_feeders.items i.counts i.tallies.items c.self.invariant.0 c.tally_len.result c.tally_len.ensures
    (omega (arith, c.self.invariant.1.within, c.requires.room, room))

pub invariant_of-self : goal.invariant_of-self
invariant_of-self c =
    let i = c.self.inside in
    let was = c.self.invariant.0 in
    let rows = i.row_feeders.items in
    let feeder = c.args.feeder in
    let below : feeder < i.feeders = omega (arith, c.requires.feeder, ap (λ o. o.feeders) c.self.view_is) in
    let room : 1 ≤ i.room = omega (arith, c.requires.room, ap (λ o. o.room) c.self.view_is) in
    let len : c.len.result ≡ length rows = c.len.ensures ∙ i.row_feeders.ok.0 in
    let counts = set i.counts feeder (get_or i.counts feeder 0 + 1) in
    let from : All (λ f. f < i.feeders) (feeder ∷ []) = All-replicate (λ f. f < i.feeders) 1 feeder below in
    let long : length counts ≡ 64 = length-set i.counts feeder (get_or i.counts feeder 0 + 1) ∙ was.long in
    let counted = counted_run i.feeders rows i.counts feeder 1 was.long was.few below was.counted in
    let tallied : Inside → Type 0 = λ now. IsTallied now.feeders c.push_reserved.new.self.items (set now.counts feeder (get_or now.counts feeder 0 + 1)) now.tallies.items
    × HasRoomFor (now.room - 1) (length c.push_reserved.new.self.items) now.feeders (vec_capacity c.push_reserved.new.self) (vec_capacity now.tallies) in
    elim c.if-len-eq0.branch [
      | then-len-eq0 w ↦
          let begins : length rows % 512 ≡ 0 = ap (λ n. n % 512) (sym len) ∙ w.if-len-eq0.true in
          let items = c.push_reserved.ensures.items ∙ ap (λ (now : Inside). now.row_feeders.items ++ feeder ∷ []) w.self-inside-is in
          let capacity = c.push_reserved.ensures.capacity ∙ ap (λ (now : Inside). vec_capacity now.row_feeders) w.self-inside-is in
          let tallies = w.push_tally.ensures.items ∙ ap (λ n. i.tallies.items ++ take n i.counts) w.tally_len.ensures in
          subst tallied (sym w.self-inside-is)
          (tallied_push i.feeders i.room (vec_capacity i.row_feeders) (vec_capacity i.tallies) 1 rows (feeder ∷ []) counts c.push_reserved.new.self.items w.push_tally.new.tallies.items
          c.self.invariant.1 refl room items (vec_capacity c.push_reserved.new.self) (vec_capacity w.push_tally.new.tallies) (omega (arith, capacity)) (omega (arith, w.push_tally.ensures.capacity))
          (subst (IsTallied i.feeders (rows ++ feeder ∷ []) counts) (sym tallies)
          (tallied_begun i.feeders rows i.counts i.tallies.items was (feeder ∷ []) counts from long counted (omega (arith, begins)) begins (omega arith))))
      | else-len-eq0 w ↦
          let begun : 0 < length rows % 512 = omega (arith, len, w.if-len-eq0.false) in
          let items = c.push_reserved.ensures.items ∙ ap (λ (now : Inside). now.row_feeders.items ++ feeder ∷ []) w.self-inside-is in
          let capacity = c.push_reserved.ensures.capacity ∙ ap (λ (now : Inside). vec_capacity now.row_feeders) w.self-inside-is in
          subst tallied (sym w.self-inside-is)
          (tallied_push i.feeders i.room (vec_capacity i.row_feeders) (vec_capacity i.tallies) 1 rows (feeder ∷ []) counts c.push_reserved.new.self.items i.tallies.items
          c.self.invariant.1 refl room items (vec_capacity c.push_reserved.new.self) (vec_capacity i.tallies) (omega (arith, capacity)) (omega arith)
          (tallied_within i.feeders rows i.counts i.tallies.items was (feeder ∷ []) counts from long counted (omega arith) begun))
    ]
