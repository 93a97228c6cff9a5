use Rattle.std.proofs.Common.{◌≡◌, ◌+◌, ◌<◌, ◌≤◌, [], length, map, get_or, ap, sym, ◌∙◌, arith}
use Rattle.bsi_columns.proofs.ComponentLists.{apart_by, length-same_map, map_unchanged, map_unwritten, one_more, read_map}
use Rattle.bsi_columns.proofs.growth.clear_each.Goals as goal

pub loop-component-preserved : goal.loop-component-preserved
loop-component-preserved g c =
    let digits = g.E.Encoding.digits in
    let room = g.E.Encoding.room_of in
    let base = g.E.Encoding.base_of in
    let all = c.loop-component.invariant in
    let items = c.loop-component.component-items in
    let old = c.args.components.now.items in
    let at = c.loop-component.component-index in
    let read = get_or items at c.component-item.result in
    let new = c.clear.new.self in
    let is : read ≡ get_or items at read = ap (λ c. get_or items at c) c.component-item.is in
    let count : length items ≡ length old = length-same_map base items old all.bases in
    let within : at < length items = omega arith in
    let rows : length (get_or (map digits old) at []) ≡ length (digits read) = ap length (sym (all.digits_left at (omega arith)) ∙ read_map digits items at read [] within is) in
    let had : get_or (map room old) at 0 ≡ room read = sym (all.room_left at (omega arith)) ∙ read_map room items at read 0 within is in
    record {
      bases = map_unchanged base items at read new within is c.clear.ensures.base ∙ all.bases;
      done = one_more digits items at new [] within (λ k ds. ds ≡ []) c.clear.ensures.digits all.done;
      room = one_more room items at new 0 within (λ k n. length (get_or (map digits old) k []) + get_or (map room old) k 0 ≤ n)
          (omega (arith, c.clear.ensures.room, rows, had)) all.room;
      digits_left = λ k past. map_unwritten digits items at k new [] (apart_by at k past) ∙ all.digits_left k (omega arith);
      room_left = λ k past. map_unwritten room items at k new 0 (apart_by at k past) ∙ all.room_left k (omega arith);
    }
