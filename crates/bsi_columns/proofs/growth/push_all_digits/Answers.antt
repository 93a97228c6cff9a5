use Rattle.std.proofs.Common.{◌≡◌, ◌<◌, ℕ, List, [], ◌++◌, length, map, get_or, ap, sym, ◌∙◌, arith}
use Rattle.bsi_columns.proofs.ComponentLists.{read_map, map_unchanged, digits_more, rest_after, room_of_old, room_spent, room_after, length-same_map}
use Rattle.bsi_columns.proofs.growth.push_all_digits.Goals as goal

pub push_all_reserved-requires-clause-base : goal.push_all_reserved-requires-clause-base
push_all_reserved-requires-clause-base g c =
    let base = g.E.Encoding.base_of in
    let items = c.loop-i.components.items in
    let old = c.args.components.now.items in
    let others = c.args.others.now in
    let at = c.loop-i.i in
    let count : length items ≡ length old = length-same_map base items old c.loop-i.invariant.bases in
    let as_many : length others ≡ length old = length-same_map base others old c.requires.bases in
    sym (read_map base others at c.index-others-i.result 0 (omega arith) c.index-others-i.is)
    ∙ ap (λ bs. get_or bs at 0) (c.requires.bases ∙ sym c.loop-i.invariant.bases)
    ∙ read_map base items at c.index_mut.result.now 0 (omega arith) c.index_mut.ensures.value

pub push_all_reserved-requires-clause-room : goal.push_all_reserved-requires-clause-room
push_all_reserved-requires-clause-room g c =
    let base = g.E.Encoding.base_of in
    let items = c.loop-i.components.items in
    let old = c.args.components.now.items in
    let others = c.args.others.now in
    let at = c.loop-i.i in
    let count : length items ≡ length old = length-same_map base items old c.loop-i.invariant.bases in
    let as_many : length others ≡ length old = length-same_map base others old c.requires.bases in
    let here = room_of_old g.E.Encoding.room_of items at c.index_mut.result.now c.index_mut.result.now (omega arith) c.index_mut.ensures.value in
    let more = ap length (read_map g.E.Encoding.digits others at c.index-others-i.result [] (omega arith) c.index-others-i.is) in
    omega (arith, here, more, c.loop-i.invariant.room at (omega arith), c.requires.room at (omega arith))

pub loop-i-preserved : goal.loop-i-preserved
loop-i-preserved g c =
    let digits = g.E.Encoding.digits in
    let room = g.E.Encoding.room_of in
    let items = c.loop-i.components.items in
    let old = c.args.components.now.items in
    let others = c.args.others.now in
    let at = c.loop-i.i in
    let read = c.index_mut.result.now in
    let new = c.push_all_reserved.new.self in
    let count : length items ≡ length old = length-same_map g.E.Encoding.base_of items old c.loop-i.invariant.bases in
    let as_many : length others ≡ length old = length-same_map g.E.Encoding.base_of others old c.requires.bases in
    let within : at < length items = omega arith in
    let added : ℕ → List ℕ = λ k. get_or (map digits others) k [] in
    let more : added at ≡ digits c.index-others-i.result = read_map digits others at c.index-others-i.result [] (omega arith) c.index-others-i.is in
    record {
      bases = map_unchanged g.E.Encoding.base_of items at read new within c.index_mut.ensures.value c.push_all_reserved.ensures.base ∙ c.loop-i.invariant.bases;
      done = digits_more digits items old at read new added within c.index_mut.ensures.value
          (c.push_all_reserved.ensures.digits ∙ ap (λ ds. digits read ++ ds) (sym more)) c.loop-i.invariant.done c.loop-i.invariant.rest;
      rest = rest_after digits items old at read new added within c.loop-i.invariant.rest;
      spent = room_spent room items at read new within c.index_mut.ensures.value old (λ k. length (added k))
          (omega (arith, c.push_all_reserved.ensures.room, ap length more)) c.loop-i.invariant.spent c.loop-i.invariant.room;
      room = room_after room items at read new within c.index_mut.ensures.value old c.loop-i.invariant.room;
    }
