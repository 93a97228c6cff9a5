use Rattle.std.proofs.Common.{◌≡◌, ◌<◌, ℕ, List, [], ◌∷◌, ◌++◌, length, ap, ◌∙◌, refl, arith}
use Rattle.bsi_digits.specs.Digits.{digit_of}
use Rattle.bsi_columns.proofs.ComponentLists.{map_unchanged, digits_more, rest_after, room_of_old, room_spent, room_after, length-map_is}
use Rattle.bsi_columns.proofs.growth.push_digits.Goals as goal

pub loop-i-init : goal.loop-i-init
loop-i-init g c = record {
  quotient = omega arith;
  bases = c.requires.bases;
  done = λ k below. absurd (omega arith);
  rest = λ k from. refl;
  spent = λ k. omega arith;
  room = λ k from. refl;
}

pub push_reserved-requires-clause-room : goal.push_reserved-requires-clause-room
push_reserved-requires-clause-room g c =
    let items = c.loop-i.components.items in
    let at = c.loop-i.i in
    let count : length items ≡ length c.args.bases.now = length-map_is g.E.Encoding.base_of items c.args.bases.now c.loop-i.invariant.bases in
    let first : length c.args.components.now.items ≡ length c.args.bases.now = length-map_is g.E.Encoding.base_of c.args.components.now.items c.args.bases.now c.requires.bases in
    let here = room_of_old g.E.Encoding.room_of items at c.index_mut.result.now c.index_mut.result.now (omega arith) c.index_mut.ensures.value in
    omega (arith, here, c.loop-i.invariant.room at (omega arith), c.requires.room at (omega arith))

pub loop-i-preserved : goal.loop-i-preserved
loop-i-preserved g c =
    let items = c.loop-i.components.items in
    let old = c.args.components.now.items in
    let at = c.loop-i.i in
    let read = c.index_mut.result.now in
    let new = c.push_reserved.new.self in
    let count : length items ≡ length c.args.bases.now = length-map_is g.E.Encoding.base_of items c.args.bases.now c.loop-i.invariant.bases in
    let within : at < length items = omega arith in
    let added : ℕ → List ℕ = λ k. digit_of c.args.bases.now c.args.number k ∷ [] in
    record {
      quotient = c.next_digit-digit.ensures.above;
      bases = map_unchanged g.E.Encoding.base_of items at read new within c.index_mut.ensures.value c.push_reserved.ensures.base ∙ c.loop-i.invariant.bases;
      done = digits_more g.E.Encoding.digits items old at read new added within c.index_mut.ensures.value
          (c.push_reserved.ensures.digits ∙ ap (λ d. g.E.Encoding.digits read ++ d ∷ []) c.next_digit-digit.ensures.digit) c.loop-i.invariant.done c.loop-i.invariant.rest;
      rest = rest_after g.E.Encoding.digits items old at read new added within c.loop-i.invariant.rest;
      spent = room_spent g.E.Encoding.room_of items at read new within c.index_mut.ensures.value old (λ j. 1) c.push_reserved.ensures.room c.loop-i.invariant.spent c.loop-i.invariant.room;
      room = room_after g.E.Encoding.room_of items at read new within c.index_mut.ensures.value old c.loop-i.invariant.room;
    }
