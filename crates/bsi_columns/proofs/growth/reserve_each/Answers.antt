use Rattle.std.proofs.Common.{◌≡◌, ◌+◌, ◌<◌, ◌≤◌, ℕ, List, [], length, get_or, set, take, drop, map, ◌++◌, ap, sym, subst, ◌∙◌, arith}
use Rattle.std.proofs.Math.Seq.{take-append_seam}
use Rattle.std.proofs.lemmas.List.{get_or-map, length-set}
use Rattle.bsi_bits.specs.BitList.{max_len}
use Rattle.bsi_columns.proofs.ComponentLists.{map_unchanged, room_no_less, room_more, length-same_map}
use Rattle.bsi_columns.proofs.growth.reserve_each.Goals as goal

pub reserve-requires : goal.reserve-requires
reserve-requires g c =
    let digits = g.E.Encoding.digits in
    let items = c.loop-component.component-items in
    let old = c.args.components.now.items in
    let at = c.loop-component.component-index in
    let read = get_or items at c.component-item.result in
    let count : length items ≡ length old = length-same_map digits items old c.loop-component.invariant.digits in
    let same : digits (get_or old at read) ≡ digits read =
    sym (get_or-map digits old at read [] (omega arith))
    ∙ ap (λ (ds : List (List ℕ)). get_or ds at []) (sym c.loop-component.invariant.digits)
    ∙ get_or-map digits items at c.component-item.result [] (omega arith) in
    subst (λ (ds : List ℕ). length ds + c.args.more ≤ max_len) same (c.requires at read (omega arith))

-- a slice of a whole vector, written back into it
written_back : {X : Type 0} (xs ys : List X) (n : ℕ) → n ≡ length xs → take n (xs ++ drop (length xs) ys) ≡ xs
written_back xs ys n whole = ap (λ k. take k (xs ++ drop (length xs) ys)) whole ∙ take-append_seam xs (drop (length xs) ys)

pub returns-in_err-reserve-clause-digits : goal.returns-in_err-reserve-clause-digits
returns-in_err-reserve-clause-digits g c =
    let items = c.loop-component.component-items in
    let old = c.args.components.now.items in
    let at = c.loop-component.component-index in
    let new = c.reserve.new.self in
    let count : length items ≡ length old = length-same_map g.E.Encoding.digits items old c.loop-component.invariant.digits in
    let is = ap (λ c. get_or items at c) c.component-item.is in
    ap (map g.E.Encoding.digits) (written_back (set items at new) old _ (omega (arith, count, length-set items at new, c.args.components.now.ok.0)))
    ∙ map_unchanged g.E.Encoding.digits items at _ new (omega arith) is c.reserve.ensures.digits ∙ c.loop-component.invariant.digits

pub returns-in_err-reserve-clause-bases : goal.returns-in_err-reserve-clause-bases
returns-in_err-reserve-clause-bases g c =
    let items = c.loop-component.component-items in
    let old = c.args.components.now.items in
    let at = c.loop-component.component-index in
    let new = c.reserve.new.self in
    let count : length items ≡ length old = length-same_map g.E.Encoding.digits items old c.loop-component.invariant.digits in
    let is = ap (λ c. get_or items at c) c.component-item.is in
    ap (map g.E.Encoding.base_of) (written_back (set items at new) old _ (omega (arith, count, length-set items at new, c.args.components.now.ok.0)))
    ∙ map_unchanged g.E.Encoding.base_of items at _ new (omega arith) is c.reserve.ensures.base ∙ c.loop-component.invariant.bases

pub returns-in_err-reserve-clause-no_less : goal.returns-in_err-reserve-clause-no_less
returns-in_err-reserve-clause-no_less g c = λ k.
    let room = g.E.Encoding.room_of in
    let items = c.loop-component.component-items in
    let old = c.args.components.now.items in
    let at = c.loop-component.component-index in
    let new = c.reserve.new.self in
    let count : length items ≡ length old = length-same_map g.E.Encoding.digits items old c.loop-component.invariant.digits in
    let is = ap (λ c. get_or items at c) c.component-item.is in
    let decomposes = room_no_less room items at _ new (omega arith) is c.reserve.ensures.no_less k in
    let whole = written_back (set items at new) old c.args.components.now.len (omega (arith, count, length-set items at new, c.args.components.now.ok.0)) in
    omega (arith, c.loop-component.invariant.no_less k, decomposes, ap (λ cs. get_or (map room cs) k 0) whole)

pub loop-component-preserved : goal.loop-component-preserved
loop-component-preserved g c =
    let room = g.E.Encoding.room_of in
    let all = c.loop-component.invariant in
    let items = c.loop-component.component-items in
    let at = c.loop-component.component-index in
    let read = get_or items at c.component-item.result in
    let new = c.reserve.new.self in
    let is : read ≡ get_or items at read = ap (λ c. get_or items at c) c.component-item.is in
    let count : length items ≡ length c.args.components.now.items = length-same_map g.E.Encoding.digits items c.args.components.now.items all.digits in
    let within : at < length items = omega arith in
    record {
      digits = map_unchanged g.E.Encoding.digits items at read new within is c.reserve.ensures.digits ∙ all.digits;
      bases = map_unchanged g.E.Encoding.base_of items at read new within is c.reserve.ensures.base ∙ all.bases;
      no_less = λ k. omega (arith, all.no_less k, room_no_less room items at read new within is c.reserve.ensures.no_less k);
      room = room_more room items at read new within is c.args.more c.in_ok-reserve.ensures.ok all.room;
    }
