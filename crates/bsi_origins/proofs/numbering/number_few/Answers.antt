use Rattle.std.proofs.Common.{◌≡◌, ◌+◌, ◌<◌, ◌≤◌, ◌++◌, ◌∷◌, [], length, take, get_or, refl, sym, ap, subst, arith, rules, ◌∙◌}
use Rattle.std.proofs.lemmas.Iterator.Consumers.{YieldsList-end, YieldsList-from_first, YieldsList-turn}
use Rattle.std.proofs.lemmas.List.{get_or_default, length-append, take_all}
use Rattle.std.proofs.lemmas.List.Elements.{All-get_or}
use Rattle.bsi_bits.specs.BitList.{set_positions}
use Rattle.bsi_rows.specs.Numbering.{numbered_at, number_within, count_before}
use Rattle.bsi_origins.proofs.Numbers.{counted_none, numbered_more, places-rising, places-within}
use Rattle.bsi_origins.proofs.numbering.number_few.Goals as goal

pub rows-init : goal.rows-init
rows-init c = record { forward = omega arith; long = refl; counted = λ f below. counted_none 64 f; rows = c.in_ok-rows.ensures.items }

-- the next row is the next place that is set, which is no earlier than the last
pub count_forward-requires-clause-forward : goal.count_forward-requires-clause-forward
count_forward-requires-clause-forward c =
    let bits = c.args.selection.now.bits in
    let j = length c.rows.yielded in
    let turn = YieldsList-turn (YieldsList-from_first (λ x. x) (λ o. o) {s = c.into_iter-r-iterator.result} (set_positions bits) (search rules))
    c.rows.yielded c.rows.r-iterator c.rows.yielded_by c.next.result c.next.new.self c.in-Some.r c.in-Some.is c.next.ensures.steps in
    let is : c.in-Some.r ≡ get_or (set_positions bits) j (length bits) = turn.1 ∙ get_or_default (set_positions bits) j c.in-Some.r (length bits) turn.0 in
    omega (arith, is, c.rows.invariant.forward)

pub count_forward-requires-clause-within : goal.count_forward-requires-clause-within
count_forward-requires-clause-within c =
    let bits = c.args.selection.now.bits in
    let j = length c.rows.yielded in
    let turn = YieldsList-turn (YieldsList-from_first (λ x. x) (λ o. o) {s = c.into_iter-r-iterator.result} (set_positions bits) (search rules))
    c.rows.yielded c.rows.r-iterator c.rows.yielded_by c.next.result c.next.new.self c.in-Some.r c.in-Some.is c.next.ensures.steps in
    let within : get_or (set_positions bits) j c.in-Some.r < length bits = All-get_or (λ i. i < length bits) (set_positions bits) j c.in-Some.r turn.0 (places-within bits) in
    omega (arith, turn.1, within, c.requires)

pub feeder-feeder-requires : goal.feeder-feeder-requires
feeder-feeder-requires c =
    let bits = c.args.selection.now.bits in
    let j = length c.rows.yielded in
    let turn = YieldsList-turn (YieldsList-from_first (λ x. x) (λ o. o) {s = c.into_iter-r-iterator.result} (set_positions bits) (search rules))
    c.rows.yielded c.rows.r-iterator c.rows.yielded_by c.next.result c.next.new.self c.in-Some.r c.in-Some.is c.next.ensures.steps in
    let within : get_or (set_positions bits) j c.in-Some.r < length bits = All-get_or (λ i. i < length bits) (set_positions bits) j c.in-Some.r turn.0 (places-within bits) in
    omega (arith, turn.1, within, c.requires)

pub rows-preserved : goal.rows-preserved
rows-preserved c =
    let bits = c.args.selection.now.bits in
    let places = set_positions bits in
    let feeders = c.args.origins.now.rows in
    let r = c.in-Some.r in
    let j = length c.rows.yielded in
    let turn = YieldsList-turn (YieldsList-from_first (λ x. x) (λ o. o) {s = c.into_iter-r-iterator.result} (set_positions bits) (search rules))
    c.rows.yielded c.rows.r-iterator c.rows.yielded_by c.next.result c.next.new.self r c.in-Some.is c.next.ensures.steps in
    let is : r ≡ get_or places j (length bits) = turn.1 ∙ get_or_default places j r (length bits) turn.0 in
    let one : length (c.rows.yielded ++ r ∷ []) ≡ j + 1 = length-append c.rows.yielded (r ∷ []) in
    let feeder = c.feeder-feeder.result in
    let count = get_or c.count_forward.new.counts feeder 0 in
    let counted : count ≡ number_within feeders r =
    c.count_forward.ensures feeder c.feeder-feeder.ensures.within ∙ ap (count_before feeders r) c.feeder-feeder.ensures.feeder in
    record {
      forward = subst (λ k. r ≤ get_or places k (length bits)) (sym one) (omega (arith, is, places-rising bits j));
      long = c.count_forward.array_long;
      counted = c.count_forward.ensures;
      rows = c.in_ok-push.ensures.items ∙ ap (λ rows. rows ++ (c.from.result, count) ∷ []) c.rows.invariant.rows
          ∙ ap (λ f. numbered_at feeders (take j places) ++ (f, count) ∷ []) (c.from.ensures ∙ c.feeder-feeder.ensures.feeder)
          ∙ numbered_more feeders places j r count turn.0 turn.1 counted
          ∙ ap (λ k. numbered_at feeders (take k places)) (sym one);
    }

pub returns : goal.returns
returns c =
    let places = set_positions c.args.selection.now.bits in
    let end = YieldsList-end (YieldsList-from_first (λ x. x) (λ o. o) {s = c.into_iter-r-iterator.result} places (search rules))
    c.rows.yielded c.rows.r-iterator c.rows.yielded_by c.next.result c.next.new.self c.in-None.is c.next.ensures.steps in
    c.rows.invariant.rows ∙ ap (numbered_at c.args.origins.now.rows) (take_all (length c.rows.yielded) places (omega (arith, end.1)))
