use Rattle.std.proofs.Common.{◌≡◌, ◌+◌, ◌-◌, ◌++◌, ◌∷◌, [], true, false, length, take, get_or, sym, ap, subst, arith, rules, SFits, to_z-of_z, ◌∙◌, append-nil, append_assoc}
use Rattle.std.specs.Int.{w64}
use Rattle.std.proofs.lemmas.Iterator.Consumers.{YieldsList-end, YieldsList-from_first, YieldsList-turn}
use Rattle.std.proofs.lemmas.List.{length-append, take_all}
use Rattle.std.proofs.lemmas.List.Elements.{All-get_or}
use Rattle.bsi_bits.specs.BitList.{set_positions}
use Rattle.bsi_shift.specs.Shifted.{shifted_entries}
use Rattle.bsi_aggregates.specs.Tops.{rows_at}
use Rattle.bsi_aggregates.specs.declared.tops.TopRow.{TopRow}
use Rattle.bsi_aggregates.proofs.TopsPlaces.{none_past, places_set, row_more, set_within}
use Rattle.bsi_aggregates.proofs.tops.list_rows.Goals as goal

pub rows-init : goal.rows-init
rows-init c = record {
  listed = sym (append-nil c.args.listed.now.items);
  count = omega arith;
  few = c.requires.few;
  read = λ r block. none_past (shifted_entries c.args.column.now) r _ (omega (arith, block, c.words.ensures.few, c.requires.same));
}

-- the next row is the next place that is set
pub number_at-number-requires-clause-within : goal.number_at-number-requires-clause-within
number_at-number-requires-clause-within c =
    let bits = c.args.selection.now.bits in
    let j = length c.rows.yielded in
    let turn = YieldsList-turn (YieldsList-from_first (λ x. x) (λ o. o) {s = c.into_iter-row-iterator.result} (set_positions bits) (search rules))
    c.rows.yielded c.rows.row-iterator c.rows.yielded_by c.next.result c.next.new.self c.in-Some.row c.in-Some.is c.next.ensures.steps in
    let set : get_or bits c.in-Some.row false ≡ true =
    subst (λ r. get_or bits r false ≡ true) (sym turn.1) (All-get_or (λ r. get_or bits r false ≡ true) (set_positions bits) j c.in-Some.row turn.0 (places_set bits)) in
    omega (arith, c.requires.same, set_within bits c.in-Some.row set)

pub rows-preserved : goal.rows-preserved
rows-preserved c =
    let bits = c.args.selection.now.bits in
    let entries = shifted_entries c.args.column.now in
    let places = set_positions bits in
    let r = c.in-Some.row in
    let j = length c.rows.yielded in
    let turn = YieldsList-turn (YieldsList-from_first (λ x. x) (λ o. o) {s = c.into_iter-row-iterator.result} places (search rules))
    c.rows.yielded c.rows.row-iterator c.rows.yielded_by c.next.result c.next.new.self r c.in-Some.is c.next.ensures.steps in
    let set : get_or bits r false ≡ true =
    subst (λ r. get_or bits r false ≡ true) (sym turn.1) (All-get_or (λ r. get_or bits r false ≡ true) places j r turn.0 (places_set bits)) in
    let one : length (c.rows.yielded ++ r ∷ []) ≡ j + 1 = length-append c.rows.yielded (r ∷ []) in
    let row : TopRow = record { row = r; number = c.number_at-number.result } in
    let fits : SFits w64 c.number_at-number.result = search rules in
    let pushed = c.in_ok-push.ensures.items ∙ ap (λ n. c.rows.listed.items ++ (record { row = r; number = n }) ∷ []) (to_z-of_z fits) in
    let long = ap length pushed ∙ length-append c.rows.listed.items (row ∷ []) in record {
      listed = pushed ∙ ap (λ rows. rows ++ row ∷ []) c.rows.invariant.listed
          ∙ append_assoc c.args.listed.now.items (rows_at entries (take j places)) (row ∷ [])
          ∙ ap (λ rows. c.args.listed.now.items ++ rows) (row_more entries places j r c.number_at-number.result turn.0 turn.1 (c.requires.numbers r set) c.number_at-number.ensures.number)
          ∙ ap (λ k. c.args.listed.now.items ++ rows_at entries (take k places)) (sym one);
      count = omega (arith, long, one, c.rows.invariant.count);
      few = omega (arith, long, c.len.ensures, c.if-len-most.false, c.rows.invariant.few);
      read = c.number_at-number.ensures.read;
    }

pub returns : goal.returns
returns c =
    let places = set_positions c.args.selection.now.bits in
    let extreme = YieldsList-end (YieldsList-from_first (λ x. x) (λ o. o) {s = c.into_iter-row-iterator.result} places (search rules))
    c.rows.yielded c.rows.row-iterator c.rows.yielded_by c.next.result c.next.new.self c.in-None.is c.next.ensures.steps in
    c.rows.invariant.listed ∙ ap (λ rows. c.args.listed.now.items ++ rows_at (shifted_entries c.args.column.now) rows)
    (take_all (length c.rows.yielded) places (omega (arith, extreme.1))
    ∙ sym (take_all (c.args.most - length c.args.listed.now.items) places (omega (arith, extreme.1, c.rows.invariant.count, c.rows.invariant.few))))
