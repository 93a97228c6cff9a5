use Rattle.std.proofs.Common.{◌≡◌, ap, map, rules, sym, subst, length, ◌∙◌}
use Rattle.std.specs.Prelude.{◌&&◌}
use Rattle.std.specs.Simd.Lanes.{zip2}
use Rattle.bsi_digits.specs.WholeNumbers.{signed_selects}
use Rattle.bsi_shift.specs.Shifted.{shifted_entries}
use Rattle.bsi_aggregates.specs.Tops.{HaveNumbers}
use Rattle.bsi_aggregates.proofs.TopsPlaces.{compared_numbers, length-compared}
use Rattle.bsi_aggregates.proofs.tops.rows_compared.Goals as goal

pub returns-clause-same : goal.returns-clause-same
returns-clause-same c =
    let selection = c.args.selection.now.bits in
    let entries = shifted_entries c.args.column.now in
    let made : c.in_ok-rows.rows.bits ≡ map (signed_selects c.args.op c.args.bound) entries = search rules in
    let is = c.and_with.ensures.bits ∙ ap (λ rows. zip2 ◌&&◌ rows selection) made in
    sym (ap length is ∙ length-compared c.args.op c.args.bound selection entries c.requires.same)

pub returns-clause-numbers : goal.returns-clause-numbers
returns-clause-numbers c =
    let selection = c.args.selection.now.bits in
    let entries = shifted_entries c.args.column.now in
    let made : c.in_ok-rows.rows.bits ≡ map (signed_selects c.args.op c.args.bound) entries = search rules in
    let is = c.and_with.ensures.bits ∙ ap (λ rows. zip2 ◌&&◌ rows selection) made in
    subst (λ rows. HaveNumbers rows entries) (sym is) (compared_numbers c.args.op c.args.bound selection entries c.requires.numbers)
