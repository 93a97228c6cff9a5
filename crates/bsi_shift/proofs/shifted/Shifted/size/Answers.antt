use Rattle.std.proofs.Common.{sym, subst}
use Rattle.std.specs.Prelude.{All}
use Rattle.bsi_digits.specs.Offsets.{IsInRange}
use Rattle.bsi_columns.specs.AnyColumns.{any_entries}
use Rattle.bsi_shift.specs.Shifted.{shifted_entries, shifted_size}
use Rattle.bsi_shift.proofs.Shifting.{entries_from, shifted_entries-is, in_range_from}
use Rattle.bsi_shift.proofs.shifted.Shifted.size.Goals as goal

pub returns-clause-range : goal.returns-clause-range
returns-clause-range c =
    let inside = c.self.inside in
    let entries = entries_from inside.offset (any_entries inside.stored) in
    let all = in_range_from inside.offset inside.size (any_entries inside.stored) c.self.invariant.below in
    let same = shifted_entries-is (record { stored = inside.stored; offset = inside.offset }) in
    subst (λ v. All (IsInRange v.offset (shifted_size v)) (shifted_entries v)) c.self.view_is
    (subst (λ size. All (IsInRange inside.offset size) (shifted_entries (record { stored = inside.stored; offset = inside.offset }))) c.self.invariant.size_is
    (subst (All (IsInRange inside.offset inside.size)) (sym same) all))
