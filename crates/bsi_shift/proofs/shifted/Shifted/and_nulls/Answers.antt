use Rattle.std.proofs.Common.{◌+◌, ◌*◌, ◌&&◌, ℕ, length, get_or, is_none, ap, sym, ◌∙◌, arith}
use Rattle.std.specs.Prelude.{None}
use Rattle.bsi_bits.specs.Packed.{bit_of}
use Rattle.bsi_columns.specs.AnyColumns.{any_entries}
use Rattle.bsi_shift.specs.Shifted.{shifted_entries}
use Rattle.bsi_shift.proofs.Shifting.{entry_from, length-shifted_entries, null_from}
use Rattle.bsi_shift.proofs.shifted.Shifted.and_nulls.Goals as goal

pub and_nulls-requires : goal.and_nulls-requires
and_nulls-requires c =
    let long = ap (λ v. length (any_entries v.stored)) c.self.view_is ∙ sym (length-shifted_entries c.args.self.now) in
    omega (arith, c.requires, long)

pub returns : goal.returns
returns c = λ p below.
    let inside = c.self.inside in
    let r : ℕ = 64 * c.args.at + p in
    c.and_nulls.ensures p below
    ∙ ap (◌&&◌ (bit_of c.args.span.now p))
    (sym (null_from inside.offset (get_or (any_entries inside.stored) r None))
    ∙ ap is_none (sym (entry_from (record { stored = inside.stored; offset = inside.offset }) r))
    ∙ ap (λ v. is_none (get_or (shifted_entries v) r None)) c.self.view_is)
