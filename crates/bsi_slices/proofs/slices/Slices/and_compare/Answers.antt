use Rattle.std.proofs.Common.{◌+◌, ◌*◌, ◌&&◌, length, ap, sym, ◌∙◌, arith}
use Rattle.std.specs.Prelude.{None, slice_index_or}
use Rattle.bsi_bits.specs.Packed.{bit_of}
use Rattle.bsi_digits.specs.Comparisons.{selects}
use Rattle.bsi_slices.specs.Slices.{entries_in}
use Rattle.bsi_slices.proofs.SliceEntries.{length-entries_in}
use Rattle.bsi_slices.proofs.slices.Slices.and_compare.Goals as goal

pub and_compare-requires-clause-within : goal.and_compare-requires-clause-within
and_compare-requires-clause-within c =
    let long = ap (λ e. length e.entries) (sym c.self.view_is) ∙ length-entries_in c.self.inside.not_null.bits c.self.inside.slices.vectors in
    omega (arith, c.requires, long)

pub returns : goal.returns
returns c = λ p below.
    c.and_compare.ensures p below
    ∙ ap (λ vs. bit_of c.args.span.now p && selects c.args.op c.args.constant (slice_index_or (entries_in c.self.inside.not_null.bits vs) (64 * c.args.at + p) None)) c.as_slice.ensures.vectors
    ∙ ap (λ e. bit_of c.args.span.now p && selects c.args.op c.args.constant (slice_index_or e.entries (64 * c.args.at + p) None)) c.self.view_is
