use Rattle.std.proofs.Common.{◌≡◌, length, map, ap, sym, subst, arith}
use Rattle.bsi_bits.specs.BitLists.{bits_at}
use Rattle.bsi_kernels.specs.Nulls.{AreClearAtNulls, HasBitOfNull}
use Rattle.bsi_digits.specs.Digits.{product}
use Rattle.bsi_columns.specs.Decomposed.{AreDigitsBelow}
use Rattle.bsi_columns.specs.StoredBitmaps.{places_under}
use Rattle.bsi_columns.proofs.FromBitmaps.{components_made, digits_clear, none_with_digits, none_with_null_bit, places_of_zero, some_place, split_even, split_first}
use Rattle.bsi_columns.proofs.decomposed.Decomposed.from_bitmaps.Goals as goal

pub returns-then-not-are_clear_at_nulls-clause-none : goal.returns-then-not-are_clear_at_nulls-clause-none
returns-then-not-are_clear_at_nulls-clause-none g c =
    let old = c.args.bitmaps.items in
    let rest = c.remove-not_null.new.self.items in
    let first = c.remove-not_null.result in
    let split = split_first old rest first (omega (arith, c.requires.count)) c.remove-not_null.ensures.value c.remove-not_null.ensures.by_index.2 in
    let bit = subst (HasBitOfNull first.bits) c.deref.ensures.value (c.are_clear_at_nulls.ensures.bit c.if-not-are_clear_at_nulls.true) in
    none_with_null_bit old rest first split (places_under c.args.bases) (product c.args.bases) (places_of_zero c.args.bases) bit

pub returns-in_default-clause-none : goal.returns-in_default-clause-none
returns-in_default-clause-none g c =
    let old = c.args.bitmaps.items in
    let rest = c.remove-not_null.new.self.items in
    let first = c.remove-not_null.result in
    let split = split_first old rest first (omega (arith, c.requires.count)) c.remove-not_null.ensures.value c.remove-not_null.ensures.by_index.2 in
    let valid = c.in_ok-components.ensures.valid in
    let count : length rest ≡ length (places_under c.args.bases) = omega (arith, c.requires.count, ap length split) in
    let even = split_even old rest first split c.requires.even 0 (omega (arith, count, some_place c.args.bases valid)) in
    let none = rw c.in_default.is at c.in_ok-components.ensures.none in
    none_with_digits old rest first split c.args.bases (product c.args.bases) (length (bits_at rest 0)) valid (sym even) none

pub from_components-requires-clause-digits : goal.from_components-requires-clause-digits
from_components-requires-clause-digits g c =
    let old = c.args.bitmaps.items in
    let rest = c.remove-not_null.new.self.items in
    let first = c.remove-not_null.result in
    let split = split_first old rest first (omega (arith, c.requires.count)) c.remove-not_null.ensures.value c.remove-not_null.ensures.by_index.2 in
    let valid = c.in_ok-components.ensures.valid in
    let count : length rest ≡ length (places_under c.args.bases) = omega (arith, c.requires.count, ap length split) in
    let even = split_even old rest first split c.requires.even 0 (omega (arith, count, some_place c.args.bases valid)) in
    let clear = subst (AreClearAtNulls first.bits) c.deref.ensures.value (c.are_clear_at_nulls.ensures.clear c.if-not-are_clear_at_nulls.false) in
    let below = rw c.in-Some.is at c.in_ok-components.ensures.below in
    let same = rw c.in-Some.is at c.in_ok-components.ensures.bitmaps in
    record {
      digits = subst (λ rows. AreDigitsBelow c.args.bases rows (map g.E.Encoding.digits c.in-Some.components.items)) even below;
      clear = digits_clear c.args.bases first.bits rest (map g.E.Encoding.digits c.in-Some.components.items) (length (bits_at rest 0)) valid below count same clear even;
    }

pub returns-clause-bitmaps : goal.returns-clause-bitmaps
returns-clause-bitmaps g c =
    let old = c.args.bitmaps.items in
    let rest = c.remove-not_null.new.self.items in
    let first = c.remove-not_null.result in
    let split = split_first old rest first (omega (arith, c.requires.count)) c.remove-not_null.ensures.value c.remove-not_null.ensures.by_index.2 in
    let same = rw c.in-Some.is at c.in_ok-components.ensures.bitmaps in
    components_made old rest first split c.args.bases (map g.E.Encoding.digits c.in-Some.components.items) c.from_components.result.entries c.from_components.ensures.digits same
