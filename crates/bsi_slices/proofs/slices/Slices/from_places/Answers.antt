use Rattle.std.proofs.Common.{◌≡◌, ℕ, List, Option, map, ap, ap₂, sym, subst, ◌∙◌, arith}
use Rattle.std.specs.Prelude.{◌==◌, is_some}
use Rattle.std.specs.Int.{bit_at}
use Rattle.bsi_bits.specs.BitList.{BitList}
use Rattle.bsi_digits.specs.Comparisons.{number_or_zero}
use Rattle.bsi_kernels.specs.Nulls.{AreClearAtNulls}
use Rattle.bsi_slices.specs.Slices.{entries_in, IsSliced}
use Rattle.bsi_slices.proofs.FromPlaces.{number_clear}
use Rattle.bsi_slices.proofs.SliceEntries.{not_null_of, slice_of}
use Rattle.bsi_slices.proofs.slices.Slices.from_places.Goals as goal

-- the slices are those of a column
sliced : (c : goal.After-from_bits) → IsSliced c.args.not_null.bits c.args.places.items
sliced c =
    let places = c.args.places.items in
    let not_null = c.args.not_null.bits in
    let clear : AreClearAtNulls not_null places = subst (AreClearAtNulls not_null) c.deref.ensures.value (c.are_clear_at_nulls.ensures.clear c.if-not-are_clear_at_nulls.false) in
    record {
      some = c.requires.some.0;
      few = c.requires.some.1;
      small = omega (arith, c.if-prove.false, c.len.ensures.len);
      even = c.requires.even;
      clear = λ r within off. number_clear places r (λ k inside. clear k r inside within off);
    }

pub invariant_of-result : goal.invariant_of-result
invariant_of-result c =
    subst (λ (vs : List BitList). IsSliced c.from_bits.result.bits vs) (sym c.from_vectors.ensures)
    (subst (λ (b : BitList). IsSliced b.bits c.args.places.items) (sym c.from_bits.ensures) (sliced c))

-- the entries are those of what was given
given : (c : goal.After-from_bits) → entries_in c.args.not_null.bits c.args.places.items ≡ entries_in c.from_bits.result.bits c.from_vectors.result.vectors
given c = ap₂ entries_in (ap (λ (b : BitList). b.bits) (sym c.from_bits.ensures)) (sym c.from_vectors.ensures)

pub returns-clause-not_null : goal.returns-clause-not_null
returns-clause-not_null c =
    not_null_of c.args.not_null.bits c.args.places.items ∙ ap (map is_some) (given c)

pub returns-clause-places : goal.returns-clause-places
returns-clause-places c = λ k within.
    slice_of c.args.not_null.bits c.args.places.items (sliced c) k within
    ∙ ap (map (λ (e : Option ℕ). bit_at (number_or_zero e) k == 1)) (given c)
