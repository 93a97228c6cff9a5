use Rattle.std.proofs.Common.{false, get_or, inl, inr, ap, ◌∙◌, arith}
use Rattle.std.specs.Prelude.{count_by}
use Rattle.std.specs.Simd.Lanes.{zip2}
use Rattle.std.proofs.lemmas.Bool.{cases_eq}
use Rattle.bsi_bits.specs.BitList.{without}
use Rattle.bsi_bits.specs.BitLists.{bits_at}
use Rattle.bsi_kernels.proofs.BitmapReads.{read_bitmap}
use Rattle.bsi_kernels.proofs.NullBits.{none_without, one_without}
use Rattle.bsi_kernels.proofs.nulls.are_clear_at_nulls.Goals as goal

pub returns-then-count_and_not-gt0-clause-bit : goal.returns-then-count_and_not-gt0-clause-bit
returns-then-count_and_not-gt0-clause-bit c = λ selection.
    let k = c.bitmaps.bitmap-index in
    let not_null = c.args.not_null.now.bits in
    let place = bits_at c.args.bitmaps.now k in
    let read = ap (λ r. r.bits) (read_bitmap c.args.bitmaps.now k c.bitmap-item.result c.bitmaps-test.true c.bitmap-item.is) in
    let counted = c.count_and_not.ensures ∙ ap (λ bits. count_by (λ b. b) (zip2 without bits not_null)) read in
    let one = one_without place not_null (c.requires k c.bitmaps-test.true) (omega (arith, c.if-count_and_not-gt0.true, counted)) in
    (k, one.0, c.bitmaps-test.true, one.1, one.2, one.3)

pub bitmaps-preserved : goal.bitmaps-preserved
bitmaps-preserved c = λ k r below within off. elim (cases_eq k c.bitmaps.bitmap-index) [
  | inl same ↦
      let at = c.bitmaps.bitmap-index in
      let not_null = c.args.not_null.now.bits in
      let place = bits_at c.args.bitmaps.now at in
      let read = ap (λ r. r.bits) (read_bitmap c.args.bitmaps.now at c.bitmap-item.result c.bitmaps-test.true c.bitmap-item.is) in
      let counted = c.count_and_not.ensures ∙ ap (λ bits. count_by (λ b. b) (zip2 without bits not_null)) read in
      ap (λ i. get_or (bits_at c.args.bitmaps.now i) r false) same
      ∙ none_without place not_null (c.requires at c.bitmaps-test.true) (omega (arith, c.if-count_and_not-gt0.false, counted)) r off
  | inr apart ↦ c.bitmaps.invariant k r (omega (arith, below, apart)) within off
]
