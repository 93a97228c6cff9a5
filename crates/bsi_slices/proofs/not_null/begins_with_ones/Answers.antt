use Rattle.std.proofs.Common.{◌+◌, ◌-◌, ◌^◌, ◌≤◌, ◌<◌, inl, inr, ap, ◌∙◌, w64, arith}
use Rattle.std.specs.Int.{bit_at}
use Rattle.std.proofs.lemmas.Bool.{cases_eq, leb-true}
use Rattle.std.proofs.lemmas.Nat.Bits.{bit_at_ones, bit_at-trailing_ones}
use Rattle.bsi_slices.proofs.not_null.begins_with_ones.Goals as goal

-- all places of a word of ones, and else those below the lowest 0
pub returns : goal.returns
returns c = λ said i below. elim (cases_eq c.args.word (2 ^ 64 - 1)) [
  | inl full ↦ ap (λ w. bit_at w i) full ∙ bit_at_ones 64 i (omega (arith, below, c.requires))
  | inr apart ↦
      let small : c.args.word + 1 < 2 ^ 64 = omega (arith, c.ranges.word.fits, apart) in
      let ones : c.args.count ≤ c.trailing_ones.result = leb-true c.args.count c.trailing_ones.result said in
      (bit_at-trailing_ones w64 c.args.word small).2 i (omega (arith, below, ones, c.trailing_ones.ensures))
]
