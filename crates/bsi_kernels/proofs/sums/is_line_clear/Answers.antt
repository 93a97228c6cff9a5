use Rattle.std.proofs.Common.{◌≡◌, ◌+◌, ◌-◌, length, get_or, inl, inr, ap, sym, ◌∙◌, arith}
use Rattle.std.proofs.lemmas.Bool.{cases_lt}
use Rattle.std.proofs.lemmas.List.{get_or_past}
use Rattle.std.proofs.lemmas.Simd.{get_or-chunk}
use Rattle.bsi_kernels.proofs.sums.is_line_clear.Goals as goal

-- a word of the line, or none
pub returns : goal.returns
returns c = λ empty k from below.
    let at = c.args.at in
    let end = c.min.result in
    let words = c.args.words.now in
    elim (cases_lt k (length words)) [
      | inl within ↦
          let back : at + (k - at) ≡ k = omega arith in
          ap (λ i. get_or words i 0) (sym back) ∙ sym (get_or-chunk at (end - at) words (k - at) 0 (omega (arith, c.min.ensures))) ∙ c.is_clear.ensures.0 empty (k - at)
      | inr past ↦ get_or_past words k 0 past
    ]
