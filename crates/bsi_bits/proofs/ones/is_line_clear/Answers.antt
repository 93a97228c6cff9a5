use Rattle.std.proofs.Common.{◌≡◌, ◌+◌, ◌-◌, get_or, ap, sym, ◌∙◌, arith}
use Rattle.std.proofs.lemmas.Simd.{get_or-chunk}
use Rattle.bsi_bits.proofs.ones.is_line_clear.Goals as goal

-- a word of the line
pub returns-clause-clear : goal.returns-clause-clear
returns-clause-clear c = λ clear k from below.
    let at = c.args.at in
    let words = c.args.words.now in
    let back : at + (k - at) ≡ k = omega arith in
    ap (λ i. get_or words i 0) (sym back) ∙ sym (get_or-chunk at (at + 8 - at) words (k - at) 0 (omega arith)) ∙ c.is_clear.ensures.0 clear (k - at)
