use Rattle.std.proofs.Common.{◌∙◌, ◌*◌, ◌≤◌, ap, arith}
use Rattle.bsi_bits.specs.Packed.{bits_of}
use Rattle.bsi_bits.proofs.Reading.{bits_of-replicate, all_set, none_set}
use Rattle.bsi_bits.proofs.bits.Bits.filled.Goals as goal
use Rattle.bsi_bits.proofs.bits.Bits.filled.Goals.{then-bit, else-bit}

-- each word is all ones or all zeros
pub returns : goal.returns
returns c =
    let items = c.in_ok-words.ensures.items_if_clones_equal (λ y same. same) in
    let enough : c.args.n ≤ 64 * c.div_ceil.result = rw c.div_ceil.ensures (omega arith) in
    c.from_words.ensures ∙ ap (bits_of c.args.n) items ∙ elim c.if-bit.branch [
      | then-bit w ↦
          bits_of-replicate c.args.n c.div_ceil.result c.if-bit.word c.args.bit enough (rw (w.word-is, w.if-bit.true) all_set)
      | else-bit w ↦
          bits_of-replicate c.args.n c.div_ceil.result c.if-bit.word c.args.bit enough (rw (w.word-is, w.if-bit.false) none_set)
    ]
