use Rattle.std.proofs.Common.{◌≡◌, ℕ, ◌+◌, ◌*◌, ◌-◌, ◌≤◌, length, arith}
use Rattle.std.specs.Simd.Lanes.{chunk}
use Rattle.std.proofs.lemmas.Simd.{length-chunk}
use Rattle.bsi_table.proofs.Selecting.{narrowed_more, narrowed_rest}
use Rattle.bsi_table.proofs.selection.narrow_each.Goals as goal

-- one span more
pub spans-preserved : goal.spans-preserved
spans-preserved c =
    let at : ℕ = 1024 * c.spans.k in
    let n : ℕ = c.min.result - at in
    let words = c.spans.words in
    let within : at + n ≤ length words = omega (arith, c.min.ensures, c.spans.auto.words, c.spans-test.true, c.div_ceil-k-end.ensures) in
    let size : length (chunk at n words) ≡ n = length-chunk at n words within in
    let long : length c.narrow.new.span ≡ n = omega (arith, c.narrow.auto.span, size) in
    record {
      done = λ r below row.
          narrowed_more c.args.columns.now c.args.rows c.args.pred.now c.args.words.now words c.narrow.new.span at n within long c.spans.invariant.done c.spans.invariant.rest
          (λ p low there. c.in_ok-narrow.ensures.rows p (omega (arith, low, size)) there)
          r (omega (arith, c.min.ensures, c.requires.long, c.spans.auto.words, below, row)) row;
      rest = λ r past.
          narrowed_rest c.args.columns.now c.args.rows c.args.pred.now c.args.words.now words c.narrow.new.span at n within long c.spans.invariant.done c.spans.invariant.rest
          (λ p low there. c.in_ok-narrow.ensures.rows p (omega (arith, low, size)) there)
          r (omega (arith, c.min.ensures, past));
    }
