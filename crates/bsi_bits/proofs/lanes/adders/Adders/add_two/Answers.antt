use Rattle.std.proofs.Common.{◌≡◌, ℕ, ◌+◌, List, ap, sym, ◌∙◌, length, arith}
use Rattle.std.specs.Prelude.{sum_by, count_ones}
use Rattle.std.specs.Simd.Lanes.{zip2, chunk}
use Rattle.bsi_bits.proofs.Adding.{chunk_added}
use Rattle.bsi_bits.proofs.Pairs.{chunk-zip2}
use Rattle.bsi_bits.proofs.lanes.adders.Adders.add_two.Goals as goal

-- the block is the four words of each of the two vectors
block : (f : ℕ → ℕ → ℕ) (a b : List ℕ) (at : ℕ) (first second : List ℕ) → length a ≡ length b
    → first ≡ zip2 f (chunk at 4 a) (chunk at 4 b) → second ≡ zip2 f (chunk (at + 4) 4 a) (chunk (at + 4) 4 b)
    → sum_by count_ones (chunk at 8 (zip2 f a b)) ≡ sum_by count_ones first + sum_by count_ones second
block f a b at first second same first_is second_is =
    let low = ap (sum_by count_ones) (first_is ∙ sym (chunk-zip2 f at 4 a b same)) in
    let high = ap (sum_by count_ones) (second_is ∙ sym (chunk-zip2 f (at + 4) 4 a b same)) in
    omega (arith, low, high, chunk_added count_ones at 4 4 (zip2 f a b))

pub returns-clause-added : goal.returns-clause-added
returns-clause-added g c =
    omega (
      arith,
      block g.O.Operation.word_of c.args.a.now c.args.b.now c.args.at c.words-first.result c.words-second.result c.requires.same c.words-first.ensures c.words-second.ensures,
      c.add-added.ensures.added,
    )

pub returns-clause-few : goal.returns-clause-few
returns-clause-few g c =
    omega (
      arith,
      block g.O.Operation.word_of c.args.a.now c.args.b.now c.args.at c.words-first.result c.words-second.result c.requires.same c.words-first.ensures c.words-second.ensures,
      c.add-added.ensures.few,
    )
