use Rattle.std.proofs.Common.{ℕ, ◌+◌, ◌-◌, ◌&&◌, length, get_or, refl, arith}
use Rattle.std.specs.Prelude.{bit_and}
use Rattle.std.specs.Simd.Lanes.{chunk}
use Rattle.std.proofs.lemmas.Nat.{and_le_l}
use Rattle.bsi_bits.proofs.Logic.{and_bitwise}
use Rattle.bsi_kernels.proofs.SpanRows.{seen_more, none_seen, some_seen}
use Rattle.bsi_kernels.proofs.spans.intersects.Goals as goal

pub words-preserved : goal.words-preserved
words-preserved c =
    let n : ℕ = c.args.at + length c.args.span.now - c.args.at in
    let others = chunk c.args.at n c.words-words.result.now in
    seen_more bit_and c.args.span.now others c.words.i c.words.seen (bit_and (get_or c.args.span.now c.words.i 0) (get_or others c.words.i 0)) c.words-test.true refl c.words.invariant

-- no word is left
pub returns-clause-some : goal.returns-clause-some
returns-clause-some c =
    let n : ℕ = c.args.at + length c.args.span.now - c.args.at in
    some_seen (λ _. Unit {0}) bit_and ◌&&◌ and_bitwise.at and_le_l c.args.span.now c.words-words.result.now (λ k. tt) c.know_fits.ensures c.args.at n
    (omega arith) (omega (arith, c.words-words.ensures.few, c.requires)) c.args.bitmap.now.bits c.words-words.ensures.places c.words.i c.words.seen c.words-test.false c.words.invariant

pub returns-clause-none : goal.returns-clause-none
returns-clause-none c =
    let n : ℕ = c.args.at + length c.args.span.now - c.args.at in
    none_seen (λ _. Unit {0}) bit_and ◌&&◌ and_bitwise.at and_le_l c.args.span.now c.words-words.result.now (λ k. tt) c.know_fits.ensures c.args.at n
    (omega arith) (omega (arith, c.words-words.ensures.few, c.requires)) c.args.bitmap.now.bits c.words-words.ensures.places c.words.i c.words.seen c.words-test.false c.words.invariant
