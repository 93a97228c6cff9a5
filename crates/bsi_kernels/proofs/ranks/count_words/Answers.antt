use Rattle.std.proofs.Common.{◌≡◌, ℕ, ◌+◌, ◌*◌, ◌<◌, ◌≤◌, false, length, get_or, sym, ap, refl, ◌∙◌, arith}
use Rattle.std.specs.Prelude.{sum_by, count_ones}
use Rattle.std.specs.Simd.Lanes.{zip2, chunk}
use Rattle.std.proofs.lemmas.Nat.{ones-le}
use Rattle.std.proofs.lemmas.Simd.{length-chunk, length-zip2, get_or-zip2}
use Rattle.bsi_bits.proofs.Pairs.{chunk-zip2}
use Rattle.bsi_bits.proofs.Summing.{summed_block, summed_word, summed_all}
use Rattle.bsi_kernels.specs.Ranks.{narrowed_word}
use Rattle.bsi_kernels.proofs.Narrowing.{line_words, empty_narrowed, empty_ones, narrowed_less}
use Rattle.bsi_kernels.proofs.ranks.count_words.Goals as goal

-- a line with no row
pub lines-preserved-then-is_clear : goal.lines-preserved-then-is_clear
lines-preserved-then-is_clear c =
    let words = c.args.words.now in
    let others = c.args.others.now in
    let made = zip2 (narrowed_word false) words others in
    let at : ℕ = line_words * c.lines.k in
    let within : at + line_words ≤ length words = omega (arith, c.lines-test.true) in
    let line = chunk at line_words words in
    let none : (k : ℕ) → get_or line k 0 ≡ 0 = λ k. ap (λ xs. get_or xs k 0) (sym c.as_array.ensures) ∙ c.if-is_clear.ensures.0 refl k in
    let left : line ≡ chunk at line_words made =
    empty_narrowed false line (chunk at line_words others) (length-chunk at line_words others (omega (arith, within, c.requires.same)) ∙ sym (length-chunk at line_words words within)) none
    ∙ sym (chunk-zip2 (narrowed_word false) at line_words words others (sym c.requires.same)) in
    let block : 0 ≡ sum_by count_ones (chunk at line_words made) = sym (empty_ones line none) ∙ ap (sum_by count_ones) left in
    let counted = summed_block count_ones made at c.lines.clear c.lines.invariant.counted line_words (line_words * (c.lines.k + 1)) 0 (omega arith) block in
    record {
      counted = omega (arith, counted);
      few = omega (arith, c.lines.invariant.few);
    }

-- one line more
pub lines-preserved : goal.lines-preserved
lines-preserved c =
    let words = c.args.words.now in
    let others = c.args.others.now in
    let made = zip2 (narrowed_word false) words others in
    let at : ℕ = line_words * c.lines.k in
    let block : c.ones_in-clear.result ≡ sum_by count_ones (chunk at line_words made) =
    c.ones_in-clear.ensures.ones ∙ ap (sum_by count_ones) (c.words_without.ensures ∙ sym (chunk-zip2 (narrowed_word false) at line_words words others (sym c.requires.same))) in
    record {
      counted = summed_block count_ones made at c.lines.clear c.lines.invariant.counted line_words (line_words * (c.lines.k + 1)) c.ones_in-clear.result (omega arith) block;
      few = omega (arith, c.lines.invariant.few, c.ones_in-clear.ensures.few);
    }

-- one word more
pub words-preserved : goal.words-preserved
words-preserved c =
    let words = c.args.words.now in
    let others = c.args.others.now in
    let made = zip2 (narrowed_word false) words others in
    let i = c.words.i in
    let within : i < length words = omega (arith, c.words-test.true) in
    let same : length words ≡ length others = sym c.requires.same in
    let word = get_or words i 0 in
    let left = narrowed_word false word (get_or others i 0) in
    let is : left ≡ get_or made i 0 = sym (get_or-zip2 (narrowed_word false) words others i 0 0 0 within (omega (arith, same))) in
    let more = summed_word count_ones made i c.words.clear c.words.invariant.counted left (omega (arith, length-zip2 (narrowed_word false) words others same)) is in
    record {
      counted = ap (λ n. c.words.clear + n) c.from-clear.ensures ∙ more;
      few = omega (arith, c.words.invariant.few, c.from-clear.ensures, ones-le 64 left (omega (arith, narrowed_less false word (get_or others i 0), c.type_inv.words i)));
    }

-- no word is left
pub returns : goal.returns
returns c =
    let words = c.args.words.now in
    let made = zip2 (narrowed_word false) words c.args.others.now in
    summed_all count_ones made c.words.i c.words.clear c.words.invariant.counted
    (omega (arith, c.words-test.false, length-zip2 (narrowed_word false) words c.args.others.now (sym c.requires.same)))
