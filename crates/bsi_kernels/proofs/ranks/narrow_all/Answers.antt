use Rattle.std.proofs.Common.{◌≡◌, ℕ, ◌+◌, ◌*◌, ◌<◌, ◌≤◌, false, List, length, get_or, sym, ap, refl, ◌∙◌, arith}
use Rattle.std.specs.Prelude.{sum_by, count_ones}
use Rattle.std.specs.Simd.Lanes.{zip2, chunk}
use Rattle.std.proofs.lemmas.Nat.{ones-le}
use Rattle.std.proofs.lemmas.Simd.{length-chunk, length-zip2, get_or-chunk, get_or-zip2}
use Rattle.std.proofs.lemmas.Grind.{same_number_lists}
use Rattle.bsi_bits.proofs.Pairs.{chunk-zip2}
use Rattle.bsi_bits.proofs.Filling.{IsFilled, paired, filled_block, filled_pairs}
use Rattle.bsi_bits.proofs.Summing.{summed_block, summed_word, summed_all}
use Rattle.bsi_kernels.specs.Ranks.{narrowed_word}
use Rattle.bsi_kernels.proofs.Narrowing.{line_words, empty_narrowed, empty_ones, narrowed_less}
use Rattle.bsi_kernels.proofs.Passing.{stored, passed}
use Rattle.bsi_kernels.proofs.ranks.narrow_all.Goals as goal

-- the words that are not written yet
unwritten : (f : ℕ → ℕ → ℕ) (i n : ℕ) (old now : List ℕ) → IsFilled f i old now → i + n ≤ length old → chunk i n now ≡ chunk i n old
unwritten f i n old now filled within =
    same_number_lists (chunk i n now) (chunk i n old) (length-chunk i n now (omega (arith, filled.long)) ∙ sym (length-chunk i n old within)) (λ k below.
    let inside : k < n = omega (arith, below, length-chunk i n now (omega (arith, filled.long))) in
    get_or-chunk i n now k 0 inside ∙ filled.rest (i + k) (omega arith) ∙ sym (get_or-chunk i n old k 0 inside))

-- a line with no row
pub lines-preserved-then-is_clear : goal.lines-preserved-then-is_clear
lines-preserved-then-is_clear c =
    let old = c.args.chosen.now in
    let words = c.args.words.now in
    let next = c.args.next.now in
    let f = narrowed_word c.args.is_set in
    let target = zip2 f old words in
    let made = zip2 (narrowed_word false) target next in
    let at : ℕ = line_words * c.lines.k in
    let same : length old ≡ length words = sym c.requires.same in
    let long : length target ≡ length old = length-zip2 f old words same in
    let within : at + line_words ≤ length old = omega (arith, c.lines-test.true) in
    let line = chunk at line_words old in
    let line_long : length line ≡ line_words = length-chunk at line_words old within in
    let line_is = c.as_array.ensures ∙ unwritten (paired f words) at line_words old c.lines.chosen c.lines.invariant.filled within in
    let none : (k : ℕ) → get_or line k 0 ≡ 0 = λ k. ap (λ xs. get_or xs k 0) (sym line_is) ∙ c.if-is_clear.ensures.0 refl k in
    let narrowed : line ≡ chunk at line_words target = empty_narrowed c.args.is_set line (chunk at line_words words) (length-chunk at line_words words (omega (arith, within, same)) ∙ sym line_long) none ∙ sym (chunk-zip2 f at line_words old words same) in
    let left : line ≡ chunk at line_words made =
    empty_narrowed false line (chunk at line_words next) (length-chunk at line_words next (omega (arith, within, c.requires.same_next)) ∙ sym line_long) none
    ∙ ap (λ xs. zip2 (narrowed_word false) xs (chunk at line_words next)) narrowed ∙ sym (chunk-zip2 (narrowed_word false) at line_words target next (long ∙ sym c.requires.same_next)) in
    let block : 0 ≡ sum_by count_ones (chunk at line_words made) = sym (empty_ones line none) ∙ ap (sum_by count_ones) left in
    let counted = summed_block count_ones made at c.lines.clear c.lines.invariant.counted line_words (line_words * (c.lines.k + 1)) 0 (omega arith) block in
    record {
      filled = passed (paired f words) at line_words (line_words * (c.lines.k + 1)) old c.lines.chosen c.lines.invariant.filled (omega arith) (λ k below.
          let zero : get_or old (at + k) 0 ≡ 0 = sym (get_or-chunk at line_words old k 0 below) ∙ none k in
          omega (arith, zero, narrowed_less c.args.is_set (get_or old (at + k) 0) (get_or words (at + k) 0)));
      counted = omega (arith, counted);
      few = omega (arith, c.lines.invariant.few);
    }

-- one line more
pub lines-preserved : goal.lines-preserved
lines-preserved c =
    let old = c.args.chosen.now in
    let f = narrowed_word c.args.is_set in
    let target = zip2 f old c.args.words.now in
    let made = zip2 (narrowed_word false) target c.args.next.now in
    let at : ℕ = line_words * c.lines.k in
    let same : length old ≡ length c.args.words.now = sym c.requires.same in
    let long : length target ≡ length old = length-zip2 f old c.args.words.now same in
    let within : at + line_words ≤ length old = omega (arith, c.lines-test.true) in
    let narrowed_is : c.narrow_line-narrowed.result ≡ chunk at line_words target =
    c.narrow_line-narrowed.ensures ∙ ap (λ xs. zip2 f xs (chunk at line_words c.args.words.now)) (unwritten (paired f c.args.words.now) at line_words old c.lines.chosen c.lines.invariant.filled within)
    ∙ sym (chunk-zip2 f at line_words old c.args.words.now same) in
    let block : c.ones_in-clear.result ≡ sum_by count_ones (chunk at line_words made) =
    c.ones_in-clear.ensures.ones ∙ ap (sum_by count_ones) c.words_without.ensures ∙ ap (λ xs. sum_by count_ones (zip2 (narrowed_word false) xs (chunk at line_words c.args.next.now))) narrowed_is
    ∙ ap (sum_by count_ones) (sym (chunk-zip2 (narrowed_word false) at line_words target c.args.next.now (long ∙ sym c.requires.same_next))) in
    let filled = filled_block f at old c.args.words.now c.lines.chosen same c.lines.invariant.filled line_words (line_words * (c.lines.k + 1)) (omega arith) (omega (arith, within)) in
    rw c.narrow_line-narrowed.ensures (record {
      filled = filled;
      counted = summed_block count_ones made at c.lines.clear c.lines.invariant.counted line_words (line_words * (c.lines.k + 1)) c.ones_in-clear.result (omega arith) block;
      few = omega (arith, c.lines.invariant.few, c.ones_in-clear.ensures.few);
    })

pub words-preserved : goal.words-preserved
words-preserved c =
    let old = c.args.chosen.now in
    let f = narrowed_word c.args.is_set in
    let target = zip2 f old c.args.words.now in
    let made = zip2 (narrowed_word false) target c.args.next.now in
    let i = c.words.i in
    let within : i < length old = omega (arith, c.words-test.true, c.lines.invariant.filled.long) in
    let same : length old ≡ length c.args.words.now = sym c.requires.same in
    let long : length target ≡ length old = length-zip2 f old c.args.words.now same in
    let made_long : length made ≡ length old = length-zip2 (narrowed_word false) target c.args.next.now (long ∙ sym c.requires.same_next) ∙ long in
    let word = c.narrow_word-narrowed.result in
    let word_is : word ≡ get_or target i 0 =
    c.narrow_word-narrowed.ensures ∙ ap (λ x. f x (get_or c.args.words.now i 0)) (c.words.invariant.filled.rest i (omega arith))
    ∙ sym (get_or-zip2 f old c.args.words.now i 0 0 0 within (omega (arith, same))) in
    let next = get_or c.args.next.now i 0 in
    let is : narrowed_word false word next ≡ get_or made i 0 =
    ap (λ x. narrowed_word false x next) word_is
    ∙ sym (get_or-zip2 (narrowed_word false) target c.args.next.now i 0 0 0 (omega (arith, long)) (omega (arith, c.requires.same_next))) in
    let more = summed_word count_ones made i c.words.clear c.words.invariant.counted (narrowed_word false word next) (omega (arith, made_long)) is in
    record {
      filled = stored (paired f c.args.words.now) i word old c.words.chosen c.words.invariant.filled within c.narrow_word-narrowed.ensures;
      counted = ap (λ n. c.words.clear + n) c.from-clear.ensures ∙ more;
      few = omega (arith, c.words.invariant.few, c.from-clear.ensures, ones-le 64 (narrowed_word false word next) (omega (arith, narrowed_less false word next, c.narrow_word-narrowed.type_inv)));
    }

-- no word is left
pub returns-clause-chosen : goal.returns-clause-chosen
returns-clause-chosen c =
    filled_pairs (narrowed_word c.args.is_set) c.words.i c.args.chosen.now c.args.words.now c.words.chosen (sym c.requires.same) c.words.invariant.filled (omega (arith, c.words-test.false))

pub returns-clause-clear : goal.returns-clause-clear
returns-clause-clear c =
    let old = c.args.chosen.now in
    let f = narrowed_word c.args.is_set in
    let target = zip2 f old c.args.words.now in
    let made = zip2 (narrowed_word false) target c.args.next.now in
    let long : length target ≡ length old = length-zip2 f old c.args.words.now (sym c.requires.same) in
    let made_long : length made ≡ length old = length-zip2 (narrowed_word false) target c.args.next.now (long ∙ sym c.requires.same_next) ∙ long in
    let all = filled_pairs f c.words.i old c.args.words.now c.words.chosen (sym c.requires.same) c.words.invariant.filled (omega (arith, c.words-test.false)) in
    summed_all count_ones made c.words.i c.words.clear c.words.invariant.counted (omega (arith, c.words-test.false, made_long))
    ∙ ap (λ rows. sum_by count_ones (zip2 (narrowed_word false) rows c.args.next.now)) (sym all)
