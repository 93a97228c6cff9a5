use Rattle.std.proofs.Common.{◌≡◌, ℕ, Bool, List, take, ◌+◌, ◌-◌, ◌<◌, ◌≤◌, false, length, get_or, ap, sym, ◌∙◌, arith}
use Rattle.std.specs.Prelude.{sum_by, count_ones}
use Rattle.std.specs.Simd.Lanes.{zip2}
use Rattle.std.proofs.lemmas.Nat.{ones-le}
use Rattle.std.proofs.lemmas.Simd.{length-zip2, get_or-zip2}
use Rattle.bsi_bits.proofs.Filling.{IsFilled, paired, filled_pairs}
use Rattle.bsi_bits.proofs.Summing.{summed_word, summed_all}
use Rattle.bsi_kernels.specs.Ranks.{narrowed_word}
use Rattle.bsi_kernels.proofs.Narrowing.{narrowed_less}
use Rattle.bsi_kernels.proofs.Passing.{stored, passed, none_added}
use Rattle.bsi_kernels.proofs.Listing.{gaps, next_after, next_step, next_within, HasGaps}
use Rattle.bsi_kernels.proofs.ranks.narrow_listed.Goals as goal

-- words of which none is kept
module _ (is_set : Bool) (old words next : List ℕ) (same : length words ≡ length old) (same_next : length next ≡ length old) where
  target : List ℕ
  target = zip2 (narrowed_word is_set) old words

  made : List ℕ
  made = zip2 (narrowed_word false) target next

  target_long : length target ≡ length old
  unfolding target
  target_long = length-zip2 (narrowed_word is_set) old words (sym same)

  made_long : length made ≡ length old
  unfolding made
  made_long = length-zip2 (narrowed_word false) target next (target_long ∙ sym same_next) ∙ target_long

  target_word : (k : ℕ) → k < length old → get_or target k 0 ≡ narrowed_word is_set (get_or old k 0) (get_or words k 0)
  unfolding target
  target_word k within = get_or-zip2 (narrowed_word is_set) old words k 0 0 0 within (omega (arith, same))

  made_word : (k : ℕ) → k < length old → get_or made k 0 ≡ narrowed_word false (get_or target k 0) (get_or next k 0)
  unfolding made
  made_word k within = get_or-zip2 (narrowed_word false) target next k 0 0 0 (omega (arith, target_long)) (omega (arith, same_next))

  stays : (k : ℕ) → get_or old k 0 ≡ 0 → narrowed_word is_set (get_or old k 0) (get_or words k 0) ≡ get_or old k 0
  stays k none = omega (arith, none, narrowed_less is_set (get_or old k 0) (get_or words k 0))

  made_none : (k : ℕ) → k < length old → get_or old k 0 ≡ 0 → get_or made k 0 ≡ 0
  made_none k within none =
      omega (arith, made_word k within, target_word k within, stays k none, none, narrowed_less false (get_or target k 0) (get_or next k 0))

  -- the words from i on and before m have no row
  module _ (i m : ℕ) (forward : i ≤ m) (within : m ≤ length old) (none : (k : ℕ) → i ≤ k → k < m → get_or old k 0 ≡ 0) where
    skipped : (now : List ℕ) → IsFilled (paired (narrowed_word is_set) words) i old now → IsFilled (paired (narrowed_word is_set) words) m old now
    skipped now filled = passed (paired (narrowed_word is_set) words) i (m - i) m old now filled (omega arith) (λ k below. stays (i + k) (none (i + k) (omega arith) (omega arith)))

    uncounted : sum_by count_ones (take m made) ≡ sum_by count_ones (take i made)
    uncounted =
        let all : i + (m - i) ≡ m = omega arith in
        sym (ap (λ n. sum_by count_ones (take n made)) all)
        ∙ none_added made i (m - i) (omega (arith, made_long)) (λ k from below. made_none k (omega arith) (none k from (omega arith)))

-- the words before the listed one have no row, and it is narrowed
pub listed-preserved : goal.listed-preserved
unfolding target made
listed-preserved c =
    let old = c.args.chosen.now in
    let words = c.args.words.now in
    let next = c.args.next.now in
    let is_set = c.args.is_set in
    let indices = c.args.listed.now.indices in
    let i = c.listed.i in
    let start = next_after indices i in
    let at = get_or indices i 0 in
    let listed = gaps (length old) indices c.args.listed.now.count old c.requires.listed in
    let within = listed.within i c.listed-test.true in
    let forward = listed.rising i c.listed-test.true in
    let none : (k : ℕ) → start ≤ k → k < at → get_or old k 0 ≡ 0 = λ k from below. listed.between i k c.listed-test.true from below in
    let filled = skipped is_set old words next c.requires.same c.requires.same_next start at forward (omega arith) none c.listed.chosen c.listed.invariant.filled in
    let counted = c.listed.invariant.counted ∙ sym (uncounted is_set old words next c.requires.same c.requires.same_next start at forward (omega arith) none) in
    let word = c.narrow_word-narrowed.result in
    let left = get_or next at 0 in
    let word_is = c.narrow_word-narrowed.ensures ∙ ap (λ x. narrowed_word is_set x (get_or words at 0)) (filled.rest at (omega arith)) ∙ sym (target_word is_set old words next c.requires.same c.requires.same_next at within) in
    let is = ap (λ x. narrowed_word false x left) word_is ∙ sym (made_word is_set old words next c.requires.same c.requires.same_next at within) in
    let more = summed_word count_ones (made is_set old words next c.requires.same c.requires.same_next) at c.listed.clear counted (narrowed_word false word left)
    (omega (arith, made_long is_set old words next c.requires.same c.requires.same_next)) is in
    rw (next_step indices i) (record {
      filled = stored (paired (narrowed_word is_set) words) at word old c.listed.chosen filled within c.narrow_word-narrowed.ensures;
      counted = ap (λ n. c.listed.clear + n) c.from-clear.ensures ∙ more;
      few = omega (arith, c.listed.invariant.few, forward, c.from-clear.ensures, ones-le 64 (narrowed_word false word left) (omega (arith, narrowed_less false word left, c.narrow_word-narrowed.type_inv)));
    })

-- the words behind the last listed one have no row
module _ (is_set : Bool) (old words next : List ℕ) (same : length words ≡ length old) (same_next : length next ≡ length old)
    (indices : List ℕ) (count i : ℕ) (listed : HasGaps (length old) indices count old) (last : i ≡ count) where
  forward : next_after indices i ≤ length old
  forward = next_within (length old) indices count old listed i (omega arith)

  none_after : (k : ℕ) → next_after indices i ≤ k → k < length old → get_or old k 0 ≡ 0
  none_after k from below = listed.after_last k (omega (arith, ap (next_after indices) last)) below

  all_narrowed : (now : List ℕ) → IsFilled (paired (narrowed_word is_set) words) (next_after indices i) old now → now ≡ target is_set old words next same same_next
  unfolding target
  all_narrowed now filled =
      filled_pairs (narrowed_word is_set) (length old) old words now (sym same)
      (skipped is_set old words next same same_next (next_after indices i) (length old) forward (omega arith) none_after now filled) (omega arith)

  all_counted : (clear : ℕ) → clear ≡ sum_by count_ones (take (next_after indices i) (made is_set old words next same same_next)) → clear ≡ sum_by count_ones (made is_set old words next same same_next)
  all_counted clear counted =
      summed_all count_ones (made is_set old words next same same_next) (length old) clear
      (counted ∙ sym (uncounted is_set old words next same same_next (next_after indices i) (length old) forward (omega arith) none_after))
      (omega (arith, made_long is_set old words next same same_next))

pub returns-clause-chosen : goal.returns-clause-chosen
unfolding target
returns-clause-chosen c =
    all_narrowed c.args.is_set c.args.chosen.now c.args.words.now c.args.next.now c.requires.same c.requires.same_next
    c.args.listed.now.indices c.args.listed.now.count c.listed.i (gaps (length c.args.chosen.now) c.args.listed.now.indices c.args.listed.now.count c.args.chosen.now c.requires.listed) (omega (arith, c.listed.auto.i-end)) c.listed.chosen c.listed.invariant.filled

pub returns-clause-clear : goal.returns-clause-clear
unfolding target made
returns-clause-clear c =
    all_counted c.args.is_set c.args.chosen.now c.args.words.now c.args.next.now c.requires.same c.requires.same_next
    c.args.listed.now.indices c.args.listed.now.count c.listed.i (gaps (length c.args.chosen.now) c.args.listed.now.indices c.args.listed.now.count c.args.chosen.now c.requires.listed) (omega (arith, c.listed.auto.i-end)) c.listed.clear c.listed.invariant.counted
    ∙ ap (λ rows. sum_by count_ones (zip2 (narrowed_word false) rows c.args.next.now)) (sym (returns-clause-chosen c))
