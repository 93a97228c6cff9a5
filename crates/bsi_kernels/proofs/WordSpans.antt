-- Spans of words: the bits of a span that is read, and those of words into which a span is written.
use Rattle.std.proofs.Common.{◌≡◌, ℕ, ◌+◌, ◌-◌, ◌*◌, ◌/◌, ◌%◌, ◌^◌, ◌<◌, ◌≤◌, Bool, true, false, ◌&&◌, ◌||◌, not, List, length, get_or, map, inl, inr, ap, sym, ◌∙◌, refl, arith}
use Rattle.std.specs.Prelude.{◌==◌, replicate, bit_and, bit_or, if◌then◌else◌}
use Rattle.std.specs.Int.{bit_at, bit_not, w64}
use Rattle.std.specs.Simd.Lanes.{zip2, put_chunk}
use Rattle.std.proofs.Math.Nat.{mul-le-mul_left}
use Rattle.std.proofs.lemmas.Bool.{cases_lt}
use Rattle.std.proofs.lemmas.Bool.Decides.{nat_tests}
use Rattle.std.proofs.lemmas.List.{get_or-map, get_or-replicate, length-map}
use Rattle.std.proofs.lemmas.Nat.Bits.{bit_at_not, bit_at-lt}
use Rattle.std.proofs.lemmas.Simd.{get_or-zip2, length-zip2, get_or-put_chunk_below, get_or-put_chunk_at, get_or-put_chunk_above}
use Rattle.bsi_bits.specs.Packed.{bit_of}
pub use Rattle.bsi_bits.proofs.InWords.{bit_of-chunk}
use Rattle.bsi_bits.proofs.Logic.{IsBitwise, and_bitwise, or_bitwise}
use Rattle.bsi_kernels.specs.Spans.{IsWrittenWithin, IsIntersected}

-- span k of n words is within as many as hold it
pub span_room : (n k len : ℕ) → 1 ≤ n → k < len / n → n * (k + 1) ≤ len
span_room n k len some below =
    let m : n * (k + 1) ≤ n * (len / n) = mul-le-mul_left n (omega arith) in
    omega arith

module _ (at : ℕ) (words ys : List ℕ) (fits : at + length ys ≤ length words) where
  -- a bit within the span that was written, before it and after it
  pub bit_in_span : (p : ℕ) → p < 64 * length ys → bit_of (put_chunk at words ys) (64 * at + p) ≡ bit_of ys p
  bit_in_span p within =
      let word : (64 * at + p) / 64 ≡ at + p / 64 = omega arith in
      let place : (64 * at + p) % 64 ≡ p % 64 = omega arith in
      ap (λ k. bit_at (get_or (put_chunk at words ys) k 0) ((64 * at + p) % 64) == 1) word
      ∙ ap (λ w. bit_at w ((64 * at + p) % 64) == 1) (get_or-put_chunk_at at words ys (p / 64) 0 (omega arith) fits)
      ∙ ap (λ k. bit_at (get_or ys (p / 64) 0) k == 1) place

  pub bit_before_span : (r : ℕ) → r < 64 * at → bit_of (put_chunk at words ys) r ≡ bit_of words r
  bit_before_span r below = ap (λ w. bit_at w (r % 64) == 1) (get_or-put_chunk_below at words ys (r / 64) 0 (omega arith))

  pub bit_after_span : (r : ℕ) → 64 * (at + length ys) ≤ r → bit_of (put_chunk at words ys) r ≡ bit_of words r
  bit_after_span r past = ap (λ w. bit_at w (r % 64) == 1) (get_or-put_chunk_above at words ys (r / 64) 0 (omega arith))

-- bits that are P up to word i are so up to word m, once a span whose bits are P stands there
pub stored_bits : (P : ℕ → Bool) (i n m : ℕ) (words ys : List ℕ) → m ≡ i + n → length ys ≡ n → m ≤ length words
    → ((r : ℕ) → r < 64 * i → bit_of words r ≡ P r) → ((p : ℕ) → p < 64 * n → bit_of ys p ≡ P (64 * i + p))
    → (r : ℕ) → r < 64 * m → bit_of (put_chunk i words ys) r ≡ P r
stored_bits P i n m words ys next long within before each r below = elim (cases_lt r (64 * i)) [
  | inl first ↦ bit_before_span i words ys (omega arith) r first ∙ before r first
  | inr from ↦
      let place : 64 * i + (r - 64 * i) ≡ r = omega arith in
      ap (bit_of (put_chunk i words ys)) (sym place)
      ∙ bit_in_span i words ys (omega arith) (r - 64 * i) (omega arith)
      ∙ each (r - 64 * i) (omega arith)
      ∙ ap P place
]

-- a Boolean operation on two spans, place by place
pub zipped_bit : (IsFit : ℕ → Type 0) (word_of : ℕ → ℕ → ℕ) (bit : Bool → Bool → Bool) → IsBitwise IsFit word_of bit
    → (xs ys : List ℕ) → length xs ≡ length ys → ((k : ℕ) → IsFit (get_or ys k 0)) → (p : ℕ) → p < 64 * length xs
    → bit_of (zip2 word_of xs ys) p ≡ bit (bit_of xs p) (bit_of ys p)
zipped_bit IsFit word_of bit bitwise xs ys same fit p within =
    ap (λ w. bit_at w (p % 64) == 1) (get_or-zip2 word_of xs ys (p / 64) 0 0 0 (omega arith) (omega arith))
    ∙ bitwise.at (get_or xs (p / 64) 0) (get_or ys (p / 64) 0) (p % 64) (fit (p / 64)) (omega arith)

pub and_bit : (xs ys : List ℕ) → length xs ≡ length ys → (p : ℕ) → p < 64 * length xs → bit_of (zip2 bit_and xs ys) p ≡ (bit_of xs p && bit_of ys p)
and_bit xs ys same = zipped_bit (λ _. Unit {0}) bit_and ◌&&◌ and_bitwise xs ys same (λ k. tt)

pub or_bit : (xs ys : List ℕ) → length xs ≡ length ys → (p : ℕ) → p < 64 * length xs → bit_of (zip2 bit_or xs ys) p ≡ (bit_of xs p || bit_of ys p)
or_bit xs ys same = zipped_bit (λ _. Unit {0}) bit_or ◌||◌ or_bitwise xs ys same (λ k. tt)

turned_digit : (a : ℕ) → a < 2 → (1 - a == 1) ≡ not (a == 1)
turned_digit a low = grind (arith, nat_tests)

-- the complement of a span
pub not_bit : (ys : List ℕ) → ((k : ℕ) → get_or ys k 0 < 2 ^ 64) → (p : ℕ) → p < 64 * length ys → bit_of (map (bit_not w64) ys) p ≡ not (bit_of ys p)
not_bit ys fits p within =
    ap (λ w. bit_at w (p % 64) == 1) (get_or-map (bit_not w64) ys (p / 64) 0 0 (omega arith))
    ∙ ap (λ b. b == 1) (bit_at_not w64 (get_or ys (p / 64) 0) (p % 64) (fits (p / 64)) (omega arith))
    ∙ turned_digit (bit_at (get_or ys (p / 64) 0) (p % 64)) (bit_at-lt (get_or ys (p / 64) 0) (p % 64))

-- words of a span of one word
pub replicate_bit : (n word : ℕ) (bit : Bool) → ((j : ℕ) → j < 64 → (bit_at word j == 1) ≡ bit) → (p : ℕ) → p < 64 * n → bit_of (replicate n word) p ≡ bit
replicate_bit n word bit alike p within = ap (λ w. bit_at w (p % 64) == 1) (get_or-replicate n (p / 64) word 0 (omega arith)) ∙ alike (p % 64) (omega arith)

-- so many spans are written, and one more
pub written_more : (bit : ℕ → Bool) (from to n m : ℕ) (old now ys : List ℕ) → m ≡ to + n → from ≤ to → length ys ≡ n → m ≤ length now → IsWrittenWithin bit from to old now
    → ((p : ℕ) → p < 64 * n → bit_of ys p ≡ bit (64 * to + p)) → IsWrittenWithin bit from m old (put_chunk to now ys)
written_more bit from to n m old now ys next above long within written each = record {
  inside = λ r low high. elim (cases_lt r (64 * to)) [
    | inl first ↦ bit_before_span to now ys (omega arith) r first ∙ written.inside r low first
    | inr past ↦
        let place : 64 * to + (r - 64 * to) ≡ r = omega arith in
        ap (bit_of (put_chunk to now ys)) (sym place)
        ∙ bit_in_span to now ys (omega arith) (r - 64 * to) (omega arith)
        ∙ each (r - 64 * to) (omega arith)
        ∙ ap bit place
  ];
  before = λ r below. bit_before_span to now ys (omega arith) r (omega arith) ∙ written.before r below;
  after = λ r past. bit_after_span to now ys (omega arith) r (omega arith) ∙ written.after r (omega arith);
}

-- none is written yet
pub written_none : (bit : ℕ → Bool) (from to : ℕ) (old : List ℕ) → to ≡ from → IsWrittenWithin bit from to old old
written_none bit from to old same = record {
  inside = λ r low high. absurd (omega arith);
  before = λ r below. refl;
  after = λ r past. refl;
}

-- so many spans are kept, and one more is
pub narrowed_more : (passes : ℕ → Bool) (from to n m : ℕ) (old now ys : List ℕ) → m ≡ to + n → from ≤ to → length ys ≡ n → m ≤ length now → IsIntersected passes from to old now
    → ((p : ℕ) → p < 64 * n → bit_of ys p ≡ (bit_of now (64 * to + p) && passes (64 * to + p))) → IsIntersected passes from m old (put_chunk to now ys)
narrowed_more passes from to n m old now ys next above long within narrowed each =
    written_more (λ r. bit_of old r && passes r) from to n m old now ys next above long within narrowed
    (λ p below. each p below ∙ ap (λ b. b && passes (64 * to + p)) (narrowed.after (64 * to + p) (omega arith)))

-- ---- a span cut by another

-- a truth value, turned if it is to be
abbrev pub turned : Bool → Bool → Bool
turned negated b = if negated then not b else b

module _ (n : ℕ) (narrowed other : List ℕ) (long : length narrowed ≡ n) (same : length other ≡ n) where
  pub cut_bit : (negated : Bool) → ((k : ℕ) → get_or other k 0 < 2 ^ 64) → (p : ℕ) → p < 64 * n
      → bit_of (if negated then zip2 bit_and narrowed (map (bit_not w64) other) else zip2 bit_and narrowed other) p ≡ (bit_of narrowed p && turned negated (bit_of other p))
  cut_bit true fits p within =
      and_bit narrowed (map (bit_not w64) other) (long ∙ sym same ∙ sym (length-map other (bit_not w64))) p (omega arith)
      ∙ ap (λ b. bit_of narrowed p && b) (not_bit other fits p (omega arith))
  cut_bit false fits p within = and_bit narrowed other (long ∙ sym same) p (omega arith)

  pub cut_long : (negated : Bool) → length (if negated then zip2 bit_and narrowed (map (bit_not w64) other) else zip2 bit_and narrowed other) ≡ n
  cut_long true = length-zip2 bit_and narrowed (map (bit_not w64) other) (long ∙ sym same ∙ sym (length-map other (bit_not w64))) ∙ long
  cut_long false = length-zip2 bit_and narrowed other (long ∙ sym same) ∙ long

-- ---- a span ordered by another

module _ (n : ℕ) (low digits : List ℕ) (long : length low ≡ n) (same : length digits ≡ n) where
  even : length low ≡ length (map (bit_not w64) digits)
  even = long ∙ sym same ∙ sym (length-map digits (bit_not w64))

  pub ordered_bit : ((k : ℕ) → get_or digits k 0 < 2 ^ 64) → (one : Bool) (p : ℕ) → p < 64 * n
      → bit_of (if one then zip2 bit_or low (map (bit_not w64) digits) else zip2 bit_and low (map (bit_not w64) digits)) p
      ≡ (if one then (bit_of low p || not (bit_of digits p)) else (bit_of low p && not (bit_of digits p)))
  ordered_bit fits true p within =
      or_bit low (map (bit_not w64) digits) even p (omega arith) ∙ ap (λ b. bit_of low p || b) (not_bit digits fits p (omega arith))
  ordered_bit fits false p within =
      and_bit low (map (bit_not w64) digits) even p (omega arith) ∙ ap (λ b. bit_of low p && b) (not_bit digits fits p (omega arith))

  pub ordered_long : (one : Bool) → length (if one then zip2 bit_or low (map (bit_not w64) digits) else zip2 bit_and low (map (bit_not w64) digits)) ≡ n
  ordered_long true = length-zip2 bit_or low (map (bit_not w64) digits) even ∙ long
  ordered_long false = length-zip2 bit_and low (map (bit_not w64) digits) even ∙ long
