-- A span of words that is stepped part by part.
use Rattle.std.proofs.Common.{◌≡◌, ℕ, ◌+◌, ◌-◌, ◌*◌, ◌/◌, ◌%◌, ◌<◌, ◌≤◌, Bool, List, length, get_or, take, drop, ap, sym, ◌∙◌, inl, inr, refl, rules, arith}
use Rattle.std.specs.Prelude.{◌==◌}
use Rattle.std.specs.Int.{bit_at}
use Rattle.std.proofs.lemmas.Bool.{cases_lt}
use Rattle.std.proofs.lemmas.List.{places}
use Rattle.bsi_bits.specs.Packed.{bit_of}
use Rattle.bsi_kernels.proofs.SpanBits.{bit_of-chunk}
use borrow.Rule.Slice.PartMut.{put_mid}

-- the words before `to` are stepped by the digits of their rows, and the others are as they were
pub record IsSteppedTo (to : ℕ) (step : Bool → ℕ → Bool) (digits : List ℕ) (at : ℕ) (old now : List ℕ) : Type 0 where
  pub done : (p : ℕ) → p < 64 * to → p < 64 * length old → 64 * at + p < length digits → bit_of now p ≡ step (bit_of old p) (get_or digits (64 * at + p) 0)
  pub rest : (p : ℕ) → 64 * to ≤ p → bit_of now p ≡ bit_of old p

-- the words of a part that is written over
module _ (from n : ℕ) (words new_chunk : List ℕ) (within : from + n ≤ length words) (long : length new_chunk ≡ n) where
  word_before : (i : ℕ) → i < from → get_or (put_mid from n words new_chunk) i 0 ≡ get_or words i 0
  word_before i below = search (rules, places)

  word_inside : (i : ℕ) → i < n → get_or (put_mid from n words new_chunk) (from + i) 0 ≡ get_or new_chunk i 0
  word_inside i below = search (rules, places)

  word_after : (i : ℕ) → from + n ≤ i → get_or (put_mid from n words new_chunk) i 0 ≡ get_or words i 0
  word_after i past = search (rules, places)

  pub bit_before : (p : ℕ) → p < 64 * from → bit_of (put_mid from n words new_chunk) p ≡ bit_of words p
  bit_before p below = ap (λ w. bit_at w (p % 64) == 1) (word_before (p / 64) (omega arith))

  pub bit_after : (p : ℕ) → 64 * (from + n) ≤ p → bit_of (put_mid from n words new_chunk) p ≡ bit_of words p
  bit_after p past = ap (λ w. bit_at w (p % 64) == 1) (word_after (p / 64) (omega arith))

  pub bit_inside : (p : ℕ) → p < 64 * n → bit_of (put_mid from n words new_chunk) (64 * from + p) ≡ bit_of new_chunk p
  bit_inside p below =
      let word : (64 * from + p) / 64 ≡ from + p / 64 = omega arith in
      let place : (64 * from + p) % 64 ≡ p % 64 = omega arith in
      ap (λ i. bit_at (get_or (put_mid from n words new_chunk) i 0) ((64 * from + p) % 64) == 1) word
      ∙ ap (λ w. bit_at w ((64 * from + p) % 64) == 1) (word_inside (p / 64) (omega arith))
      ∙ ap (λ i. bit_at (get_or new_chunk (p / 64) 0) i == 1) place

-- one part more, from word `from` on, up to the end or to where the next one begins
pub stepped_more : (to step_to : ℕ) (step : Bool → ℕ → Bool) (digits : List ℕ) (at n : ℕ) (old now new_chunk : List ℕ)
    → length now ≡ length old → to + n ≤ length old → length new_chunk ≡ n → to + n ≤ step_to
    → ((p : ℕ) → p < 64 * step_to → p < 64 * length old → p < 64 * (to + n))
    → IsSteppedTo to step digits at old now
    → ((p : ℕ) → p < 64 * n → 64 * (at + to) + p < length digits → bit_of new_chunk p ≡ step (bit_of (take n (drop to now)) p) (get_or digits (64 * (at + to) + p) 0))
    → IsSteppedTo step_to step digits at old (put_mid to n now new_chunk)
stepped_more to step_to step digits at n old now new_chunk same within long next reach before stepped = record {
  done = λ p below inside row. elim (cases_lt p (64 * to)) [
    | inl first ↦ bit_before to n now new_chunk (omega arith) long p first ∙ before.done p first inside row
    | inr past ↦
        let q = p - 64 * to in
        let place : 64 * to + q ≡ p = omega arith in
        let row_is : 64 * (at + to) + q ≡ 64 * at + p = omega arith in
        let in_chunk : q < 64 * n = omega (arith, reach p below inside) in
        ap (bit_of (put_mid to n now new_chunk)) (sym place)
        ∙ bit_inside to n now new_chunk (omega arith) long q in_chunk
        ∙ stepped q in_chunk (omega arith)
        ∙ ap (λ r. step (bit_of (take n (drop to now)) q) (get_or digits r 0)) row_is
        ∙ ap (λ b. step b (get_or digits (64 * at + p) 0)) (bit_of-chunk to n now q in_chunk ∙ ap (bit_of now) place ∙ before.rest p past)
  ];
  rest = λ p past. bit_after to n now new_chunk (omega arith) long p (omega arith) ∙ before.rest p (omega arith);
}
