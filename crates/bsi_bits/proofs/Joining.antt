-- Packed bits appended to packed bits.
use Rattle.std.proofs.Common.{◌≡◌, ◌≢◌, ℕ, ◌+◌, ◌-◌, ◌*◌, ◌/◌, ◌%◌, ◌^◌, ◌<◌, ◌≤◌, false, List, [], ◌∷◌, ◌++◌, length, get_or, set, inl, inr, ap, ap₂, sym, ◌∙◌, arith, subst, length-append}
use Rattle.std.specs.Prelude.{◌==◌, bit_or}
use Rattle.std.specs.Int.{bit_at}
use Rattle.std.proofs.lemmas.Nat.Bits.{bit_at_above}
use Rattle.std.proofs.lemmas.List.{get_or_append_left, get_or-append_right}
use Rattle.std.proofs.lemmas.Bool.{cases_lt}
use Rattle.bsi_bits.specs.Packed.{bit_of, bits_of, IsPacked}
use Rattle.bsi_bits.proofs.Reading.{bits_are, length-bits_of, get_or-bits_of}
use Rattle.std.proofs.Math.Seq.{get_or-append_seam, set-append_seam}
use Rattle.bsi_bits.proofs.Places.{bit_past, bit_before}
use Rattle.bsi_bits.proofs.Splicing.{splices_over}

-- the new words have the old bits before place n, and those of `more` from there on
pub record Joins (n count : ℕ) (more old new : List ℕ) : Type 0 where
  pub few : length new ≡ (n + count + 63) / 64
  pub unchanged : (i : ℕ) → i < n → bit_of new i ≡ bit_of old i
  pub joined : (j : ℕ) → bit_of new (n + j) ≡ bit_of more j

pub joined_packed : (n count : ℕ) (more old new : List ℕ) → n + count ≤ 2 ^ 32 → IsPacked count more → Joins n count more old new → IsPacked (n + count) new
joined_packed n count more old new within packed joins = record {
  within = within;
  few = joins.few;
  clear = λ i past.
      let place : i ≡ n + (i - n) = omega arith in
      ap (bit_of new) place ∙ joins.joined (i - n) ∙ packed.clear (i - n) (omega arith);
}

pub joined_bits : (n count : ℕ) (more old new : List ℕ) → Joins n count more old new → bits_of (n + count) new ≡ bits_of n old ++ bits_of count more
joined_bits n count more old new joins =
    let long_old = length-bits_of n old in
    let long_more = length-bits_of count more in
    sym (bits_are (n + count) new (bits_of n old ++ bits_of count more)
    (length-append (bits_of n old) (bits_of count more) ∙ ap₂ ◌+◌ long_old long_more)
    (λ i below. elim (cases_lt i n) [
      | inl before ↦
          get_or_append_left (bits_of n old) (bits_of count more) false i (omega (arith, long_old))
          ∙ get_or-bits_of n old i false before
          ∙ sym (joins.unchanged i before)
      | inr from ↦
          let place : n + (i - n) ≡ i = omega arith in
          get_or-append_right (bits_of n old) (bits_of count more) n i false long_old from
          ∙ get_or-bits_of count more (i - n) false (omega arith)
          ∙ sym (joins.joined (i - n))
          ∙ ap (bit_of new) place
    ]))

-- the words of the others behind whole words
module _ (n count : ℕ) (words more : List ℕ) (packed : IsPacked n words) (more_packed : IsPacked count more) (first : n % 64 ≡ 0) where
  pub joins_after : Joins n count more words (words ++ more)
  joins_after = record {
    few = length-append words more ∙ omega (arith, packed.few, more_packed.few);
    unchanged = λ i below. ap (λ w. bit_at w (i % 64) == 1) (get_or_append_left words more 0 (i / 64) (omega (arith, packed.few)));
    joined = λ j.
        let long : length words ≡ n / 64 = omega (arith, packed.few) in
        let word : (n + j) / 64 - n / 64 ≡ j / 64 = omega arith in
        let place : (n + j) % 64 ≡ j % 64 = omega arith in
        ap₂ (λ w r. bit_at w r == 1) (get_or-append_right words more (n / 64) ((n + j) / 64) 0 long (omega arith) ∙ ap (λ k. get_or more k 0) word) place;
  }

-- the words have the old bits before place n, and behind them those of the first k words of `more`
pub record Carries (n k : ℕ) (more old words : List ℕ) : Type 0 where
  pub long : length words ≡ n / 64 + 1 + k
  pub unchanged : (i : ℕ) → i < n → bit_of words i ≡ bit_of old i
  pub joined : (j : ℕ) → j < 64 * k → bit_of words (n + j) ≡ bit_of more j
  pub clear : (j : ℕ) → 64 * k ≤ j → bit_of words (n + j) ≡ false

module _ (n : ℕ) (more old : List ℕ) (further : n % 64 ≢ 0) where
  carries_packed : (k : ℕ) (words : List ℕ) → n + 64 * k ≤ 2 ^ 32 → Carries n k more old words → IsPacked (n + 64 * k) words
  carries_packed k words within carries = record {
    within = within;
    few = carries.long ∙ omega arith;
    clear = λ i past.
        let place : i ≡ n + (i - n) = omega arith in
        ap (bit_of words) place ∙ carries.clear (i - n) (omega arith);
  }

  -- one word more, laid over the last word and one behind it
  pub carries_more : (k word : ℕ) (init : List ℕ) (low : ℕ) → n + 64 * k ≤ 2 ^ 32 → word < 2 ^ 64 → word ≡ get_or more k 0 → Carries n k more old (init ++ low ∷ [])
      → Carries n (k + 1) more old ((init ++ bit_or low (word * 2 ^ (n % 64) % 2 ^ 64) ∷ []) ++ (word / 2 ^ (64 - n % 64)) ∷ [])
  carries_more k word init low within fits is carries =
      let words = init ++ low ∷ [] in
      let at = n + 64 * k in
      let place : at % 64 ≡ n % 64 = omega arith in
      let in_last : at / 64 ≡ length init = omega (arith, carries.long, length-append init (low ∷ [])) in
      let read : low ≡ get_or words (at / 64) low = sym (ap (λ q. get_or words q low) in_last ∙ get_or-append_seam init low [] low) in
      let splices = splices_over at 64 word words (omega arith) fits (carries_packed k words within carries) (omega (arith, further)) low read (omega (arith, further)) in
      let is_new : set words (at / 64) (bit_or low (word * 2 ^ (at % 64) % 2 ^ 64)) ++ (word / 2 ^ (64 - at % 64)) ∷ []
      ≡ (init ++ bit_or low (word * 2 ^ (n % 64) % 2 ^ 64) ∷ []) ++ (word / 2 ^ (64 - n % 64)) ∷ [] =
      ap₂ (λ q r. set words q (bit_or low (word * 2 ^ r % 2 ^ 64)) ++ (word / 2 ^ (64 - r)) ∷ []) in_last place
      ∙ ap (λ xs. xs ++ (word / 2 ^ (64 - n % 64)) ∷ []) (set-append_seam init low [] (bit_or low (word * 2 ^ (n % 64) % 2 ^ 64))) in
      subst (λ (ws : List ℕ). Carries n (k + 1) more old ws) is_new (record {
        long = splices.few ∙ omega arith;
        unchanged = λ i below. splices.unchanged i (omega arith) ∙ carries.unchanged i below;
        joined = λ j below. elim (cases_lt j (64 * k)) [
          | inl before ↦ splices.unchanged (n + j) (omega arith) ∙ carries.joined j before
          | inr from ↦
              let after : n + j ≡ at + (j - 64 * k) = omega arith in
              let word_is : j / 64 ≡ k = omega arith in
              let place_is : j - 64 * k ≡ j % 64 = omega arith in
              ap (bit_of _) after ∙ splices.spliced (j - 64 * k)
              ∙ ap₂ (λ w r. bit_at w r == 1) (is ∙ ap (λ q. get_or more q 0) (sym word_is)) place_is
        ];
        clear = λ j past.
            let after : n + j ≡ at + (j - 64 * k) = omega arith in
            ap (bit_of _) after ∙ splices.spliced (j - 64 * k)
            ∙ ap (λ b. b == 1) (bit_at_above word 64 (j - 64 * k) fits (omega arith));
      })

  module _ (count : ℕ) (more_packed : IsPacked count more) (init : List ℕ) (low : ℕ) (carries : Carries n (length more) more old (init ++ low ∷ [])) where
    -- all words, and bits in the last one
    pub joins_carried : length init < (n + count + 63) / 64 → Joins n count more old (init ++ low ∷ [])
    joins_carried short = record {
      few = carries.long ∙ omega (arith, short, carries.long, length-append init (low ∷ []), more_packed.few, further);
      unchanged = carries.unchanged;
      joined = λ j. elim (cases_lt j (64 * length more)) [
        | inl within ↦ carries.joined j within
        | inr past ↦ carries.clear j past ∙ sym (bit_past more j (omega arith))
      ];
    }

    -- all words, and no bit in the last one
    pub joins_whole : (n + count + 63) / 64 ≤ length init → Joins n count more old init
    joins_whole enough =
        let long : length init ≡ (n + count + 63) / 64 = omega (arith, enough, carries.long, length-append init (low ∷ []), more_packed.few, further) in
        record {
          few = long;
          unchanged = λ i below. sym (bit_before init low i (omega (arith, long, further))) ∙ carries.unchanged i below;
          joined = λ j. elim (cases_lt ((n + j) / 64) (length init)) [
            | inl within ↦ sym (bit_before init low (n + j) within) ∙ elim (cases_lt j (64 * length more)) [
              | inl inside ↦ carries.joined j inside
              | inr past ↦ carries.clear j past ∙ sym (bit_past more j (omega arith))
            ]
            | inr past ↦ bit_past init (n + j) past ∙ sym (more_packed.clear j (omega (arith, long)))
          ];
        }
