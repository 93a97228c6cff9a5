-- A bit appended to packed words.
use Rattle.std.proofs.Common.{◌≡◌, ◌≢◌, ℕ, ◌+◌, ◌-◌, ◌*◌, ◌/◌, ◌%◌, ◌^◌, ◌<◌, ◌≤◌, Bool, true, false, List, [], ◌∷◌, ◌++◌, length, get_or, set, inl, inr, ap, ap₂, sym, ◌∙◌, refl, arith, length-append, length-set}
use Rattle.std.specs.Prelude.{◌==◌, bit_or, max}
use Rattle.std.specs.Int.{bit_at}
use mir.Val.{bool_byte}
use Rattle.std.proofs.lemmas.Nat.{one_shl}
use Rattle.std.proofs.lemmas.Nat.Bits.{bit_at-zero, bit_at_or, bit_at-pow_same, bit_at-pow_other, bit_at_above, bit_at-lt}
use Rattle.std.proofs.lemmas.Bool.Decides.{nat_tests}
use Rattle.std.proofs.lemmas.Grind.{get_or_default_zero}
use Rattle.std.proofs.lemmas.Bool.{cases_eq}
use Rattle.bsi_bits.specs.Packed.{bit_of, bits_of, IsPacked}
use Rattle.std.proofs.lemmas.List.{get_or_append_left}
use Rattle.std.proofs.Math.Seq.{get_or-append_seam}
use Rattle.bsi_bits.proofs.Reading.{same_bits, bits_of_more, bits_are, get_or-bits_of, length-bits_of}
use Rattle.bsi_bits.proofs.Places.{bit_past, bit_in_written, bit_in_other, bit_before, bit_in_last}

-- the new words have the bit at place n, the old bits before it and nothing after it
pub record Pushes (n : ℕ) (bit : Bool) (old new : List ℕ) : Type 0 where
  pub few : length new ≡ (n + 64) / 64
  pub unchanged : (i : ℕ) → i < n → bit_of new i ≡ bit_of old i
  pub pushed : bit_of new n ≡ bit
  pub clear : (i : ℕ) → n < i → bit_of new i ≡ false

pub pushed_packed : (n : ℕ) (bit : Bool) (old new : List ℕ) → n < 2 ^ 32 → Pushes n bit old new → IsPacked (n + 1) new
pushed_packed n bit old new below pushes = record {
  within = omega arith;
  few = pushes.few ∙ ap (λ k. k / 64) (omega arith);
  clear = λ i past. pushes.clear i (omega arith);
}

pub pushed_bits : (n : ℕ) (bit : Bool) (old new : List ℕ) → Pushes n bit old new → bits_of (n + 1) new ≡ bits_of n old ++ bit ∷ []
pushed_bits n bit old new pushes = bits_of_more n new ∙ ap₂ (λ bits b. bits ++ b ∷ []) (same_bits n new old pushes.unchanged) pushes.pushed

-- a bit as a word, and moved up to place r
moved_same : (bit : Bool) (r : ℕ) → r < 64 → bit_at (bool_byte bit * 2 ^ r % 2 ^ 64) r ≡ bool_byte bit
moved_same true r below = ap (λ x. bit_at x r) (one_shl r 64 below) ∙ bit_at-pow_same r
moved_same false r below = ap (λ x. bit_at x r) (omega arith) ∙ bit_at-zero r

moved_other : (bit : Bool) (r i : ℕ) → r < 64 → i ≢ r → bit_at (bool_byte bit * 2 ^ r % 2 ^ 64) i ≡ 0
moved_other true r i below apart = ap (λ x. bit_at x i) (one_shl r 64 below) ∙ bit_at-pow_other r i apart
moved_other false r i below apart = ap (λ x. bit_at x i) (omega arith) ∙ bit_at-zero i

byte_lowest : (bit : Bool) → (bit_at (bool_byte bit) 0 == 1) ≡ bit
byte_lowest true = refl
byte_lowest false = refl

byte_above : (bit : Bool) (i : ℕ) → 1 ≤ i → bit_at (bool_byte bit) i ≡ 0
byte_above true i above = bit_at_above 1 1 i (omega arith) above
byte_above false i above = bit_at-zero i

max_zero : (x : ℕ) → max x 0 ≡ x
max_zero x = omega arith

zero_max : (x : ℕ) → max 0 x ≡ x
zero_max x = omega arith

max_one : (x : ℕ) → x < 2 → (max x 1 == 1) ≡ true
max_one x below = grind (arith, nat_tests)

off_from_false : (b : ℕ) → b < 2 → (b == 1) ≡ false → b ≡ 0
off_from_false b below off = grind (arith, nat_tests)

byte_set : (bit : Bool) → (bool_byte bit == 1) ≡ bit
byte_set true = refl
byte_set false = refl

module _ (n : ℕ) (bit : Bool) (words : List ℕ) (packed : IsPacked n words) where
  -- the first place of a word of its own
  pub pushes_after : n % 64 ≡ 0 → Pushes n bit words (words ++ bool_byte bit ∷ [])
  pushes_after first = record {
    few = length-append words (bool_byte bit ∷ []) ∙ omega (arith, packed.few);
    unchanged = λ i below. bit_before words (bool_byte bit) i (omega (arith, packed.few));
    pushed = bit_in_last words (bool_byte bit) n (omega (arith, packed.few)) ∙ ap (λ r. bit_at (bool_byte bit) r == 1) first ∙ byte_lowest bit;
    clear = λ i past. elim (cases_eq (i / 64) (length words)) [
      | inl same ↦
          bit_in_last words (bool_byte bit) i same
          ∙ ap (λ b. b == 1) (byte_above bit (i % 64) (omega (arith, packed.few)))
      | inr apart ↦ bit_past (words ++ bool_byte bit ∷ []) i (omega (arith, packed.few, length-append words (bool_byte bit ∷ [])))
    ];
  }

  -- a further place of the last word
  pub pushes_within : n % 64 ≢ 0 → (x : ℕ) → x ≡ get_or words (n / 64) x → Pushes n bit words (set words (n / 64) (bit_or x (bool_byte bit * 2 ^ (n % 64) % 2 ^ 64)))
  pushes_within further x last =
      let moved = bool_byte bit * 2 ^ (n % 64) % 2 ^ 64 in
      let inside : n / 64 < length words = omega (arith, packed.few) in
      let place : n % 64 < 64 = omega arith in
      let old_place : (i : ℕ) → i / 64 ≡ n / 64 → (bit_at x (i % 64) == 1) ≡ bit_of words i = λ i same. ap (λ w. bit_at w (i % 64) == 1) (last ∙ get_or_default_zero words (n / 64) x inside ∙ ap (λ k. get_or words k 0) (sym same)) in
      let other : (i : ℕ) → i % 64 ≢ n % 64 → i / 64 ≡ n / 64 → bit_of (set words (n / 64) (bit_or x moved)) i ≡ bit_of words i = λ i apart same.
      bit_in_written words (n / 64) (bit_or x moved) inside i same
      ∙ ap (λ b. b == 1) (bit_at_or x moved (i % 64) ∙ ap (max (bit_at x (i % 64))) (moved_other bit (n % 64) (i % 64) place apart) ∙ max_zero (bit_at x (i % 64)))
      ∙ old_place i same in
      record {
        few = length-set words (n / 64) (bit_or x moved) ∙ omega (arith, packed.few);
        unchanged = λ i below. elim (cases_eq (i / 64) (n / 64)) [
          | inl same ↦ other i (omega arith) same
          | inr apart ↦ bit_in_other words (n / 64) (bit_or x moved) i apart
        ];
        pushed =
            let off : bit_at x (n % 64) ≡ 0 = off_from_false (bit_at x (n % 64)) (bit_at-lt x (n % 64)) (old_place n refl ∙ packed.clear n (omega arith)) in
            bit_in_written words (n / 64) (bit_or x moved) inside n refl
            ∙ ap (λ b. b == 1) (bit_at_or x moved (n % 64) ∙ ap₂ max off (moved_same bit (n % 64) place) ∙ zero_max (bool_byte bit))
            ∙ byte_set bit;
        clear = λ i past. elim (cases_eq (i / 64) (n / 64)) [
          | inl same ↦ other i (omega arith) same ∙ packed.clear i (omega arith)
          | inr apart ↦ bit_in_other words (n / 64) (bit_or x moved) i apart ∙ packed.clear i (omega arith)
        ];
      }

-- a 0 in the last word, which is there already
pub pushes_nothing : (n : ℕ) (words : List ℕ) → IsPacked n words → n % 64 ≢ 0 → Pushes n false words words
pushes_nothing n words packed partial = record {
  few = packed.few ∙ omega arith;
  unchanged = λ i below. refl;
  pushed = packed.clear n (omega arith);
  clear = λ i past. packed.clear i (omega arith);
}

-- packed words whose last bit is set
module _ (n : ℕ) (words : List ℕ) (some : 0 < n) (packed : IsPacked n words) (x : ℕ) (read : x ≡ get_or words ((n - 1) / 64) x) where
  abbrev pub last_set : List ℕ
  last_set = set words ((n - 1) / 64) (bit_or x (1 * 2 ^ ((n - 1) % 64) % 2 ^ 64))

  set_inside : (n - 1) / 64 < length words
  set_inside = omega (arith, packed.few, some)

  set_at : bit_of last_set (n - 1) ≡ true
  set_at =
      bit_in_written words ((n - 1) / 64) (bit_or x (1 * 2 ^ ((n - 1) % 64) % 2 ^ 64)) set_inside (n - 1) refl
      ∙ ap (λ b. b == 1) (bit_at_or x (1 * 2 ^ ((n - 1) % 64) % 2 ^ 64) ((n - 1) % 64) ∙ ap (max (bit_at x ((n - 1) % 64))) (moved_same true ((n - 1) % 64) (omega arith)))
      ∙ max_one (bit_at x ((n - 1) % 64)) (bit_at-lt x ((n - 1) % 64))

  set_other : (i : ℕ) → i ≢ n - 1 → bit_of last_set i ≡ bit_of words i
  set_other i apart = elim (cases_eq (i / 64) ((n - 1) / 64)) [
    | inl same ↦
        bit_in_written words ((n - 1) / 64) (bit_or x (1 * 2 ^ ((n - 1) % 64) % 2 ^ 64)) set_inside i same
        ∙ ap (λ b. b == 1) (bit_at_or x (1 * 2 ^ ((n - 1) % 64) % 2 ^ 64) (i % 64) ∙ ap (max (bit_at x (i % 64))) (moved_other true ((n - 1) % 64) (i % 64) (omega arith) (omega arith)) ∙ max_zero (bit_at x (i % 64)))
        ∙ ap (λ w. bit_at w (i % 64) == 1) (read ∙ get_or_default_zero words ((n - 1) / 64) x set_inside ∙ ap (λ k. get_or words k 0) (sym same))
    | inr elsewhere ↦ bit_in_other words ((n - 1) / 64) (bit_or x (1 * 2 ^ ((n - 1) % 64) % 2 ^ 64)) i elsewhere
  ]

  pub set_packed : IsPacked n last_set
  set_packed = record {
    within = packed.within;
    few = length-set words ((n - 1) / 64) (bit_or x (1 * 2 ^ ((n - 1) % 64) % 2 ^ 64)) ∙ packed.few;
    clear = λ i past. set_other i (omega arith) ∙ packed.clear i past;
  }

  pub set_bits : (front : List Bool) (bit : Bool) → bits_of n words ≡ front ++ bit ∷ [] → bits_of n last_set ≡ front ++ true ∷ []
  set_bits front bit before =
      let long : length front ≡ n - 1 = omega (arith, some, sym (length-bits_of n words), ap length before, length-append front (bit ∷ [])) in
      sym (bits_are n last_set (front ++ true ∷ []) (length-append front (true ∷ []) ∙ omega (arith, long, some)) (λ i within.
      elim (cases_eq i (n - 1)) [
        | inl last ↦ ap (λ k. get_or (front ++ true ∷ []) k false) (last ∙ sym long) ∙ get_or-append_seam front true [] false ∙ sym set_at ∙ ap (bit_of last_set) (sym last)
        | inr other ↦
            let inside : i < length front = omega (arith, long, within, other) in
            get_or_append_left front (true ∷ []) false i inside ∙ sym (get_or_append_left front (bit ∷ []) false i inside)
            ∙ ap (λ bits. get_or bits i false) (sym before) ∙ get_or-bits_of n words i false within ∙ sym (set_other i other)
      ]))
