-- The bits in some of the words of a bit vector, and the items beside them.
use Rattle.std.proofs.Common.{◌≡◌, ℕ, ◌+◌, ◌-◌, ◌*◌, ◌/◌, ◌%◌, ◌^◌, ◌<◌, ◌≤◌, Bool, true, false, List, [], ◌∷◌, ◌++◌, length, length-take, length-drop, get_or, take, drop, map, inl, inr, ap, ap₂, sym, ◌∙◌, refl, arith}
use Rattle.std.specs.Prelude.{◌==◌, min, sum_by, count_by, count_ones}
use Rattle.std.specs.Int.{bit_at}
use Rattle.std.specs.List.{items_where_true}
use Rattle.std.specs.Simd.Lanes.{zip2, chunk}
use Rattle.std.proofs.Math.Seq.{take-add}
use Rattle.std.proofs.lemmas.Bool.{cases_lt}
use Rattle.std.proofs.lemmas.List.{get_or_past, take-map, drop-map, take_all}
use Rattle.std.proofs.lemmas.Simd.{length-chunk, get_or-chunk}
use Rattle.bsi_bits.specs.BitList.{in_words}
use Rattle.bsi_bits.specs.Packed.{bit_of, bits_of, IsPacked}
use Rattle.bsi_bits.proofs.CountingPairs.{count_pairs}
use Rattle.bsi_bits.proofs.Logic.{IsBitwise}
use Rattle.bsi_bits.proofs.Places.{bit_past}
use Rattle.bsi_bits.proofs.Reading.{bits_are, length-bits_of, get_or-bits_of}

-- the words that a bit vector shows
module _ (bits : List Bool) (words : List ℕ) (few : length words ≡ (length bits + 63) / 64) (places : (i : ℕ) → bit_of words i ≡ get_or bits i false) where
  pub shown_packed : length bits ≤ 2 ^ 32 → IsPacked (length bits) words
  shown_packed within = record { within = within; few = few; clear = λ i past. places i ∙ get_or_past bits i false past }

  pub shown_bits : bits ≡ bits_of (length bits) words
  shown_bits = bits_are (length bits) words bits refl (λ i below. sym (places i))

-- bit p of a block is that of the words, from the block on
pub bit_of-chunk : (at n : ℕ) (words : List ℕ) (p : ℕ) → p < 64 * n → bit_of (chunk at n words) p ≡ bit_of words (64 * at + p)
bit_of-chunk at n words p within =
    let word : (64 * at + p) / 64 ≡ at + p / 64 = omega arith in
    let place : (64 * at + p) % 64 ≡ p % 64 = omega arith in
    ap (λ w. bit_at w (p % 64) == 1) (get_or-chunk at n words (p / 64) 0 (omega arith) ∙ ap (λ k. get_or words k 0) (sym word))
    ∙ ap (λ k. bit_at (get_or words ((64 * at + p) / 64) 0) k == 1) (sym place)

-- how many items stand in some of the words
pub length-in_words : {X : Type 0} (start end : ℕ) (items : List X) → length (in_words start end items) ≡ min (64 * (end - start)) (length items - 64 * start)
length-in_words start end items = length-take (64 * (end - start)) (drop (64 * start) items) ∙ ap (min (64 * (end - start))) (length-drop (64 * start) items)

pub in_words-map : {X Y : Type 0} (f : X → Y) (start end : ℕ) (items : List X) → in_words start end (map f items) ≡ map f (in_words start end items)
in_words-map f start end items = ap (take (64 * (end - start))) (drop-map f (64 * start) items) ∙ take-map f (64 * (end - start)) (drop (64 * start) items)

module _ (bits : List Bool) (words : List ℕ) (packed : IsPacked (length bits) words) (is : bits ≡ bits_of (length bits) words) (start end : ℕ) (forward : start ≤ end) (within : end ≤ length words) where
  abbrev some_bits : List Bool
  some_bits = in_words start end bits

  abbrev some_words : List ℕ
  some_words = chunk start (end - start) words

  place : (i : ℕ) → i < length some_bits → get_or some_bits i false ≡ bit_of some_words i
  place i below =
      let long = length-in_words start end bits in
      get_or-chunk (64 * start) (64 * (end - start)) bits i false (omega (arith, long))
      ∙ ap (λ bs. get_or bs (64 * start + i) false) is
      ∙ get_or-bits_of (length bits) words (64 * start + i) false (omega (arith, long))
      ∙ sym (bit_of-chunk start (end - start) words i (omega (arith, long)))

  -- these words are packed with the bits in them
  packed_some : IsPacked (length some_bits) some_words
  packed_some =
      let long = length-in_words start end bits in
      let words_long = length-chunk start (end - start) words (omega arith) in
      record {
        within = omega (arith, long, packed.within);
        few = words_long ∙ omega (arith, long, packed.few);
        clear = λ i past. elim (cases_lt i (64 * (end - start))) [
          | inl inside ↦ bit_of-chunk start (end - start) words i inside ∙ packed.clear (64 * start + i) (omega (arith, long))
          | inr after ↦ bit_past some_words i (omega (arith, words_long))
        ];
      }

  some_bits_are : some_bits ≡ bits_of (length some_bits) some_words
  some_bits_are = bits_are (length some_bits) some_words some_bits refl place

-- the ones in the words of pairs, of some of the words, are the pairs of bits there that a Boolean operation sets
pub count_pairs_in : (IsFit : ℕ → Type 0) (word_of : ℕ → ℕ → ℕ) (bit : Bool → Bool → Bool) → IsBitwise IsFit word_of bit → ((x y : ℕ) → word_of x y ≤ x)
    → (bits others : List Bool) (words other_words : List ℕ)
    → IsPacked (length bits) words → bits ≡ bits_of (length bits) words → IsPacked (length others) other_words → others ≡ bits_of (length others) other_words
    → length bits ≡ length others → (start end : ℕ) → start ≤ end → end ≤ length words
    → ((k : ℕ) → get_or (chunk start (end - start) words) k 0 < 2 ^ 64) → ((k : ℕ) → IsFit (get_or (chunk start (end - start) other_words) k 0))
    → sum_by count_ones (zip2 word_of (chunk start (end - start) words) (chunk start (end - start) other_words))
    ≡ count_by (λ b. b) (zip2 bit (in_words start end bits) (in_words start end others))
count_pairs_in IsFit word_of bit bitwise less bits others words other_words packed is other_packed other_is same start end forward within fits fit =
    let other_within : end ≤ length other_words = omega (arith, packed.few, other_packed.few, same) in
    let rows = in_words start end bits in
    let places = in_words start end others in
    let even : length rows ≡ length places = omega (arith, length-in_words start end bits, length-in_words start end others, same) in
    count_pairs (length rows) (length places) (chunk start (end - start) words) (chunk start (end - start) other_words)
    (packed_some bits words packed is start end forward within) (packed_some others other_words other_packed other_is start end forward other_within)
    (length-bits_of (length rows) (chunk start (end - start) words) ∙ even ∙ sym (length-bits_of (length places) (chunk start (end - start) other_words)))
    fits IsFit word_of bit bitwise fit less
    ∙ ap₂ (λ fs bs. count_by (λ b. b) (zip2 bit fs bs)) (sym (some_bits_are bits words packed is start end forward within)) (sym (some_bits_are others other_words other_packed other_is start end forward other_within))

-- the items that are found in two chunks, one after the other
pub items_where_true-append : {X : Type 0} (selection : List Bool) (items : List X) (others : List Bool) (rest : List X) → length selection ≡ length items
    → items_where_true (selection ++ others) (items ++ rest) ≡ items_where_true selection items ++ items_where_true others rest
items_where_true-append [] [] others rest same = refl
items_where_true-append [] (x ∷ items) others rest same = absurd (omega arith)
items_where_true-append (f ∷ selection) [] others rest same = absurd (omega arith)
items_where_true-append (false ∷ selection) (x ∷ items) others rest same = items_where_true-append selection items others rest (omega arith)
items_where_true-append (true ∷ selection) (x ∷ items) others rest same = ap (λ xs. x ∷ xs) (items_where_true-append selection items others rest (omega arith))

module _ {X : Type 0} (selection : List Bool) (items : List X) (same : length items ≡ length selection) where
  -- the found items in the words before the m-th are those before the i-th, and those in the words from there on
  pub selected_more : (i m : ℕ) → i ≤ m → items_where_true (take (64 * m) selection) (take (64 * m) items)
      ≡ items_where_true (take (64 * i) selection) (take (64 * i) items) ++ items_where_true (in_words i m selection) (in_words i m items)
  selected_more i m forward =
      let next : 64 * m ≡ 64 * i + 64 * (m - i) = omega arith in
      let long : length (take (64 * i) selection) ≡ length (take (64 * i) items) = length-take (64 * i) selection ∙ ap (min (64 * i)) (sym same) ∙ sym (length-take (64 * i) items) in
      ap (λ k. items_where_true (take k selection) (take k items)) next
      ∙ ap₂ items_where_true (take-add (64 * i) (64 * (m - i)) selection) (take-add (64 * i) (64 * (m - i)) items)
      ∙ items_where_true-append (take (64 * i) selection) (take (64 * i) items) (in_words i m selection) (in_words i m items) long

  -- no word is left
  pub selected_all : (m : ℕ) → length selection ≤ 64 * m → items_where_true (take (64 * m) selection) (take (64 * m) items) ≡ items_where_true selection items
  selected_all m past = ap₂ items_where_true (take_all (64 * m) selection past) (take_all (64 * m) items (omega (arith, same)))
