-- Bytes in words, padded with zeros.
use Rattle.std.proofs.Common.{◌≡◌, ℕ, zero, suc, ◌+◌, ◌-◌, ◌*◌, ◌/◌, ◌^◌, ◌<◌, ◌≤◌, true, List, [], ◌∷◌, ◌++◌, length, get_or, take, drop, replicate, refl, sym, ap, ap₂, ◌∙◌, arith, length-append, length-take, inl, inr}
use Rattle.std.specs.Prelude.{◌==◌}
use Rattle.std.specs.Cmp.{first_so, second_so}
use Rattle.std.specs.Int.{w64, div_ceil, from_le_bytes, to_le_bytes}
use Rattle.std.specs.List.{list_all}
use Rattle.std.proofs.Math.Seq.{get_or-append_right}
use Rattle.std.proofs.lemmas.Bool.{cases_lt}
use Rattle.std.proofs.lemmas.Bool.Decides.{nat_tests}
use Rattle.std.proofs.lemmas.List.{drop_at, get_or-append-add, get_or-drop, get_or-replicate, get_or-take, get_or_append_left, get_or_past, length-replicate, take_at}
use Rattle.std.proofs.lemmas.List.FromFn.{fill_by_all}
use Rattle.std.proofs.lemmas.Nat.{from_le_bytes-to_le_bytes_8}
use Rattle.bsi_segments.specs.Bytes.{packed_bytes, AreBytes}
use Rattle.bsi_segments.specs.Segments.{bytes_of, word_at, words_of}
use Rattle.bsi_segments.proofs.Eights.{all_bytes_again, length-bytes_of, same_words, words_more}

-- ---- words by their bytes

byte_there : (at : ℕ) (bytes : List ℕ) (i : ℕ) → i < 8 → get_or (take 8 (drop at bytes)) i 0 ≡ get_or bytes (at + i) 0
byte_there at bytes i within = get_or-take 8 (drop at bytes) i 0 within ∙ get_or-drop at bytes i 0

word_same : (k : ℕ) (xs ys : List ℕ) → ((i : ℕ) → i < 8 * k + 8 → get_or xs i 0 ≡ get_or ys i 0) → word_at xs k ≡ word_at ys k
word_same k xs ys same = same_words (take 8 (drop (8 * k) xs)) (take 8 (drop (8 * k) ys)) (λ i within.
    byte_there (8 * k) xs i within ∙ same (8 * k + i) (omega arith) ∙ sym (byte_there (8 * k) ys i within))

-- a word behind the first one
word_behind : (front rest : List ℕ) (k : ℕ) → length front ≡ 8 → word_at (front ++ rest) (suc k) ≡ word_at rest k
word_behind front rest k eight =
    same_words (take 8 (drop (8 * suc k) (front ++ rest))) (take 8 (drop (8 * k) rest)) (λ i within.
    let moved : 8 * suc k + i ≡ length front + (8 * k + i) = omega arith in
    byte_there (8 * suc k) (front ++ rest) i within ∙ ap (λ j. get_or (front ++ rest) j 0) moved ∙ get_or-append-add front rest (8 * k + i) 0 ∙ sym (byte_there (8 * k) rest i within))

-- the words of bytes are the same where the bytes are
pub words_same : (k : ℕ) (xs ys : List ℕ) → ((i : ℕ) → i < 8 * k → get_or xs i 0 ≡ get_or ys i 0) → words_of k xs ≡ words_of k ys
words_same zero xs ys same = refl
words_same (suc k) xs ys same =
    let next : suc k ≡ k + 1 = omega arith in
    ap (λ n. words_of n xs) next ∙ words_more k xs
    ∙ ap₂ (λ ws w. ws ++ w ∷ []) (words_same k xs ys (λ i within. same i (omega arith))) (word_same k xs ys (λ i within. same i (omega arith)))
    ∙ sym (words_more k ys) ∙ ap (λ n. words_of n ys) (sym next)

-- ---- zeros behind the last byte

abbrev zeros : ℕ → List ℕ
zeros n = replicate n 0

length-zeros : (n : ℕ) → length (zeros n) ≡ n
length-zeros n = length-replicate n 0

zero_at : (n i : ℕ) → get_or (zeros n) i 0 ≡ 0
zero_at n i = elim (cases_lt i n) [
  | inl within ↦ get_or-replicate {A = ℕ} n i 0 0 within
  | inr past ↦ get_or_past (zeros n) i 0 (omega (arith, length-zeros n))
]

-- they change no byte
same_padded : (bytes : List ℕ) (n i : ℕ) → get_or bytes i 0 ≡ get_or (bytes ++ zeros n) i 0
same_padded bytes n i = elim (cases_lt i (length bytes)) [
  | inl within ↦ sym (get_or_append_left bytes (zeros n) 0 i within)
  | inr past ↦ get_or_past bytes i 0 past ∙ sym (get_or-append_right bytes (zeros n) i 0 past ∙ zero_at n (i - length bytes))
]

-- the bytes of the words of bytes
pub bytes_padded : (count pad : ℕ) (bytes : List ℕ) → AreBytes bytes → length bytes + pad ≡ 8 * count → bytes_of (words_of count bytes) ≡ bytes ++ zeros pad
bytes_padded count pad bytes are long =
    let whole = bytes ++ zeros pad in
    let bytes_are : AreBytes whole = record { each = λ i. omega (arith, same_padded bytes pad i, are.each i) } in
    let whole_long : length whole ≡ 8 * count = omega (arith, length-append bytes (zeros pad), length-zeros pad) in
    ap bytes_of (words_same count bytes whole (λ i within. same_padded bytes pad i)) ∙ all_bytes_again count whole bytes_are whole_long

-- how many zeros fill the last word
abbrev pub pad_of : ℕ → ℕ
pad_of len = 8 * div_ceil len 8 - len

pub pad_is : (len : ℕ) → len + pad_of len ≡ 8 * div_ceil len 8
pad_is len = omega arith

-- bytes of one length that have the same words are the same
pub same_bytes : (a b : List ℕ) → AreBytes a → AreBytes b → length a ≡ length b → packed_bytes a ≡ packed_bytes b → a ≡ b
same_bytes a b a_are b_are long same =
    let first = bytes_padded (div_ceil (length a) 8) (pad_of (length a)) a a_are (pad_is (length a)) in
    let second = bytes_padded (div_ceil (length b) 8) (pad_of (length b)) b b_are (pad_is (length b)) in
    sym (take_at a (zeros (pad_of (length a))) (length a) refl)
    ∙ ap (take (length a)) (sym first ∙ ap bytes_of same ∙ second)
    ∙ take_at b (zeros (pad_of (length b))) (length a) (sym long)

-- ---- words again

module _ (words : List ℕ) where
  pub word_again : (k : ℕ) → k < length words → ((i : ℕ) → get_or words i 0 < 2 ^ 64) → get_or words k 0 ≡ word_at (bytes_of words) k
  word_again k within fits = by words k within fits
    where
      by : (words : List ℕ) (k : ℕ) → k < length words → ((i : ℕ) → get_or words i 0 < 2 ^ 64) → get_or words k 0 ≡ word_at (bytes_of words) k
      by [] k within fits = absurd (omega arith)
      by (w ∷ words) zero within fits = sym (from_le_bytes-to_le_bytes_8 w (fits 0))
      by (w ∷ words) (suc k) within fits =
          by words k (omega arith) (λ i. fits (suc i)) ∙ sym (word_behind (to_le_bytes w64 w) (bytes_of words) k refl)

  pub words_again : ((i : ℕ) → get_or words i 0 < 2 ^ 64) → words ≡ words_of (length words) (bytes_of words)
  words_again fits = fill_by_all (word_at (bytes_of words)) words (length words) 0 refl (λ k within. word_again k within fits)

-- ---- reading them

is_zero : (b : ℕ) → (b == 0) ≡ true → b ≡ 0
is_zero b on = grind (arith, nat_tests)

all_zero : (bytes : List ℕ) (i : ℕ) → list_all (λ b. b == 0) bytes ≡ true → get_or bytes i 0 ≡ 0
all_zero [] i all = refl
all_zero (b ∷ bytes) zero all = is_zero b (first_so (b == 0) (list_all (λ b. b == 0) bytes) all)
all_zero (b ∷ bytes) (suc i) all = all_zero bytes i (second_so (b == 0) (list_all (λ b. b == 0) bytes) all)

zeros_pass : (n : ℕ) → list_all (λ b. b == 0) (zeros n) ≡ true
zeros_pass zero = refl
zeros_pass (suc n) = zeros_pass n

-- words whose bytes past a length are zeros are those of the bytes before it
pub made_of_words : (words : List ℕ) (len : ℕ) → length words ≡ div_ceil len 8 → ((i : ℕ) → get_or words i 0 < 2 ^ 64) → list_all (λ b. b == 0) (drop len (bytes_of words)) ≡ true
    → (length (take len (bytes_of words)) ≡ len) × (words ≡ packed_bytes (take len (bytes_of words)))
made_of_words words len few fits all =
    let bytes = bytes_of words in
    let long : length (take len bytes) ≡ len = omega (arith, length-take len bytes, length-bytes_of words, few, pad_is len) in (
      long,
      words_again words fits ∙ words_same (length words) bytes (take len bytes) same ∙ ap (λ n. words_of n (take len bytes)) (few ∙ ap (λ n. div_ceil n 8) (sym long)),
    )
  where
    same : (i : ℕ) → i < 8 * length words → get_or (bytes_of words) i 0 ≡ get_or (take len (bytes_of words)) i 0
    same i within = elim (cases_lt i len) [
      | inl before ↦ sym (get_or-take len (bytes_of words) i 0 before)
      | inr past ↦
          let at : len + (i - len) ≡ i = omega arith in
          ap (λ j. get_or (bytes_of words) j 0) (sym at) ∙ sym (get_or-drop len (bytes_of words) (i - len) 0) ∙ all_zero (drop len (bytes_of words)) (i - len) all
          ∙ sym (get_or_past (take len (bytes_of words)) i 0 (omega (arith, length-take len (bytes_of words))))
    ]

-- and the words of bytes have zeros there
pub zeros_behind : (words bytes : List ℕ) (len : ℕ) → AreBytes bytes → length bytes ≡ len → words ≡ packed_bytes bytes → list_all (λ b. b == 0) (drop len (bytes_of words)) ≡ true
zeros_behind words bytes len are long is =
    let whole = bytes_padded (div_ceil (length bytes) 8) (pad_of (length bytes)) bytes are (pad_is (length bytes)) in
    ap (λ bs. list_all (λ b. b == 0) (drop len bs)) (ap bytes_of is ∙ whole)
    ∙ ap (list_all (λ b. b == 0)) (drop_at bytes (zeros (pad_of (length bytes))) len long)
    ∙ zeros_pass (pad_of (length bytes))

-- ---- writing them

-- the whole words, and the last one
pub last_is : (q : ℕ) (bytes : List ℕ) → q ≡ length bytes / 8 → 8 * q < length bytes → words_of q (take (8 * q) bytes) ++ word_at (drop (8 * q) bytes) 0 ∷ [] ≡ packed_bytes bytes
last_is q bytes is more =
    let count : q + 1 ≡ div_ceil (length bytes) 8 = omega arith in
    ap (λ ws. ws ++ word_at bytes q ∷ []) (words_same q (take (8 * q) bytes) bytes (λ i within. get_or-take (8 * q) bytes i 0 within))
    ∙ sym (words_more q bytes) ∙ ap (λ n. words_of n bytes) count

-- ---- bytes are below 256

pub bytes_of_are : (words : List ℕ) → AreBytes (bytes_of words)
bytes_of_are words = record { each = λ i. by words i }
  where
    by : (words : List ℕ) (i : ℕ) → get_or (bytes_of words) i 0 < 256
    by [] i = omega arith
    by (w ∷ words) zero = omega arith
    by (w ∷ words) (suc zero) = omega arith
    by (w ∷ words) (suc (suc zero)) = omega arith
    by (w ∷ words) (suc (suc (suc zero))) = omega arith
    by (w ∷ words) (suc (suc (suc (suc zero)))) = omega arith
    by (w ∷ words) (suc (suc (suc (suc (suc zero))))) = omega arith
    by (w ∷ words) (suc (suc (suc (suc (suc (suc zero)))))) = omega arith
    by (w ∷ words) (suc (suc (suc (suc (suc (suc (suc zero))))))) = omega arith
    by (w ∷ words) (suc (suc (suc (suc (suc (suc (suc (suc i)))))))) = by words i

pub take_are : (n : ℕ) (bytes : List ℕ) → AreBytes bytes → AreBytes (take n bytes)
take_are n bytes are = record {
  each = λ i. elim (cases_lt i n) [
    | inl within ↦ omega (arith, get_or-take n bytes i 0 within, are.each i)
    | inr past ↦ omega (arith, get_or_past (take n bytes) i 0 (omega (arith, length-take n bytes)))
  ];
}
