-- Words and their bytes.
use Rattle.std.proofs.Common.{◌≡◌, ℕ, zero, suc, ◌+◌, ◌*◌, ◌<◌, ◌≤◌, List, [], ◌∷◌, ◌++◌, length, get_or, take, drop, refl, sym, ap, ap₂, ◌∙◌, arith, length-drop, length-take, inl, inr}
use Rattle.std.specs.Int.{w64, from_le_bytes, to_le_bytes}
use Rattle.std.proofs.Math.Seq.{take-add}
use Rattle.std.proofs.lemmas.Bool.{cases_lt}
use Rattle.std.proofs.lemmas.Grind.{flat_map-append}
use Rattle.std.proofs.lemmas.List.{get_or-drop, get_or-take, get_or_past, take_all}
use Rattle.std.proofs.lemmas.List.FromFn.{length-map-range_with_len, map-range_with_len_more}
use Rattle.std.proofs.lemmas.Nat.{le_bytes_8}
use Rattle.bsi_segments.specs.Bytes.{AreBytes}
use Rattle.bsi_segments.specs.Segments.{bytes_of, word_at, words_of}

part_bytes : (at : ℕ) (bytes : List ℕ) → AreBytes bytes → (i : ℕ) → get_or (take 8 (drop at bytes)) i 0 < 256
part_bytes at bytes are i = elim (cases_lt i 8) [
  | inl within ↦ omega (arith, get_or-take 8 (drop at bytes) i 0 within, get_or-drop at bytes i 0, are.each (at + i))
  | inr past ↦ omega (arith, get_or_past (take 8 (drop at bytes)) i 0 (omega (arith, length-take 8 (drop at bytes))))
]

-- words of which each byte is the same
pub same_words : (xs ys : List ℕ) → ((i : ℕ) → i < 8 → get_or xs i 0 ≡ get_or ys i 0) → from_le_bytes w64 xs ≡ from_le_bytes w64 ys
same_words xs ys same =
    let e0 = same 0 (omega arith) in
    let e1 = same 1 (omega arith) in
    let e2 = same 2 (omega arith) in
    let e3 = same 3 (omega arith) in
    let e4 = same 4 (omega arith) in
    let e5 = same 5 (omega arith) in
    let e6 = same 6 (omega arith) in
    let e7 = same 7 (omega arith) in
    omega (arith, e0, e1, e2, e3, e4, e5, e6, e7)

-- the word at a place, by its eight bytes
pub word_is : (bytes : List ℕ) (k at : ℕ) → at ≡ 8 * k
    → from_le_bytes w64 (get_or bytes at 0 ∷ get_or bytes (at + 1) 0 ∷ get_or bytes (at + 2) 0 ∷ get_or bytes (at + 3) 0 ∷ get_or bytes (at + 4) 0 ∷ get_or bytes (at + 5) 0 ∷ get_or bytes (at + 6) 0 ∷ get_or bytes (at + 7) 0 ∷ []) ≡ word_at bytes k
word_is bytes k at is =
    same_words (get_or bytes at 0 ∷ get_or bytes (at + 1) 0 ∷ get_or bytes (at + 2) 0 ∷ get_or bytes (at + 3) 0 ∷ get_or bytes (at + 4) 0 ∷ get_or bytes (at + 5) 0 ∷ get_or bytes (at + 6) 0 ∷ get_or bytes (at + 7) 0 ∷ []) (take 8 (drop at bytes)) each
    ∙ ap (λ i. from_le_bytes w64 (take 8 (drop i bytes))) is
  where
    there : (i : ℕ) → i < 8 → get_or (take 8 (drop at bytes)) i 0 ≡ get_or bytes (at + i) 0
    there i within = get_or-take 8 (drop at bytes) i 0 within ∙ get_or-drop at bytes i 0

    each : (i : ℕ) → i < 8 → get_or (get_or bytes at 0 ∷ get_or bytes (at + 1) 0 ∷ get_or bytes (at + 2) 0 ∷ get_or bytes (at + 3) 0 ∷ get_or bytes (at + 4) 0 ∷ get_or bytes (at + 5) 0 ∷ get_or bytes (at + 6) 0 ∷ get_or bytes (at + 7) 0 ∷ []) i 0 ≡ get_or (take 8 (drop at bytes)) i 0
    each zero within = let e : at + 0 ≡ at = omega arith in sym (there 0 within ∙ ap (λ i. get_or bytes i 0) e)
    each (suc zero) within = sym (there 1 within)
    each (suc (suc zero)) within = sym (there 2 within)
    each (suc (suc (suc zero))) within = sym (there 3 within)
    each (suc (suc (suc (suc zero)))) within = sym (there 4 within)
    each (suc (suc (suc (suc (suc zero))))) within = sym (there 5 within)
    each (suc (suc (suc (suc (suc (suc zero)))))) within = sym (there 6 within)
    each (suc (suc (suc (suc (suc (suc (suc zero))))))) within = sym (there 7 within)
    each (suc (suc (suc (suc (suc (suc (suc (suc i)))))))) within = absurd (omega arith)

pub length-words_of : (k : ℕ) (bytes : List ℕ) → length (words_of k bytes) ≡ k
length-words_of k bytes = length-map-range_with_len (word_at bytes) 0 k

-- one more word
pub words_more : (k : ℕ) (bytes : List ℕ) → words_of (k + 1) bytes ≡ words_of k bytes ++ word_at bytes k ∷ []
words_more k bytes = map-range_with_len_more (word_at bytes) 0 k k (omega arith)

-- the bytes of the words of bytes
pub bytes_again : (k : ℕ) (bytes : List ℕ) → AreBytes bytes → 8 * k ≤ length bytes → bytes_of (words_of k bytes) ≡ take (8 * k) bytes
bytes_again zero bytes are long = refl
bytes_again (suc k) bytes are long =
    let next : suc k ≡ k + 1 = omega arith in
    let sum : 8 * k + 8 ≡ 8 * suc k = omega arith in
    let part = take 8 (drop (8 * k) bytes) in
    let eight : length part ≡ 8 = omega (arith, length-take 8 (drop (8 * k) bytes), length-drop (8 * k) bytes) in
    ap (λ n. bytes_of (words_of n bytes)) next
    ∙ ap bytes_of (words_more k bytes)
    ∙ flat_map-append (to_le_bytes w64) (words_of k bytes) (word_at bytes k ∷ [])
    ∙ ap₂ ◌++◌ (bytes_again k bytes are (omega arith)) (le_bytes_8 part (word_at bytes k) eight (part_bytes (8 * k) bytes are) refl)
    ∙ sym (take-add (8 * k) 8 bytes)
    ∙ ap (λ n. take n bytes) sum

pub all_bytes_again : (k : ℕ) (bytes : List ℕ) → AreBytes bytes → length bytes ≡ 8 * k → bytes_of (words_of k bytes) ≡ bytes
all_bytes_again k bytes are long = bytes_again k bytes are (omega arith) ∙ take_all (8 * k) bytes (omega arith)

-- eight bytes a word
pub length-bytes_of : (words : List ℕ) → length (bytes_of words) ≡ 8 * length words
length-bytes_of [] = refl
length-bytes_of (w ∷ words) = let rest = length-bytes_of words in omega arith
