-- Words of chosen rows, narrowed by the words of a slice.
use Rattle.std.proofs.Common.{◌≡◌, ℕ, suc, ◌+◌, ◌^◌, ◌<◌, ◌≤◌, Bool, true, false, not, ◌&&◌, List, [], ◌∷◌, length, get_or, ap, ap₂, ◌∙◌, refl, arith}
use Rattle.std.specs.Prelude.{if◌then◌else◌, sum_by, count_ones}
use Rattle.std.specs.Int.{bit_not, w64}
use Rattle.std.specs.Simd.Lanes.{zip2}
use Rattle.std.proofs.lemmas.List.Sums.{sum_by-cons}
use Rattle.std.proofs.lemmas.Nat.{and_le_l}
use Rattle.bsi_bits.proofs.Logic.{IsBitwise, and_bitwise, and_not_bitwise}
use Rattle.bsi_kernels.specs.Ranks.{narrowed_word}

-- the words of a line, which are narrowed at a time
abbrev pub line_words : ℕ
line_words = 8

-- what is kept of a word is at most the word
pub narrowed_less : (is_set : Bool) (x y : ℕ) → narrowed_word is_set x y ≤ x
narrowed_less true x y = and_le_l x y
narrowed_less false x y = and_le_l x (bit_not w64 y)

-- row by row
pub narrowed_bitwise : (is_set : Bool) → IsBitwise (λ y. y < 2 ^ 64) (narrowed_word is_set) (λ f b. f && (if is_set then b else not b))
narrowed_bitwise true = record { at = λ x y i fits place. and_bitwise.at x y i tt place; none = refl }
narrowed_bitwise false = record { at = λ x y i fits place. and_not_bitwise.at x y i fits place; none = refl }

-- of words with no row none is kept
pub empty_narrowed : (is_set : Bool) (rows words : List ℕ) → length words ≡ length rows → ((k : ℕ) → get_or rows k 0 ≡ 0) → rows ≡ zip2 (narrowed_word is_set) rows words
empty_narrowed is_set [] words same none = refl
empty_narrowed is_set (x ∷ rows) [] same none = absurd (omega arith)
empty_narrowed is_set (x ∷ rows) (y ∷ words) same none =
    let first : x ≡ 0 = none 0 in
    ap₂ ◌∷◌ (omega (arith, first, narrowed_less is_set x y)) (empty_narrowed is_set rows words (omega arith) (λ k. none (suc k)))

pub empty_ones : (rows : List ℕ) → ((k : ℕ) → get_or rows k 0 ≡ 0) → sum_by count_ones rows ≡ 0
unfolding lib.Count.ones
empty_ones [] none = refl
empty_ones (x ∷ rows) none =
    let first : count_ones x ≡ count_ones 0 = ap count_ones (none 0) in
    sum_by-cons count_ones x rows ∙ ap₂ ◌+◌ first (empty_ones rows (λ k. none (suc k))) ∙ refl
