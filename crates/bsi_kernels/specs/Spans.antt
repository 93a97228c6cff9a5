-- What a step on a span of words leaves: new bits within the span, and all other words unchanged.
use Rattle.std.specs.Prelude.{◌≡◌, ℕ, ◌*◌, ◌<◌, ◌≤◌, ◌&&◌, Bool, List}
use Rattle.bsi_bits.specs.Packed.{bit_of}

-- the most words of one step: the most lanes of a `Simd`
abbrev pub max_lanes : ℕ
max_lanes = 64

-- the words from `from` on and before `to` have the given bits, and the other words are unchanged
pub record IsWrittenWithin (bit : ℕ → Bool) (from to : ℕ) (old now : List ℕ) : Type 0 where
  pub inside : (r : ℕ) → 64 * from ≤ r → r < 64 * to → bit_of now r ≡ bit r
  pub before : (r : ℕ) → r < 64 * from → bit_of now r ≡ bit_of old r
  pub after : (r : ℕ) → 64 * to ≤ r → bit_of now r ≡ bit_of old r

-- the words from `from` on and before `to` are intersected with the mask, and the other words are unchanged
abbrev pub IsIntersected : (ℕ → Bool) → ℕ → ℕ → List ℕ → List ℕ → Type 0
IsIntersected mask from to old now = IsWrittenWithin (λ r. bit_of old r && mask r) from to old now
