-- Whether any of n rows is set (`HasRow`), and any that has a given value (`HasValue`).
use Rattle.std.specs.Prelude.{◌≡◌, ℕ, ◌<◌, Bool, true}

-- one of n rows is set
abbrev pub HasRow : (ℕ → Bool) → ℕ → Type 0
HasRow set n = (p : ℕ) × (p < n) × (set p ≡ true)

-- one of n rows is set, and has this value
abbrev pub HasValue : (ℕ → Bool) → (ℕ → ℕ) → ℕ → ℕ → Type 0
HasValue set value n v = (p : ℕ) × (p < n) × (set p ≡ true) × (value p ≡ v)
