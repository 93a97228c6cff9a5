-- A step of transposing 64 words: it exchanges a binary place between the index of a word and the position of a bit.
use Rattle.std.specs.Prelude.{◌≡◌, ℕ, ◌+◌, ◌-◌, ◌*◌, ◌/◌, ◌%◌, ◌<◌}
use Rattle.std.specs.Int.{bit_at}

-- i with its binary place of weight s replaced by that of j
abbrev pub across : ℕ → ℕ → ℕ → ℕ
across s i j = i - s * (i / s % 2) + s * (j / s % 2)

-- the word is set at the positions whose binary place of weight s is 0
abbrev pub IsLow : ℕ → ℕ → Type 0
IsLow s word = (i : ℕ) → i < 64 → bit_at word i + i / s % 2 ≡ 1
