use Rattle.std.proofs.Common.{◌≡◌, ℕ, ◌<◌, false, length, get_or}
use Rattle.bsi_bits.specs.BitLists.{bits_at}
use Rattle.bsi_kernels.proofs.nulls.are_clear_at_nulls.Given as goal

-- the slices so far are clear there
abbrev pub invariant-bitmaps : goal.invariant-bitmaps
invariant-bitmaps l =
    (k r : ℕ) → k < l.bitmap-index → r < length l.not_null.bits → get_or l.not_null.bits r false ≡ false
    → get_or (bits_at l.bitmaps k) r false ≡ false
