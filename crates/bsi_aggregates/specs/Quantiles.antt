-- Quantiles: the number at the end of a share of some numbers.
use Rattle.std.specs.Prelude.{ℤ, List, Option, length}
use Rattle.bsi_digits.specs.Ranks.{IsSignedRankOf}
use Rattle.bsi_rows.specs.Shares.{share_rank, Share}

-- The number whose rank the share gives, or none if there are no numbers.
abbrev pub IsQuantileOf : Share → List ℤ → Option ℤ → Type 0
IsQuantileOf share numbers answer = IsSignedRankOf (share_rank share (length numbers)) numbers answer
