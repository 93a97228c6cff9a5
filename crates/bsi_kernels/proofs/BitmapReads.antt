-- A bitmap that is read.
use Rattle.std.proofs.Common.{◌≡◌, ℕ, ◌<◌, List, length, get_or, ◌∙◌}
use Rattle.std.proofs.lemmas.List.{get_or_default}
use Rattle.bsi_bits.specs.BitList.{BitList}
use Rattle.bsi_bits.specs.BitLists.{no_bits}

pub read_bitmap : (rs : List BitList) (j : ℕ) (r : BitList) → j < length rs → r ≡ get_or rs j r → r ≡ get_or rs j no_bits
read_bitmap rs j r within read = read ∙ get_or_default rs j r no_bits within
