use Rattle.std.proofs.Common.{◌≡◌, ℕ, ◌-◌, ◌*◌, ◌++◌, Bool, List, length, take, drop}
use Rattle.std.specs.List.{flat_map}
use Rattle.bsi_bits.specs.BitList.{word_count}
use Rattle.bsi_segments.specs.Bitmaps.{packed, AreBitmaps}
use Rattle.bsi_storage.proofs.ColumnHeads.{checksums}
use Rattle.bsi_storage.proofs.heads.encode_checksums.Given as goal

-- the checksums so far, and the words of the other bitmaps, of any bitmaps that all words are of
abbrev pub invariant-bitmaps : goal.invariant-bitmaps
invariant-bitmaps l = record {
  long : length l.rest ≡ (l.count - l.counter) * l.long;
  sums : (n : ℕ) (bits : List (List Bool)) → AreBitmaps l.count n bits → word_count n ≡ l.long → l.bitmaps ≡ flat_map packed bits
      → (l.rest ≡ flat_map packed (drop l.counter bits)) × (l.words.items ≡ l.initial.words.items ++ checksums (take l.counter bits));
}
