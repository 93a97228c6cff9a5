use Rattle.std.proofs.Common.{◌≡◌, ◌+◌, ◌*◌, ◌≤◌, length, map, take}
use Rattle.std.specs.List.{flat_map}
use Rattle.std.specs.Vec.{vec_capacity}
use Rattle.bsi_bits.specs.BitList.{word_count}
use Rattle.bsi_segments.specs.Bitmaps.{bits_of_bitmaps, packed, AreBitmaps}
use Rattle.bsi_segments.specs.Lanes.{lanes_of}
use Rattle.bsi_pread.specs.Offsets.{StandAt}
use Rattle.bsi_pread.proofs.bitmaps.read_bitmaps.Given as goal

-- the bitmaps so far, and the offset of the next
abbrev pub invariant-maps : goal.invariant-maps
invariant-maps g l = record {
  long : AreBitmaps l.sum-index l.rows (bits_of_bitmaps l.maps.items);
  words : StandAt (g.R.ReadAt.all_bytes l.reader) l.at (flat_map packed (bits_of_bitmaps l.maps.items));
  sums : map (λ bits. lanes_of (packed bits)) (bits_of_bitmaps l.maps.items) ≡ take l.sum-index l.sums;
  offset : l.offset ≡ l.at + 8 * (l.sum-index * word_count l.rows);
  room : length l.sums ≤ vec_capacity l.maps;
}
