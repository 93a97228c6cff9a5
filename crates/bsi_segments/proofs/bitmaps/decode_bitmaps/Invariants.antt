use Rattle.std.proofs.Common.{◌≡◌, ◌*◌, ◌-◌, ◌++◌, ◌≤◌, length}
use Rattle.std.specs.List.{flat_map}
use Rattle.std.specs.Vec.{vec_capacity}
use Rattle.bsi_bits.specs.BitList.{word_count}
use Rattle.bsi_segments.specs.Bitmaps.{bits_of_bitmaps, packed, AreBitmaps}
use Rattle.bsi_segments.proofs.bitmaps.decode_bitmaps.Given as goal

-- the bitmaps so far, and the words of the others
abbrev pub invariant-maps : goal.invariant-maps
invariant-maps l = record {
  consumed : AreBitmaps l.counter l.n (bits_of_bitmaps l.maps.items);
  words : l.words ≡ flat_map packed (bits_of_bitmaps l.maps.items) ++ l.rest;
  left : length l.rest ≡ (l.count - l.counter) * word_count l.n;
  room : l.count ≤ vec_capacity l.maps;
}
