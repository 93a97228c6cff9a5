use Rattle.std.proofs.Common.{◌≡◌, ◌++◌, length, map}
use Rattle.std.specs.List.{flat_map, range_with_len}
use Rattle.bsi_segments.specs.Bitmaps.{packed}
use Rattle.bsi_kernels.specs.Places.{has_place}
use Rattle.bsi_storage.proofs.columns.encode_places.Given as goal

-- the words of the places so far
abbrev pub invariant-places : goal.invariant-places
invariant-places g l = record {
  same : length (g.E.Encoding.digits l.component) ≡ length l.place.bits;
  words : l.words.items ≡ l.fn.words.items ++ flat_map packed (map (λ k. map (has_place k) (g.E.Encoding.digits l.component)) (range_with_len 0 l.k));
}
