use Rattle.std.proofs.Common.{◌≡◌, ℕ, ◌+◌, ◌*◌, Bool, List, [], ◌∷◌, ◌++◌, length, map, ap, ap₂, sym, subst, ◌∙◌, arith, append-nil}
use Rattle.std.specs.List.{flat_map}
use Rattle.std.proofs.lemmas.Grind.{flat_map-append}
use Rattle.std.proofs.lemmas.List.{map-append, take_more}
use Rattle.bsi_bits.specs.BitList.{word_count, BitList}
use Rattle.bsi_segments.specs.Bitmaps.{bits_of_bitmaps, packed}
use Rattle.bsi_segments.specs.Lanes.{lanes_of}
use Rattle.bsi_pread.specs.Offsets.{StandAt}
use Rattle.bsi_segments.proofs.Chunks.{length-all, long_more}
use Rattle.bsi_pread.proofs.Placing.{stand_more}
use Rattle.bsi_pread.proofs.bitmaps.read_bitmaps.Goals as goal

pub maps-preserved : goal.maps-preserved
maps-preserved g c =
    let known = g.R.ReadAt.all_bytes c.args.reader.now in
    let held = c.maps.invariant in
    let before = bits_of_bitmaps c.maps.maps.items in
    let own = c.in_ok-bits.bits.bits in
    let new = c.push_reserved.new.self.items in
    let parts : bits_of_bitmaps new ≡ before ++ own ∷ [] = ap bits_of_bitmaps c.push_reserved.ensures.items ∙ map-append (λ (m : BitList). m.bits) c.maps.maps.items (c.in_ok-bits.bits ∷ []) in
    let flat : flat_map packed (bits_of_bitmaps new) ≡ flat_map packed before ++ packed own =
    ap (flat_map packed) parts ∙ flat_map-append packed before (own ∷ []) ∙ ap (λ ws. flat_map packed before ++ ws) (append-nil (packed own)) in
    let long : length (flat_map packed before) ≡ length before * word_count c.args.rows = length-all c.args.rows before (λ k below. held.long.each k (omega (arith, below, held.long.many))) in
    let many : length before * word_count c.args.rows ≡ c.maps.sum-index * word_count c.args.rows = ap (λ n. n * word_count c.args.rows) held.long.many in
    let offset : c.maps.offset ≡ c.args.at + 8 * length (flat_map packed before) = omega (arith, held.offset, long, many) in
    let step : c.div_ceil-long.result ≡ word_count c.args.rows = omega (arith, c.div_ceil-long.ensures) in
    let next : (c.maps.sum-index + 1) * word_count c.args.rows ≡ c.maps.sum-index * word_count c.args.rows + word_count c.args.rows = omega arith in
    record {
      long = long_more c.maps.sum-index c.args.rows c.maps.maps.items c.in_ok-bits.bits new c.push_reserved.ensures.items held.long c.in_ok-bits.ensures.long;
      words = subst (StandAt known c.args.at) (sym flat)
          (stand_more known c.args.at (flat_map packed before) (packed own) held.words (subst (λ (n : ℕ). StandAt known n (packed own)) offset c.in_ok-bits.ensures.words));
      sums = ap (map (λ (bits : List Bool). lanes_of (packed bits))) parts ∙ map-append (λ (bits : List Bool). lanes_of (packed bits)) before (own ∷ [])
          ∙ ap₂ ◌++◌ held.sums (ap (λ s. s ∷ []) c.in_ok-bits.ensures.sum) ∙ sym (take_more c.args.sums.now c.maps.sum-index 0 c.maps-test.true);
      offset = omega (arith, held.offset, step, next);
      room = omega (arith, c.push_reserved.ensures.capacity, held.room);
    }
