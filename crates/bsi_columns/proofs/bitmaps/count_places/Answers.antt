use Rattle.std.proofs.Common.{◌+◌, length, ap, ap₂, sym, ◌∙◌, arith, length-append}
use Rattle.std.specs.List.{flat_map, range_with_len}
use Rattle.bsi_components.specs.PlaceNumbers.{place_count}
use Rattle.bsi_columns.specs.StoredBitmaps.{digit_places}
use Rattle.bsi_columns.proofs.FromBitmaps.{tests_long}
use Rattle.bsi_columns.proofs.PieceLists.{pieces_more}
use Rattle.bsi_columns.proofs.bitmaps.count_places.Goals as goal

pub bases-preserved : goal.bases-preserved
bases-preserved c =
    let bs = c.args.bases.now in
    let i = c.bases.i in
    let before = flat_map (digit_places bs) (range_with_len 0 i) in
    record {
      count =
          ap₂ ◌+◌ c.bases.invariant.count (c.place_count-count.ensures.count ∙ ap place_count c.base.ensures.base ∙ sym (tests_long bs i))
          ∙ sym (ap length (pieces_more (digit_places bs) i) ∙ length-append before (digit_places bs i));
      few = omega (arith, c.bases.invariant.few, c.place_count-count.ensures.few);
    }
