use Rattle.std.proofs.Common.{◌^◌, length, ap, arith}
use Rattle.bsi_columns.specs.StoredBitmaps.{slice_places}
use Rattle.bsi_columns.proofs.FromBitmaps.{none_by, none_with_null_bit, slices_made, slices_of_zero, some_by, split_first}
use Rattle.bsi_columns.proofs.bitmaps.slices_from_bitmaps.Goals as goal

pub returns-clause-bitmaps : goal.returns-clause-bitmaps
returns-clause-bitmaps c =
    let old = c.args.bitmaps.items in
    let rest = c.remove-not_null.new.self.items in
    let first = c.remove-not_null.result in
    let split = split_first old rest first (omega (arith, c.requires.count)) c.remove-not_null.ensures.value c.remove-not_null.ensures.by_index.2 in
    some_by c.from_places.result c.from_places.ensures.not_null c.from_places.ensures.places
    (λ column marks each. slices_made old rest first split c.args.width column.entries (omega (arith, c.requires.count, ap length split)) marks each)

pub returns-clause-none : goal.returns-clause-none
returns-clause-none c =
    let old = c.args.bitmaps.items in
    let rest = c.remove-not_null.new.self.items in
    let first = c.remove-not_null.result in
    let split = split_first old rest first (omega (arith, c.requires.count)) c.remove-not_null.ensures.value c.remove-not_null.ensures.by_index.2 in
    none_by c.from_places.result c.from_places.ensures.none
    (none_with_null_bit old rest first split (slice_places c.args.width) (2 ^ c.args.width) (slices_of_zero c.args.width))
