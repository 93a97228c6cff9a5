use Rattle.std.proofs.Common.{◌≡◌, ℕ, ◌<◌, List, [], Some, length, true, ap, sym, ◌∙◌, below_more, arith}
use Rattle.std.specs.Prelude.{slice_get, IsTrue}
use Rattle.std.proofs.lemmas.Bool.Decides.{nat_tests}
use Rattle.std.proofs.lemmas.List.{get_or-map}
use Rattle.std.proofs.lemmas.List.Elements.{All-get_or}
use Rattle.std.proofs.lemmas.Option.{get_or_from_slice_get}
use Rattle.bsi_rows.specs.RowBlocks.{entries_of}
use Rattle.bsi_rows.specs.Rows.{row_at, Entries, SourcedRow}
use Rattle.bsi_schema.specs.Columns.{fits, NamedColumn}
use Rattle.bsi_schema.proofs.Fitting.{fits-length}
use Rattle.bsi_fixtures.proofs.blocks.has_fitting_rows.Goals as goal

row_fits : (columns : List NamedColumn) (rows : List SourcedRow) (r : ℕ) (row : Entries) → r < length rows → slice_get (entries_of rows) r ≡ Some row → fits columns row ≡ true
    → fits columns (row_at rows r).1 ≡ true
row_fits columns rows r row within is fit =
    ap (fits columns) (sym (get_or-map (λ row. row.1) rows r (0, []) [] within) ∙ get_or_from_slice_get (entries_of rows) r row [] is) ∙ fit

pub loop-r-preserved : goal.loop-r-preserved
loop-r-preserved c =
    let rows = c.args.block.now.rows in
    let columns = c.args.schema.now.columns in
    below_more (λ k. fits columns (row_at rows k).1 ≡ true) c.loop-r.r c.loop-r.invariant
    (row_fits columns rows c.loop-r.r c.in_ok-row.row (omega (arith, c.loop-r-test.true, c.len-rows.ensures.len)) c.in_ok-row.ensures (grind (arith, c.fits.ensures, c.if-not-fits.false)))

-- the first row has an entry for each column of both
pub returns-clause-wide : goal.returns-clause-wide
returns-clause-wide c = λ some.
    let rows = c.args.block.now.rows in
    let mine = c.args.block.now.schema.columns in
    let other = c.args.schema.now.columns in
    let first = row_at rows 0 in
    let within : 0 < length rows = grind (arith, nat_tests, some, c.len-rows.ensures.len) in
    sym (fits-length mine first.1 (All-get_or (λ row. IsTrue (fits mine row.1)) rows 0 (0, []) within c.len-rows.ensures.fitting))
    ∙ fits-length other first.1 (c.loop-r.invariant 0 (omega (arith, within, c.len-rows.ensures.len, c.loop-r-test.false)))
