use Rattle.std.proofs.Common.{◌≡◌, ◌+◌, ◌≤◌, List, [], length, refl, rules, subst, sym}
use Rattle.std.proofs.lemmas.Result.{err_from_is_err_and}
use Rattle.bsi_projection.specs.Chosen.{chosen_table}
use Rattle.bsi_rows.specs.Rows.{SourcedRow}
use Rattle.bsi_rows.specs.Table.{with_rows, Table}
use Rattle.bsi_schema.specs.Columns.{Declared}
use Rattle.bsi_storage.specs.ChosenColumns.{SaysChosen}
use Rattle.bsi_storage.specs.ChosenFiles.{IsHeadAt}
use Rattle.bsi_storage.specs.Faults.{AcceptsRowsOf}
use Rattle.bsi_storage.specs.Opens.{IsReadOrNoMemory}
use Rattle.bsi_storage.specs.Saved.{with_only, Part}
use Rattle.bsi_storage.proofs.FileWalk.{accepted, joined}
use Rattle.bsi_syntax.specs.Bytes.{Bytes}
use Rattle.bsi_table.specs.Index.{table_of}
use Rattle.bsi_storage.proofs.file_heads.append_segment.Goals as goal

pub returns-in_err-more-clause-fault : goal.returns-in_err-more-clause-fault
returns-in_err-more-clause-fault g c =
    let known = g.R.ReadAt.all_bytes c.args.reader.now in
    let p = err_from_is_err_and c.from_residual.result c.from_residual.ensures.1 in
    let met : (t : Table) → (kinds : Bytes) → (p : Part) → (rows : List SourcedRow) → IsHeadAt known t kinds c.args.head.now p
    → table_of c.args.whole.now ≡ chosen_table c.args.chosen.now (with_only t rows) → length rows + length p.rows ≤ t.limit → IsReadOrNoMemory c.in_err-more.field-0.0 =
    λ t kinds part rows own before within. c.in_err-more.ensures.fault own.at (with_only t part.rows) part.notes kinds own.begins own.is in
    rw (p.1, p.2) met

-- the rows of the segments of a file may follow one another
pub returns-then-not-accepts_rows_of-clause-fault : goal.returns-then-not-accepts_rows_of-clause-fault
returns-then-not-accepts_rows_of-clause-fault g c = λ t kinds part rows own before within.
    (let opened = rw c.in-Some.is at c.in_ok-more.ensures.opened in
    let chosen = c.args.chosen.now in
    let more = opened own.at (with_only t part.rows) part.notes kinds own.begins own.is in
    let may = accepted chosen t rows part.rows within in
    absurd (c.if-not-accepts_rows_of.ensures.no refl
    (subst (λ (v : Table). AcceptsRowsOf (table_of c.args.whole.now) [] v []) (sym more)
    (subst (λ (u : Table). AcceptsRowsOf u [] (chosen_table chosen (with_only t part.rows)) []) (sym before) may))))

pub returns-clause-appended : goal.returns-clause-appended
returns-clause-appended g c = λ done t kinds part rows own before.
    (let opened = rw c.in-Some.is at c.in_ok-more.ensures.opened in
    let more = c.in-Some.more in
    let whole = c.append_index.new.self in
    let sum : table_of whole ≡ with_rows (table_of c.args.whole.now) more.rows = search rules in
    joined c.args.chosen.now t rows part.rows (table_of c.args.whole.now) (table_of more) (table_of whole) before
    (opened own.at (with_only t part.rows) part.notes kinds own.begins own.is) sum)

pub returns-clause-said : goal.returns-clause-said
returns-clause-said g c = λ done.
    (let known = g.R.ReadAt.all_bytes c.args.reader.now in
    let more = c.in-Some.more in
    let says = rw c.in-Some.is at c.in_ok-more.ensures.said in
    let same : more.schema ≡ c.args.whole.now.schema = search rules in
    let sum : table_of c.append_index.new.self ≡ with_rows (table_of c.args.whole.now) more.rows = search rules in
    (more.rows, subst (λ (s : Declared). SaysChosen known c.args.head.now c.args.chosen.now s more.rows) same says, sum))
