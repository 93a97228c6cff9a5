use Rattle.std.proofs.Common.{ℕ, ◌≡◌, ◌<◌, Option, None, Some, List, length, get_or}
use Rattle.std.specs.Prelude.{IfSome}
use Rattle.std.specs.Option.{option_copied}
use mathlib.Core.List.{IsPrefix}
use Rattle.bsi_rows.specs.RowBlocks.{entries_of}
use Rattle.bsi_table.specs.Index.{IndexedTable}
use Rattle.bsi_system.specs.Rings.{AllFit, RingReader}
use Rattle.bsi_system.specs.Readers.{HasFirst, IsBatchAt}
use Rattle.bsi_system.proofs.Progress.{batch_read}
use Rattle.bsi_system.proofs.readers.first_batch_of.Goals as goal

lent : (readers : List RingReader) (f : ℕ) → HasFirst readers f → (i : RingReader) → i ≡ get_or readers f i → (lends : Option IndexedTable)
    → IfSome lends (λ batch. IsPrefix (entries_of batch.rows) i.seen) → IfSome lends (λ batch. 0 < length batch.rows)
    → IfSome lends (λ batch. AllFit i.channel.schema (entries_of batch.rows)) → IfSome lends (IsBatchAt readers f)
lent readers f first_row i read None rows some fitting = tt
lent readers f first_row i read (Some batch) rows some fitting = batch_read readers f first_row i read batch rows some fitting

pub returns : goal.returns
returns c =
    let is = c.first_batch.ensures in
    lent c.args.readers.now.items c.args.feeder c.requires c.index.result.now c.index.ensures (option_copied c.first_batch.result) is.rows is.some is.fitting
