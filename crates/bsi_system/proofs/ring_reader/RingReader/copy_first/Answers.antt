use Rattle.std.proofs.Common.{◌≡◌, ◌∷◌, [], ap, ◌∙◌, subst}
use Rattle.std.specs.Prelude.{slice_get, Some}
use Rattle.std.proofs.lemmas.Result.{IfOk-weaker}
use mathlib.Core.List.{IsPrefix}
use Rattle.rtrb.specs.Ring.{known_items}
use Rattle.bsi_rows.specs.RowBlocks.{entries_of}
use Rattle.bsi_system.specs.Rings.{rows_of}
use Rattle.bsi_system.proofs.Fronts.{first_at}
use Rattle.bsi_system.proofs.ring_reader.RingReader.copy_first.Goals as goal

-- the row of the batch at the within_first of the next one
pub returns-in-Batch : goal.returns-in-Batch
returns-in-Batch c =
    let l = c.self.inside in
    let p = c.peek_known.result.now in
    IfOk-weaker c.row.result (λ row. slice_get (entries_of c.in-Batch.batch.index.rows) l.next ≡ Some row) (λ row. IsPrefix (row ∷ []) c.args.self.now.seen)
    (λ row at. subst (λ i. IsPrefix (row ∷ []) i.seen) c.self.view_is
    (first_at (known_items l.ring) l.next c.self.invariant.0.within_first p c.peek_known.ensures row (ap (λ q. slice_get (rows_of q) l.next) c.in-Batch.is ∙ at))) c.row.ensures
