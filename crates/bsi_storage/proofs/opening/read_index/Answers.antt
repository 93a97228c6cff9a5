use Rattle.bsi_storage.proofs.opening.read_index.Goals as goal

pub segments-preserved : goal.segments-preserved
segments-preserved g c = c.in-Ok-true.ensures.more c.in-Ok-true.field-0-test (g.R.Read.remaining c.args.reader.now) c.segments.invariant
