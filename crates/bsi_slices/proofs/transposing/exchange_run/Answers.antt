use Rattle.bsi_slices.proofs.Exchanging.{run_none, run_more}
use Rattle.bsi_slices.proofs.transposing.exchange_run.Goals as goal

pub rows-init : goal.rows-init
rows-init c = run_none c.args.s c.args.from c.args.words.now c.told-words

pub rows-preserved : goal.rows-preserved
rows-preserved c =
    run_more c.args.s c.args.low c.args.from c.rows.k c.args.words.now c.rows.words c.requires.within.0 c.requires.within.1 c.requires.low
    c.rows.auto.k c.rows-test.true c.rows.invariant
