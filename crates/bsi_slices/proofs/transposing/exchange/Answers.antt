use Rattle.std.proofs.Common.{arith}
use Rattle.bsi_slices.proofs.Exchanging.{runs_none, runs_more}
use Rattle.bsi_slices.proofs.transposing.exchange.Goals as goal

pub runs-init : goal.runs-init
runs-init c = runs_none c.args.s c.args.words.now c.told-words

pub runs-preserved : goal.runs-preserved
runs-preserved c =
    let run = c.exchange_run.ensures in
    runs_more c.args.s c.runs.p c.args.words.now c.runs.words c.exchange_run.new.words c.requires.weight.0 c.runs.invariant (record {
      long = run.long;
      first = λ q r below near. run.first q r (omega arith) near;
      second = λ q r below near. run.second q r (omega arith) near;
      before = run.before;
      middle = λ j past inside. absurd (omega arith);
      after = λ j past. run.after j (omega arith);
    })
