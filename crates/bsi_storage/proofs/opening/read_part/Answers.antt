use Rattle.std.proofs.lemmas.Result.{err_from_is_err_and}
use Rattle.bsi_storage.proofs.opening.read_part.Goals as goal

pub returns-clause-read : goal.returns-clause-read
returns-clause-read g c =
    let consumed = rw c.in-Some.is at c.in_ok-first.ensures.read in
    c.in_ok-read.ensures.read (g.R.Read.remaining c.args.reader.now) consumed

pub returns-in_err-read-clause-fault : goal.returns-in_err-read-clause-fault
returns-in_err-read-clause-fault g c =
    let consumed = rw c.in-Some.is at c.in_ok-first.ensures.read in
    let p = err_from_is_err_and c.from_residual-in_err-read.result c.from_residual-in_err-read.ensures.1 in
    let met = c.in_err-read.ensures.fault (g.R.Read.remaining c.args.reader.now) consumed in
    rw (p.1, p.2) met
