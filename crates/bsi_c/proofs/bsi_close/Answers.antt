use Rattle.bsi_c.proofs.bsi_close.Goals as goal

pub returns-clause-status : goal.returns-clause-status
returns-clause-status c = (c.close.result, c.status_of.ensures, c.close.ensures.ending)
