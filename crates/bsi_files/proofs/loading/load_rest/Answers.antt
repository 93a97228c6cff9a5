use Rattle.std.proofs.Common.{◌≡◌, true, sym, ◌∙◌}
use Rattle.bsi_files.specs.Progress.{all_closed}
use Rattle.bsi_answers.proofs.Passing.{if_err, if_told, on_ok}
use Rattle.bsi_files.proofs.loading.load_rest.Goals as goal

pub returns-clause-drained : goal.returns-clause-drained
returns-clause-drained g c = on_ok c.drain_all.result (λ each closed f lt. each f lt) c.drain_all.ensures.drained

pub returns-clause-full : goal.returns-clause-full
returns-clause-full g c =
    let closed : all_closed c.args.fed.now ≡ true = sym c.are_closed.ensures ∙ c.if-not-are_closed.false in
    if_err c.drain_all.result (λ fault full is. (closed, full is)) (if_told c.drain_all.result c.drain_all.ensures.full)
