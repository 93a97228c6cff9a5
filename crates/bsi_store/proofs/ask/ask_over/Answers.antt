use Rattle.bsi_answers.proofs.Passing.{on_ok}
use Rattle.bsi_store.proofs.ask.ask_over.Goals as goal

pub returns-clause-asked : goal.returns-clause-asked
returns-clause-asked g c = on_ok c.ask_input.result (λ asked. (c.in_ok-asks.asks, asked)) c.ask_input.ensures.asked
