use Rattle.bsi_rows.proofs.Composing.{shown_step}
use Rattle.bsi_rows.proofs.laws.runs_compose.Goals as goal

pub returns : goal.returns
returns c = λ s past e r lawful next. shown_step s past lawful e r next
