use Rattle.std.proofs.Common.{subst}
use Rattle.bsi_rows.specs.Answers.{IsAnswer}
use Rattle.bsi_aggregates.proofs.Rising.{shown_rows}
use Rattle.bsi_aggregates.proofs.answering.arrange_answer.Goals as goal

pub returns-in-Rows : goal.returns-in-Rows
returns-in-Rows c = λ query rows is.
    shown_rows query rows c.in-Rows.rows c.arrange.new.rows (subst (λ answer. IsAnswer query rows answer) c.in-Rows.is is)
    c.arrange.ensures.permutation c.arrange.ensures.sorted
