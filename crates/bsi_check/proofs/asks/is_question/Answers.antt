use Rattle.std.proofs.Common.{ap, ◌∙◌}
use Rattle.csv.specs.Records.{fields_of}
use Rattle.bsi_rows.specs.declared.question.Question.{Question}
use Rattle.bsi_syntax.specs.Questions.{IsQuestion}
use Rattle.bsi_syntax.specs.Reading.{texts}
use Rattle.bsi_syntax.specs.declared.grammar.Grammar.TheVariants.{Index}
use Rattle.bsi_logical.specs.Meanings.{logical_vocabulary}
use Rattle.bsi_check.proofs.Asking.{asks_nothing, asks_question}
use Rattle.bsi_check.proofs.asks.is_question.Goals as goal

pub returns-in-Ok : goal.returns-in-Ok
returns-in-Ok c =
    asks_question c.args.logical.now (texts c.deref.result.now) (fields_of c.args.fields.now) (ap texts c.deref.ensures.value ∙ c.in_ok-lent.ensures) c.in-Ok.field-0 c.in-Ok.ensures

pub returns-in-Err-Stopped : goal.returns-in-Err-Stopped
returns-in-Err-Stopped c =
    let none : (question : Question) → IsQuestion Index (logical_vocabulary c.args.logical.now) (texts c.deref.result.now) question → ⊥ =
    rw c.in-Err-Stopped.field-0-is at c.in-Err-Stopped.ensures in
    asks_nothing c.args.logical.now (texts c.deref.result.now) (fields_of c.args.fields.now) (ap texts c.deref.ensures.value ∙ c.in_ok-lent.ensures) none
