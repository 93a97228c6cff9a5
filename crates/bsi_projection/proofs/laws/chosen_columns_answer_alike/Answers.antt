use Rattle.bsi_projection.proofs.Shown.{answer-shown, chosen-show, fitting-chosen, wide-fitting}
use Rattle.bsi_projection.proofs.laws.chosen_columns_answer_alike.Goals as goal

pub returns-clause-answers : goal.returns-clause-answers
returns-clause-answers c = λ by rows narrow query answer show. answer-shown by rows narrow show query answer

pub returns-clause-shown : goal.returns-clause-shown
returns-clause-shown c = λ t chosen fitting. chosen-show chosen _ t.rows (wide-fitting t.schema.columns t.rows fitting)

pub returns-clause-fitting : goal.returns-clause-fitting
returns-clause-fitting c = λ t chosen there fitting. fitting-chosen t.schema.columns chosen there t.rows fitting
