use Rattle.std.proofs.Common.{◌≡◌, ◌++◌, inl, inr, ap, sym, ◌∙◌}
use Rattle.bsi_rows.specs.Answers.{columns_of_pred, missing_of}
use Rattle.bsi_rows.proofs.Missing.{missing_first, missing_second}
use Rattle.bsi_rows.proofs.query.Pred.+missing_column.Goals as goal

pub returns-in-Some : goal.returns-in-Some
returns-in-Some t c =
    let first = c.in-Both.first.value in
    let second = c.in-Both.second.value in
    let parts : columns_of_pred c.args.self.now ≡ columns_of_pred first ++ columns_of_pred second =
    elim c.in-Both.is [ inl e ↦ ap columns_of_pred e | inr e ↦ ap columns_of_pred e ] in
    let selection = ap (λ p. missing_of c.args.columns (columns_of_pred p)) (sym c.deref-in-Both.ensures) ∙ sym c.missing_column-in-Both.ensures ∙ c.in-Some.is in
    sym (ap (missing_of c.args.columns) parts ∙ missing_first c.args.columns (columns_of_pred first) (columns_of_pred second) c.in-Some.missing selection)

pub returns-in-None : goal.returns-in-None
returns-in-None t c =
    let first = c.in-Both.first.value in
    let second = c.in-Both.second.value in
    let parts : columns_of_pred c.args.self.now ≡ columns_of_pred first ++ columns_of_pred second =
    elim c.in-Both.is [ inl e ↦ ap columns_of_pred e | inr e ↦ ap columns_of_pred e ] in
    let none = ap (λ p. missing_of c.args.columns (columns_of_pred p)) (sym c.deref-in-Both.ensures) ∙ sym c.missing_column-in-Both.ensures ∙ c.in-None.is in
    c.missing_column-in-None.ensures ∙ ap (λ p. missing_of c.args.columns (columns_of_pred p)) c.deref-in-None.ensures
    ∙ sym (ap (missing_of c.args.columns) parts ∙ missing_second c.args.columns (columns_of_pred first) (columns_of_pred second) none)
