use Rattle.std.proofs.Common.{◌≡◌, true, rules}
use Rattle.bsi_logical.specs.Dialects.{is_usual}
use Rattle.bsi_survey.proofs.Saying.{dialect_done, dialect_was}
use Rattle.bsi_survey.proofs.making.set_dialect.Goals as goal

pub returns-then-is_usual : goal.returns-then-is_usual
returns-then-is_usual c =
    let usual : is_usual c.args.dialect ≡ true = search (rules, c.is_usual.ensures, c.if-is_usual.true) in
    dialect_was c.args.logical.now c.args.dialect c.requires usual

pub returns : goal.returns
returns c = dialect_done c.args.logical.now c.set_dialect.new.self c.args.dialect c.set_dialect.result c.set_dialect.ensures
