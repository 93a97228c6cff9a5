use Rattle.std.proofs.Common.{Err, rules, sym, subst, IsTrue}
use Rattle.bsi_logical.specs.Logical.{Logical}
use Rattle.bsi_logical.specs.Records.{null_given, Does}
use Rattle.bsi_logical.specs.declared.refusal.DeclareError.TheVariants.{Refused}
use Rattle.bsi_logical.specs.declared.refusal.Refusal.TheVariants.{NullDeclared}
use Rattle.bsi_survey.specs.Made.{is_null_by, AddsNulls}
use Rattle.bsi_survey.proofs.Saying.{adds_done, adds_none, null_done, null_was}
use Rattle.bsi_survey.proofs.making.add_word.Goals as goal

-- a word that is a null already
pub returns-in-Err-Refused-NullDeclared-clause-adds : goal.returns-in-Err-Refused-NullDeclared-clause-adds
returns-in-Err-Refused-NullDeclared-clause-adds c =
    let l = c.args.logical.now in
    let new = c.add_null.new.self in
    let does : Does (null_given l c.args.word.now) l new (Err (Refused NullDeclared)) = search rules in
    subst (λ (m : Logical). AddsNulls l m) (sym does.1) (adds_none l)

pub returns-in-Err-Refused-NullDeclared-clause-null : goal.returns-in-Err-Refused-NullDeclared-clause-null
returns-in-Err-Refused-NullDeclared-clause-null c =
    let l = c.args.logical.now in
    let word = c.args.word.now in
    let new = c.add_null.new.self in
    let does : Does (null_given l word) l new (Err (Refused NullDeclared)) = search rules in
    subst (λ (m : Logical). IsTrue (is_null_by m.nulls word)) (sym does.1) (null_was l word NullDeclared does.0)

-- the others
pub returns-in_default-3-clause-adds : goal.returns-in_default-3-clause-adds
returns-in_default-3-clause-adds c = adds_done c.args.logical.now c.add_null.new.self c.args.word.now c.add_null.result c.add_null.ensures

pub returns-in_default-3-clause-null : goal.returns-in_default-3-clause-null
returns-in_default-3-clause-null c = null_done c.args.logical.now c.add_null.new.self c.args.word.now c.add_null.result c.add_null.ensures
