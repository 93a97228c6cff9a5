use Rattle.std.proofs.Common.{◌≡◌, rules, subst, sym}
use Rattle.std.proofs.lemmas.List.{get_or_default}
use Rattle.std.specs.List.{Contains}
use Rattle.std.specs.Prelude.{IfErr}
use Rattle.bsi_answers.proofs.Passing.{if_err}
use Rattle.bsi_store.specs.Faults.{NamesPath}
use Rattle.bsi_store.specs.declared.fault.StoreFault.{StoreFault}
use Rattle.bsi_store.proofs.add_file.open_each.Goals as goal

pub returns-in_err-file-clause-named : goal.returns-in_err-file-clause-named
returns-in_err-file-clause-named g c =
    let paths = c.args.paths.now in
    let k = c.files.path-index in
    let met : IfErr c.from_residual-in_err-file.result (λ (fault : StoreFault). fault ≡ c.in_err-file.field-0.0) = search rules in
    if_err c.from_residual-in_err-file.result (λ fault is. subst (NamesPath (Contains paths)) (sym is)
    (subst (NamesPath (Contains paths)) (sym c.in_err-file.ensures) (k, c.files-test.true, get_or_default paths k _ _ c.files-test.true))) met
