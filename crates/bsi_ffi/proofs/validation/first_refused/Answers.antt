use Rattle.std.proofs.Common.{◌≡◌, true, false, rules, tests}
use Rattle.std.proofs.lemmas.Iterator.{first_from_Range}
use Rattle.bsi_schema.specs.Columns.{is_between}
use Rattle.bsi_ffi.specs.Columns.{input_entry}
use Rattle.bsi_ffi.proofs.validation.first_refused.Goals as goal

pub returns-clause-accepted : goal.returns-clause-accepted
returns-clause-accepted c = λ r before.
    let first_of = first_from_Range _ _ _ _ (λ k. is_between c.args.limits.least c.args.limits.size (input_entry k c.args.column.now) ≡ false)
    (λ k. is_between c.args.limits.least c.args.limits.size (input_entry k c.args.column.now) ≡ true) c.find-refused.ensures.ran
    (λ x q k. search (rules, tests)) (λ x q k. search (rules, tests)) in
    search (rules, first_of)
