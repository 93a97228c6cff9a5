use Rattle.std.proofs.Common.{◌≡◌, ℕ, None, Some, rules, subst, sym}
use Rattle.std.specs.Prelude.{IfErr}
use Rattle.bsi_ffi.specs.Calls.{file_refusal, IsFileRefusal}
use Rattle.bsi_ffi.specs.declared.refusal.Refusal.{Refusal}
use Rattle.bsi_ffi.specs.declared.refusal.Refusal.TheVariants.{NoMemory}
use Rattle.bsi_ffi.proofs.FileBytes.{begins_with_file, refused_as, refused_first, refused_memory, refused_setting}
use Rattle.bsi_ffi.proofs.serialization.open_bytes.Goals as goal

pub returns-in-Err-clause-refused : goal.returns-in-Err-clause-refused
returns-in-Err-clause-refused c =
    subst (λ (why : Refusal). IsFileRefusal c.args.bytes.now c.args.whole.now why) (sym c.refusal_of.ensures)
    (subst (λ (n : ℕ). IsFileRefusal c.args.bytes.now n (file_refusal c.in-Err.fault)) (sym c.requires)
    (refused_first c.args.bytes.now (Some c.read_index.new.reader.now) c.in-Err.fault c.in-Err.ensures.fault))

pub returns-in-Some-clause-refused : goal.returns-in-Some-clause-refused
returns-in-Some-clause-refused c =
    let is : c.in-Ok.loaded.fault ≡ Some c.in-Some.fault = search rules in
    refused_as c.args.bytes.now _ _ _ _ _ _ _ _ is c.refusal_of-in-Some.ensures c.in-Ok.ensures.opened

pub returns-in_err-text-clause-refused : goal.returns-in_err-text-clause-refused
returns-in_err-text-clause-refused c =
    let is : IfErr c.from_residual.result (λ why. why ≡ NoMemory) = search rules in
    refused_memory c.from_residual.result c.args.bytes.now c.in-Ok.loaded.bytes (begins_with_file c.args.bytes.now _ _ _ _ _ _ c.in-Ok.ensures.opened) is

pub returns-in_err-set_kinds-clause-refused : goal.returns-in_err-set_kinds-clause-refused
returns-in_err-set_kinds-clause-refused c =
    let none : c.in-Ok.loaded.fault ≡ None = search rules in
    let why = c.in_err-set_kinds.field-0.0 in
    let met : IfErr c.from_residual-in_err-set_kinds.result (λ (w : Refusal). w ≡ why) = search rules in
    refused_setting c.from_residual-in_err-set_kinds.result c.args.bytes.now _ _ _ _ _ _ _ _ why met none c.in-Ok.ensures.opened c.new-opened.ensures.table
    c.in_err-set_kinds.ensures
