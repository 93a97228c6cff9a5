use Rattle.std.proofs.Common.{◌≡◌, ◌∙◌, ap, sym, subst}
use Rattle.std.specs.Prelude.{Ok, false, true}
use Rattle.bsi_ffi.specs.Kinds.{IsKindsRefusal}
use Rattle.bsi_ffi.specs.declared.refusal.Refusal.{Refusal}
use Rattle.bsi_ffi.proofs.SaidKinds.{bad_kinds, refused}
use Rattle.bsi_ffi.proofs.kinds_text.read_kinds.Goals as goal

pub returns-in-Err-clause-refused : goal.returns-in-Err-clause-refused
returns-in-Err-clause-refused c =
    let kinds = c.args.kinds.now in
    let schema = c.args.schema.now in
    subst (λ (why : Refusal). IsKindsRefusal kinds schema why) (sym c.refusal_of.ensures)
    (refused kinds schema c.if-is_empty.ensures c.in-Err.fault c.in-Err.ensures.read)

-- the columns that the text says are not these
pub returns-then-not-is_same-clause-refused : goal.returns-then-not-is_same-clause-refused
returns-then-not-is_same-clause-refused c =
    bad_kinds c.args.kinds.now c.args.schema.now c.if-is_empty.ensures (Ok c.in-Ok.logical) c.in-Ok.ensures.read (λ said reads same.
    let is : c.schema.result.now ≡ c.args.schema.now = c.schema.ensures.schema ∙ (ap (λ l. l.schema) reads ∙ same) in
    let not : false ≡ true = c.if-not-is_same.ensures.1 is in
    cc (not))
