use Rattle.std.proofs.Common.{◌≡◌, ℕ, Bool, List, length, ap₂, arith, ext_get_or, refl, rules}
use Rattle.bsi_schema.specs.Columns.{no_column, Declared, NamedColumn}
use Rattle.bsi_schema.proofs.schema.Schema.is_same.Goals as goal

-- no column differs
pub returns : goal.returns
returns c =
    let a : Declared = c.args.self.now in
    let b : Declared = c.args.other.now in
    let flags : a.signed ≡ b.signed = search rules in
    let long : length a.columns ≡ length b.columns = omega (arith, c.if-columns.false, c.columns-else-self-other.ensures.columns, c.columns-else-self-other-2.ensures.columns) in
    let each : a.columns ≡ b.columns = ext_get_or no_column a.columns b.columns long
    (λ k within. c.columns.invariant k (omega (arith, within, c.columns-test.false, c.columns-c-end.ensures.columns))) in
    let same : a ≡ b = ap₂ (λ (cs : List NamedColumn) (flag : Bool). record { columns = cs; signed = flag }) each flags in
    (λ yes. same, λ is. refl)
