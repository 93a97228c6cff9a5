use Rattle.std.proofs.Common.{map, ap, sym, subst, ◌∙◌}
use Rattle.bsi_schema.specs.Columns.{IsDeclared, IsSchema}
use Rattle.bsi_schema.specs.Limits.{limits_of}
use Rattle.bsi_schema.proofs.Naming.{named-cloned}
use Rattle.bsi_schema.proofs.schema.Schema.copy.Goals as goal

pub invariant_of-result : goal.invariant_of-result
invariant_of-result c =
    let same = named-cloned c.self.inside.columns.entries c.in_ok-clone.field-0.entries c.in_ok-clone.ensures.cases in (
      subst IsSchema (sym same) c.self.invariant.0,
      c.in_ok-from_slice.ensures.items ∙ c.deref.ensures.value ∙ c.self.invariant.1 ∙ ap (map limits_of) (sym same),
      subst (λ columns. IsDeclared (record { columns = columns; signed = c.self.inside.signed })) (sym same) c.self.invariant.2,
    )

pub returns : goal.returns
returns c =
    ap (λ columns. record { columns = columns; signed = c.self.inside.signed })
    (named-cloned c.self.inside.columns.entries c.in_ok-clone.field-0.entries c.in_ok-clone.ensures.cases) ∙ c.self.view_is
