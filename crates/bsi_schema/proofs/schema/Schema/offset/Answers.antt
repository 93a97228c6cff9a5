use Rattle.std.proofs.Common.{◌+ℤ◌, ◌≤ℤ◌, ◌^◌, pos, SFits, to_z-of_z, rules, subst, sym, ◌∙◌}
use Rattle.std.specs.Int.{w64}
use Rattle.bsi_schema.specs.Columns.{column_at, size_in}
use Rattle.bsi_schema.proofs.schema.Schema.offset.Goals as goal

pub returns-clause-offset : goal.returns-clause-offset
returns-clause-offset c =
    let fits : SFits w64 c.layout.result.now.offset = search rules in
    to_z-of_z fits ∙ c.layout.ensures.offset

pub returns-clause-below : goal.returns-clause-below
returns-clause-below c =
    subst (λ o. (o +ℤ pos (size_in (column_at c.args.self.now.columns c.args.c).form)) ≤ℤ pos (2 ^ 63)) (sym (returns-clause-offset c)) c.layout.ensures.valid.below
