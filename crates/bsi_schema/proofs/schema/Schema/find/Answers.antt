use Rattle.std.proofs.Common.{subst, ap}
use Rattle.bsi_schema.specs.Columns.{AreNamed}
use Rattle.bsi_schema.proofs.NoNames.{stranger}
use Rattle.bsi_schema.proofs.schema.Schema.find.Goals as goal

pub returns-in-Err : goal.returns-in-Err
returns-in-Err c =
    let named = subst AreNamed (ap (λ s. s.columns) c.self.view_is) c.self.invariant.0.named in
    stranger c.args.self.now.columns c.args.name.now named c.in-Err.ensures.cases.0
