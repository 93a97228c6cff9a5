use Rattle.std.proofs.Common.{rules, subst}
use Rattle.rtrb.specs.Ring.{sent}
use Rattle.bsi_system.specs.Rings.{AllFit}
use Rattle.bsi_system.proofs.Messages.{rows_fit}
use Rattle.bsi_system.proofs.feeder.Feeder.close.Goals as goal

-- each row that was sent fits
pub returns : goal.returns
returns c =
    let l = c.self.inside in
    record {
      number = search rules;
      channel = search rules;
      rows = search rules;
      fitting = subst (λ s. AllFit s.channel.schema s.sent) c.self.view_is (rows_fit l.schema.value (sent l.ring) c.self.invariant.0);
    }
