use Rattle.bsi_system.proofs.Messages.{entries_fit}
use Rattle.bsi_system.proofs.message.Batch.is_for.Goals as goal

pub returns : goal.returns
returns c = (
  λ is. (c.has_limits_of.ensures.alike.0 is, entries_fit c.args.schema.now c.args.self.now.index.rows (c.has_limits_of.ensures.fits is)),
  λ is. c.has_limits_of.ensures.alike.1 is.0,
)
