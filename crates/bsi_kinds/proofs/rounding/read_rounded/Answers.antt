use Rattle.bsi_kinds.proofs.Halves.{exact_some}
use Rattle.bsi_kinds.proofs.rounding.read_rounded.Goals as goal

pub returns-in_default-clause-some : goal.returns-in_default-clause-some
returns-in_default-clause-some c = exact_some c.args.point c.args.places c.args.text.now c.read_decimal.result c.read_decimal.ensures
