use Rattle.std.proofs.Common.{rules}
use Rattle.csv.specs.Records.{fields_of}
use Rattle.bsi_check.proofs.Asking.{verdict_of}
use Rattle.bsi_check.proofs.asks.is_query.Goals as goal

pub returns : goal.returns
returns c = verdict_of c.args.schema.now (fields_of c.args.fields.now) c.in_ok-query.query c.is_some.result c.in_ok-query.ensures (search rules)
