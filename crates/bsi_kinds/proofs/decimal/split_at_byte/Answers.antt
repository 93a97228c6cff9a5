use Rattle.std.proofs.Common.{◌==◌}
use Rattle.bsi_kinds.proofs.Places.{behind_first}
use Rattle.bsi_kinds.proofs.decimal.split_at_byte.Goals as goal

pub returns-in-len1-up-clause-fraction : goal.returns-in-len1-up-clause-fraction
returns-in-len1-up-clause-fraction c =
    behind_first (λ byte. byte == c.args.point) c.args.text.now c.find_byte.result c.unwrap_or-at.result c.split_at.result.1.now
    c.find_byte.ensures c.unwrap_or-at.ensures c.split_at.ensures.back
