use Rattle.bsi_kinds.specs.Decimals.{is_exponent_sign}
use Rattle.bsi_kinds.proofs.Places.{behind_first}
use Rattle.bsi_kinds.proofs.decimal.split_at_exponent.Goals as goal

pub returns-in-len1-up-clause-behind : goal.returns-in-len1-up-clause-behind
returns-in-len1-up-clause-behind c =
    behind_first is_exponent_sign c.args.text.now c.find_exponent.result c.unwrap_or-at.result c.split_at.result.1.now
    c.find_exponent.ensures c.unwrap_or-at.ensures c.split_at.ensures.back
