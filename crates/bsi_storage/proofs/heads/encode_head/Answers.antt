use Rattle.std.proofs.Common.{arith, subst}
use Rattle.bsi_schema.specs.Columns.{IsDeclared}
use Rattle.bsi_storage.proofs.heads.encode_head.Goals as goal

pub returns-clause-valid : goal.returns-clause-valid
returns-clause-valid c = record {
  declared = subst IsDeclared c.schema.ensures.schema c.limits.ensures.declared;
  accepted = c.limit.ensures.accepted;
  feeders = (omega (arith, c.feeders.ensures.feeders, c.feeders.ensures.within.0), omega (arith, c.feeders.ensures.feeders, c.feeders.ensures.within.1));
  within = omega (arith, c.len.ensures.len, c.len.ensures.within);
  rows = record { fits = c.schema.ensures.fitting; from = c.feeders.ensures.from };
  bytes = record { each = λ i. omega (arith, c.type_inv.notes i) };
  few = c.requires.notes;
  kinds_are = record { each = λ i. omega (arith, c.type_inv.kinds i) };
  few_kinds = c.requires.kinds;
}
