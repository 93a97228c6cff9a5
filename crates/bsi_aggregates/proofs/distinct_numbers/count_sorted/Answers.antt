use Rattle.std.proofs.Common.{◌∙◌, arith}
use Rattle.bsi_aggregates.proofs.distinct_numbers.count_sorted.Goals as goal

pub returns-clause-count : goal.returns-clause-count
returns-clause-count c = c.len.ensures ∙ c.in_ok-sorted_distinct.field-0.ok.0 ∙ c.in_ok-sorted_distinct.ensures.count

pub returns-clause-few : goal.returns-clause-few
returns-clause-few c = omega (arith, c.len.ensures, c.in_ok-sorted_distinct.field-0.ok.1, c.in_ok-sorted_distinct.field-0.small)
