use Rattle.std.proofs.Common.{All, Contains, ap, subst, ◌∙◌}
use Rattle.std.specs.Ordering.{int_eq}
use Rattle.std.specs.Set.{distinct_count}
use Rattle.bsi_aggregates.proofs.DistinctNumbers.{distinct_sorted}
use Rattle.bsi_aggregates.proofs.ManyNumbers.{kept_had, kept_rise}
use Rattle.bsi_aggregates.proofs.distinct_numbers.sorted_distinct.Goals as goal

pub returns-clause-count : goal.returns-clause-count
returns-clause-count c =
    distinct_sorted c.in_ok-numbers.numbers.items c.sort_unstable.new.self.items c.dedup.new.self.items c.sort_unstable.ensures.permutation c.sort_unstable.ensures.sorted c.dedup.ensures.filtered
    ∙ ap (distinct_count int_eq) c.in_ok-numbers.ensures

pub returns-clause-rise : goal.returns-clause-rise
returns-clause-rise c =
    kept_rise c.in_ok-numbers.numbers.items c.sort_unstable.new.self.items c.dedup.new.self.items c.sort_unstable.ensures.permutation c.dedup.ensures.filtered
    c.sort_unstable.ensures.sorted

pub returns-clause-had : goal.returns-clause-had
returns-clause-had c =
    subst (λ numbers. All (Contains numbers) c.dedup.new.self.items) c.in_ok-numbers.ensures
    (kept_had c.in_ok-numbers.numbers.items c.sort_unstable.new.self.items c.dedup.new.self.items c.sort_unstable.ensures.permutation c.dedup.ensures.filtered)
