use Rattle.std.proofs.Common.{length, ap, ap₂, sym, ◌∙◌}
use Rattle.std.proofs.lemmas.List.{length-map}
use Rattle.std.specs.Ordering.{int_eq}
use Rattle.std.specs.Set.{distinct_count}
use Rattle.bsi_digits.specs.Orders.{values_at}
use Rattle.bsi_aggregates.proofs.distinct_numbers.distinct.Goals as goal

pub count_distinct-requires : goal.count_distinct-requires
count_distinct-requires c =
    let rows = c.args.index.now.rows in
    ap length c.column.ensures.entries ∙ length-map rows _ ∙ sym (ap length c.in_ok-selection.ensures.1 ∙ length-map rows _)

pub returns : goal.returns
returns c = (
  c.in_ok-selection.ensures.0,
  c.in_ok-count_distinct.ensures ∙ ap (distinct_count int_eq) (ap₂ values_at c.in_ok-selection.ensures.1 c.column.ensures.entries),
)
