use Rattle.std.proofs.Common.{◌<◌, length, ◌≡◌, ◌∙◌, arith}
use Rattle.std.proofs.lemmas.Bool.Decides.{nat_tests}
use Rattle.bsi_shift.specs.Shifted.{shifted_entries}
use Rattle.bsi_aggregates.proofs.ManyNumbers.{many_numbers}
use Rattle.bsi_aggregates.proofs.distinct_numbers.has_more_numbers.Goals as goal

pub returns-clause-more : goal.returns-clause-more
returns-clause-more c = λ is.
    let numbers = c.in_ok-sorted_distinct.field-0 in
    let long : c.len.result ≡ length numbers.items = c.len.ensures ∙ numbers.ok.0 in
    let more : c.args.most < c.len.result = grind (arith, nat_tests) in
    many_numbers c.args.selection.now.bits (shifted_entries c.args.column.now) numbers.items c.args.most c.in_ok-sorted_distinct.ensures.rise
    c.in_ok-sorted_distinct.ensures.had (omega (arith, more, long))
