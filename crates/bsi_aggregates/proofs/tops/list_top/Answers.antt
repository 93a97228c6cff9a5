use Rattle.std.proofs.Common.{map, ap, sym, subst, length, take, rules, ◌∙◌}
use Rattle.std.specs.Prelude.{◌&&◌, is_some}
use Rattle.std.specs.Simd.Lanes.{zip2}
use Rattle.std.proofs.lemmas.List.{length-map}
use Rattle.std.proofs.lemmas.Fn.{always_returns_same}
use Rattle.std.proofs.lemmas.Simd.{length-zip2}
use Rattle.bsi_shift.specs.Shifted.{shifted_entries}
use Rattle.bsi_aggregates.specs.Tops.{is_ahead, AreTop, HaveNumbers}
use Rattle.bsi_aggregates.proofs.TopsSorted.{ahead_orders, numbered_have, sorted_top, top_of_numbered}
use Rattle.bsi_aggregates.proofs.tops.list_top.Goals as goal

pub first_rows-requires-clause-same : goal.first_rows-requires-clause-same
first_rows-requires-clause-same c =
    let selection = c.args.selection.bits in
    let entries = shifted_entries c.args.column.now in
    let long = sym c.requires ∙ sym (length-map entries is_some) in
    let is = c.and_with.ensures.bits ∙ ap (λ there. zip2 ◌&&◌ selection there) c.not_null.ensures in
    c.requires ∙ sym (ap length is ∙ length-zip2 ◌&&◌ selection (map is_some entries) long)

pub first_rows-requires-clause-numbers : goal.first_rows-requires-clause-numbers
first_rows-requires-clause-numbers c =
    let selection = c.args.selection.bits in
    let entries = shifted_entries c.args.column.now in
    let is = c.and_with.ensures.bits ∙ ap (λ there. zip2 ◌&&◌ selection there) c.not_null.ensures in
    subst (λ bits. HaveNumbers bits entries) (sym is) (numbered_have selection entries)

pub returns : goal.returns
returns c =
    let selection = c.args.selection.bits in
    let entries = shifted_entries c.args.column.now in
    let extreme = c.args.extreme in
    let most = c.args.most in
    let is = c.and_with.ensures.bits ∙ ap (λ there. zip2 ◌&&◌ selection there) c.not_null.ensures in
    let sorted = c.sort_unstable_by.ensures.sorted (is_ahead extreme) (ahead_orders extreme) (always_returns_same _ _ _ (λ a r f k. search rules)) in
    let top = sorted_top extreme most c.and_with.new.self.bits entries c.in_ok-listed.listed.items c.sort_unstable_by.new.self.items c.in_ok-listed.ensures c.sort_unstable_by.ensures.permutation sorted in
    top_of_numbered selection entries extreme most c.truncate.new.self.items
    (subst (AreTop extreme most (zip2 ◌&&◌ selection (map is_some entries)) entries) (sym c.truncate.ensures.items)
    (subst (λ bits. AreTop extreme most bits entries (take most c.sort_unstable_by.new.self.items)) is top))
