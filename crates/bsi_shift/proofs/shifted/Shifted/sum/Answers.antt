use Rattle.std.proofs.Common.{pos, neg_ℤ, ◌+ℤ◌, ◌*ℤ◌, ◌≤ℤ◌, ◌<ℤ◌, ◌≤◌, ◌^◌, ◌&&◌, length, is_some, ap, ap₂, subst, sym, ◌∙◌, rules, arith}
use Rattle.std.specs.Prelude.{count_by, sum}
use Rattle.std.specs.Simd.Lanes.{zip2}
use mir.Syntax.{w64, w128}
use Rattle.std.proofs.lemmas.List.{length-map}
use Rattle.std.proofs.lemmas.Int.{to_z-of_z}
use Rattle.bsi_columns.specs.AnyColumns.{any_entries}
use Rattle.bsi_digits.specs.Orders.{values_at}
use Rattle.bsi_slices.proofs.CallerLemmas.{count_numbers, length-values_at}
use Rattle.bsi_shift.specs.Shifted.{shifted_entries}
use Rattle.bsi_digits.specs.WholeNumbers.{signed_sum}
use Rattle.bsi_shift.proofs.Shifting.{length-shifted_entries, values_at-shifted_entries}
use Rattle.bsi_shift.proofs.Totals.{sum_from, sum_within}
use Rattle.bsi_shift.proofs.shifted.Shifted.sum.Goals as goal

pub sum-requires : goal.sum-requires
sum-requires c = ap (λ v. length (any_entries v.stored)) c.self.view_is ∙ sym (length-shifted_entries c.args.self.now) ∙ c.requires

pub count_and-count-requires : goal.count_and-count-requires
count_and-count-requires c =
    sym c.requires ∙ length-shifted_entries c.args.self.now ∙ sym (ap (λ v. length (any_entries v.stored)) c.self.view_is)
    ∙ sym (ap length c.not_null.ensures ∙ length-map (any_entries c.self.inside.stored) is_some)

pub sum_from-requires : goal.sum_from-requires
sum_from-requires c =
    let selection = c.args.selection.now.bits in
    let entries = any_entries c.self.inside.stored in
    let counted = c.count_and-count.ensures ∙ ap (λ not_null. count_by (λ b. b) (zip2 ◌&&◌ selection not_null)) c.not_null.ensures ∙ count_numbers selection entries in
    let as_many = ap (λ v. length (any_entries v.stored)) c.self.view_is ∙ sym (length-shifted_entries c.args.self.now) ∙ c.requires in
    (c.sum.ensures.within, omega (arith, counted, length-values_at selection entries, as_many, c.len.ensures.len, c.len.ensures.within))

pub returns-clause-sum : goal.returns-clause-sum
returns-clause-sum c =
    let inside = c.self.inside in
    let selection = c.args.selection.now.bits in
    let entries = any_entries inside.stored in
    let counted = c.count_and-count.ensures ∙ ap (λ not_null. count_by (λ b. b) (zip2 ◌&&◌ selection not_null)) c.not_null.ensures ∙ count_numbers selection entries in
    to_z-of_z w128 c.sum_from.result (search rules) ∙ c.sum_from.ensures
    ∙ ap₂ (λ total offset. pos total +ℤ offset *ℤ pos c.count_and-count.result) c.sum.ensures.sum (to_z-of_z w64 inside.offset (search rules))
    ∙ ap (λ n. pos (sum (values_at selection entries)) +ℤ inside.offset *ℤ pos n) counted
    ∙ sym (sum_from inside.offset (values_at selection entries))
    ∙ ap signed_sum (sym (values_at-shifted_entries _ selection)) ∙ ap (λ v. signed_sum (values_at selection (shifted_entries v))) c.self.view_is

pub returns-clause-within : goal.returns-clause-within
returns-clause-within c =
    let inside = c.self.inside in
    let selection = c.args.selection.now.bits in
    let entries = any_entries inside.stored in
    let as_many = ap (λ v. length (any_entries v.stored)) c.self.view_is ∙ sym (length-shifted_entries c.args.self.now) ∙ c.requires in
    let few : length (values_at selection entries) ≤ 2 ^ 32 = omega (arith, length-values_at selection entries, as_many, c.len.ensures.len, c.len.ensures.within) in
    let within = sum_within inside.offset inside.size selection entries (search rules) c.self.invariant.within c.self.invariant.below few in
    subst (λ total. (neg_ℤ (pos (2 ^ 95)) ≤ℤ total) × (total <ℤ pos (2 ^ 95)))
    (ap signed_sum (sym (values_at-shifted_entries _ selection)) ∙ ap (λ v. signed_sum (values_at selection (shifted_entries v))) c.self.view_is ∙ sym (returns-clause-sum c)) within
