use Rattle.std.proofs.Common.{◌≡◌, ◌+◌, ◌*◌, ◌%◌, ◌<◌, ◌≤◌, ◌^◌, ap, sym, map, length, subst, List, ℕ, All, ◌∙◌, arith}
use Rattle.std.specs.Prelude.{sum_by}
use Rattle.bsi_digits.specs.Digits.{weight, digit_of, product}
use Rattle.bsi_digits.proofs.CallerLemmas.{weight_pos, weight_le_size, weight_all}
use Rattle.bsi_digits.specs.Comparisons.{number_or_zero}
use Rattle.bsi_digits.specs.Orders.{values_at}
use Rattle.bsi_columns.proofs.Adding.{sum_small, sum_whole}
use Rattle.bsi_columns.proofs.DigitSums.{sum_none, sum_digits}
use Rattle.bsi_columns.proofs.decomposed.Decomposed.sum_selected.Given as given
use Rattle.bsi_columns.proofs.decomposed.Decomposed.sum_selected.Goals as goal

pub components-init : goal.components-init
components-init g c = sum_none c.bases-bases.result.now (values_at c.args.selection.now.bits c.args.self.now.entries)

-- the total with one component more
more : (g : given.Over) (c : goal.After-from g)
    → c.components.total + c.digit_sum.result * c.from.result
    ≡ sum_by (λ n. n % weight c.bases-bases.result.now (c.components.i + 1)) (values_at c.args.selection.now.bits c.args.self.now.entries)
more g c =
    let bs = c.bases-bases.result.now in
    let digits = c.component.ensures.digits ∙ ap (λ bs. map (λ e. digit_of bs (number_or_zero e) c.components.i) c.args.self.now.entries) (sym c.bases-bases.ensures.bases) in
    sum_digits bs c.len-i-end.ensures.valid c.components.i (omega arith) c.args.selection.now.bits c.args.self.now.entries
    (g.E.Encoding.digits c.component.result.now) c.components.total c.digit_sum.result c.from.result
    c.components.invariant digits c.digit_sum.ensures (c.from.ensures ∙ c.weight.ensures.weight)

bound : (g : given.Over) (c : goal.After-from g) → c.components.total + c.digit_sum.result * c.from.result < 2 ^ 95
bound g c =
    let bs = c.bases-bases.result.now in
    let valid = c.len-i-end.ensures.valid in
    let few : length c.args.self.now.entries ≤ 2 ^ 32 = omega (arith, c.len.ensures.len, c.len.ensures.within, c.requires) in
    let small : weight bs (c.components.i + 1) ≤ 2 ^ 63 = omega (arith, weight_le_size valid (c.components.i + 1), valid.small) in
    omega (arith, more g c, sum_small (weight bs (c.components.i + 1)) c.args.selection.now.bits c.args.self.now.entries (weight_pos valid (c.components.i + 1)) small few)

pub overflow_mul-total : goal.overflow_mul-total
overflow_mul-total g c = omega (arith, bound g c)

pub overflow_add-total : goal.overflow_add-total
overflow_add-total g c = omega (arith, bound g c)

pub components-preserved : goal.components-preserved
components-preserved g c = more g c

-- all components are added
pub returns-clause-sum : goal.returns-clause-sum
returns-clause-sum g c =
    let bs = c.bases-bases.result.now in
    let numbers = values_at c.args.selection.now.bits c.args.self.now.entries in
    let all : c.components.i ≡ length bs = omega (arith, c.len-i-end.ensures.len) in
    let IsBelow : List ℕ → Type 0 = λ bs. All (λ e. number_or_zero e < product bs) c.args.self.now.entries in
    let below = subst IsBelow (sym c.bases-bases.ensures.bases) c.bases-bases.ensures.below in
    c.components.invariant ∙ ap (λ i. sum_by (λ n. n % weight bs i) numbers) all ∙ ap (λ w. sum_by (λ n. n % w) numbers) (weight_all bs)
    ∙ sum_whole (product bs) c.args.selection.now.bits c.args.self.now.entries below

pub returns-clause-within : goal.returns-clause-within
returns-clause-within g c =
    let bs = c.bases-bases.result.now in
    let valid = c.len-i-end.ensures.valid in
    let few : length c.args.self.now.entries ≤ 2 ^ 32 = omega (arith, c.len.ensures.len, c.len.ensures.within, c.requires) in
    let small : weight bs c.components.i ≤ 2 ^ 63 = omega (arith, weight_le_size valid c.components.i, valid.small) in
    omega (arith, c.components.invariant, sum_small (weight bs c.components.i) c.args.selection.now.bits c.args.self.now.entries (weight_pos valid c.components.i) small few)
