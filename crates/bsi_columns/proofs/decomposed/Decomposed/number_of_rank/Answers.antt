use Rattle.std.proofs.Common.{◌≡◌, ℕ, ◌+◌, ◌-◌, ◌*◌, ◌<◌, ◌^◌, All, List, length, get_or, map, ap, ap₂, sym, subst, ◌∙◌, arith}
use Rattle.std.specs.Prelude.{is_some, nat_eq, ◌&&◌}
use Rattle.std.specs.Simd.Lanes.{zip2}
use Rattle.std.proofs.lemmas.Simd.{length-zip2}
use Rattle.std.proofs.lemmas.List.{length-map}
use Rattle.bsi_digits.specs.Digits.{weight, product, digit_of}
use Rattle.bsi_digits.proofs.CallerLemmas.{weight_pos}
use Rattle.bsi_digits.specs.Comparisons.{number_or_zero}
use Rattle.bsi_columns.proofs.Ranking.{narrowed_extreme}
use Rattle.bsi_columns.proofs.Rungs.{IsRung, rung_start, rung_step, fits_size}
use Rattle.bsi_columns.proofs.decomposed.Decomposed.number_of_rank.Given as given
use Rattle.bsi_columns.proofs.decomposed.Decomposed.number_of_rank.Goals as goal
use Rattle.bsi_columns.proofs.decomposed.Decomposed.number_of_rank.Goals.{After-from}

pub components-init : goal.components-init
components-init g c =
    let bs = c.bases-bases.result.now in
    let entries = c.args.self.now.entries in
    let selection = c.args.selection.now.bits in
    let IsBelow : List ℕ → Type 0 = λ bs. All (λ e. number_or_zero e < product bs) entries in
    let below = subst IsBelow (sym c.bases-bases.ensures.bases) c.bases-bases.ensures.below in
    let chosen : c.and_with.new.self.bits ≡ zip2 ◌&&◌ selection (map is_some entries) = c.and_with.ensures.bits ∙ ap₂ (zip2 ◌&&◌) c.in_ok-chosen.ensures c.not_null.ensures in
    let start = rung_start bs c.len-i.ensures.valid selection entries c.args.rank c.and_with.new.self.bits below chosen c.requires.there in
    let AtHeight : ℕ → Type 0 = λ i. IsRung bs selection entries c.args.rank i 0 c.args.rank c.and_with.new.self.bits in
    record {
      rung = subst AtHeight (sym c.len-i.ensures.len) start;
      chosen_even = ap length chosen ∙ length-zip2 ◌&&◌ selection (map is_some entries) (sym (length-map entries is_some ∙ c.requires.same));
    }

-- one component down
next : (g : given.Over) (c : goal.After-from g)
    → IsRung c.bases-bases.result.now c.args.selection.now.bits c.args.self.now.entries c.args.rank (c.components.i - 1)
    (c.components.number * c.from.result + c.in_ok-ranked.ranked.number) c.in_ok-ranked.ranked.rank c.in_ok-ranked.ranked.rows.bits
next g c =
    let bs = c.bases-bases.result.now in
    let entries = c.args.self.now.entries in
    let selection = c.args.selection.now.bits in
    let j = c.components.i - 1 in
    let same = sym c.bases-bases.ensures.bases in
    let within : j < length bs = omega (arith, c.components.invariant.rung.within, c.components-test.true) in
    let digits = c.component.ensures.digits ∙ ap (λ bs. map (λ e. digit_of bs (number_or_zero e) j) entries) same in
    let base = c.component.ensures.base ∙ ap (λ bs. get_or bs j 0) same in
    let above : c.components.i ≡ j + 1 = omega (arith, c.components-test.true) in
    let AtHeight : ℕ → Type 0 = λ i. IsRung bs selection entries c.args.rank i c.components.number c.components.left c.components.chosen.bits in
    let AtNumber : ℕ → Type 0 = λ b. IsRung bs selection entries c.args.rank j (c.components.number * b + c.in_ok-ranked.ranked.number) c.in_ok-ranked.ranked.rank c.in_ok-ranked.ranked.rows.bits in
    subst AtNumber (sym (c.from.ensures ∙ c.base.ensures.base)) (
    rung_step bs c.len-i.ensures.valid selection entries c.args.rank j within c.components.number c.components.left c.in_ok-ranked.ranked.number c.in_ok-ranked.ranked.rank
    c.components.chosen.bits c.in_ok-ranked.ranked.rows.bits (g.E.Encoding.digits c.component.result.now) (subst AtHeight above c.components.invariant.rung) digits
    (omega (arith, base, c.in_ok-ranked.ensures.digit)) c.in_ok-ranked.ensures.ranked.rows_are c.in_ok-ranked.ensures.ranked.rank_is c.in_ok-ranked.ensures.ranked.there)

small : (g : given.Over) (c : goal.After-from g) → c.components.number * c.from.result + c.in_ok-ranked.ranked.number < 2 ^ 63
small g c =
    let bs = c.bases-bases.result.now in
    let valid = c.len-i.ensures.valid in
    let rung = next g c in
    let below = fits_size (c.components.number * c.from.result + c.in_ok-ranked.ranked.number) (weight bs (c.components.i - 1)) (product bs) (weight_pos valid (c.components.i - 1)) rung.small in
    omega (arith, below, valid.small)

pub overflow_mul-number : goal.overflow_mul-number
overflow_mul-number g c = omega (arith, small g c)

pub overflow_add-number : goal.overflow_add-number
overflow_add-number g c = omega (arith, small g (goal.at.overflow_add-number g c).After-from)

pub components-preserved : goal.components-preserved
components-preserved g c =
    let long = ap length (c.component.ensures.digits) ∙ length-map c.args.self.now.entries (λ e. digit_of c.args.self.now.bases (number_or_zero e) (c.components.i - 1)) ∙ c.requires.same in
    let even = ap length c.in_ok-ranked.ensures.ranked.rows_are
    ∙ length-zip2 (λ f v. f && nat_eq v c.in_ok-ranked.ranked.number) c.components.chosen.bits (g.E.Encoding.digits c.component.result.now) (c.components.invariant.chosen_even ∙ sym long)
    ∙ c.components.invariant.chosen_even in
    record {
      rung = next g (goal.at.components-preserved g c).After-from;
      chosen_even = even;
    }

-- no component is left
pub returns : goal.returns
returns g c =
    let none : c.components.i ≡ 0 = omega (arith, c.components-test.false) in
    let AtHeight : ℕ → Type 0 = λ i. IsRung c.bases-bases.result.now c.args.selection.now.bits c.args.self.now.entries c.args.rank i c.components.number c.components.left c.components.chosen.bits in
    let rung = subst AtHeight none c.components.invariant.rung in
    narrowed_extreme c.args.selection.now.bits c.args.self.now.entries c.args.rank c.components.number c.components.left c.components.chosen.bits rung.narrowed

pub and_with-requires : goal.and_with-requires
and_with-requires g c = ap length c.in_ok-chosen.ensures ∙ sym c.requires.same ∙ sym (ap length c.not_null.ensures ∙ length-map c.args.self.now.entries is_some)

pub rows_of_rank-requires-clause-same : goal.rows_of_rank-requires-clause-same
rows_of_rank-requires-clause-same g c = ap length c.component.ensures.digits ∙ length-map c.args.self.now.entries _ ∙ c.requires.same ∙ sym c.components.invariant.chosen_even
