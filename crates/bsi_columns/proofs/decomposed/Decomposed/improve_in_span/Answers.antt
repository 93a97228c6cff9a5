use Rattle.std.proofs.Common.{◌≡◌, ℕ, ◌+◌, ◌-◌, ◌*◌, ◌/◌, ◌%◌, ◌<◌, ◌≤◌, Bool, true, false, List, length, get_or, map, All, ap, ap₂, sym, ◌∙◌, subst, arith}
use Rattle.std.proofs.lemmas.Nat.{mul-le}
use Rattle.bsi_bits.specs.Packed.{bit_of}
use Rattle.bsi_digits.specs.Digits.{weight, product, digit_of}
use Rattle.bsi_digits.proofs.CallerLemmas.{weight_all, weight_more, weight_pos}
use Rattle.bsi_digits.specs.Comparisons.{number_or_zero}
use Rattle.bsi_columns.specs.Extremes.{is_no_worse, best_is_no_worse, improves, number_at}
use Rattle.bsi_columns.specs.SpanExtremes.{IsPastBound, IsNarrowedTo}
use Rattle.std.proofs.lemmas.List.{length-map}
use Rattle.std.specs.Prelude.{is_some}
use Rattle.bsi_bits.specs.BitList.{word_count}
use Rattle.bsi_columns.proofs.Ranking.{next_small}
use Rattle.bsi_columns.proofs.ExtremeRows.{number_small}
use Rattle.bsi_columns.proofs.ExtremeSpans.{IsNearest, nearest_start, nearest_extreme}
use Rattle.bsi_columns.proofs.ExtremeDigits.{past_leads, row_digit, both_first, narrowed_marked, digit_low, component_step, not_null_row, not_both}
use Rattle.bsi_columns.proofs.decomposed.Decomposed.improve_in_span.Goals as goal

-- a number with room for its digits has room for a digit more
room : (number w base size : ℕ) → 1 ≤ w → number * (w * base) + w * base ≤ size → number * base + base ≤ size
room number w base size some small = omega (arith, mul-le (number * base + base) 1 (number * base + base) w (omega arith) some, small)

pub components-init : goal.components-init
components-init g c =
    let bs = c.bases-bases.result.now in
    let entries = c.args.self.now.entries in
    let size : ℕ = product bs in
    let numbers : ℕ → ℕ = λ p. number_at entries (64 * c.args.at + p) in
    let marked : ℕ → Bool = bit_of c.args.span.now in
    let row = c.intersects.ensures.some c.if-not-intersects.false in
    let whole : weight bs c.len-i.result ≡ size = ap (weight bs) c.len-i.ensures.len ∙ weight_all bs in
    let positive : 0 < size = omega (arith, weight_pos c.len-i.ensures.valid c.len-i.result, whole) in
    let IsBelow : List ℕ → Type 0 = λ bs. All (λ e. number_or_zero e < product bs) entries in
    let below = subst IsBelow (sym c.bases-bases.ensures.bases) c.bases-bases.ensures.below in
    let AtWeight : ℕ → Type 0 = λ w. IsNearest c.args.extreme marked numbers (64 * length c.args.span.now) w 0 marked in
    record {
      nearest = subst AtWeight (sym whole) (nearest_start c.args.extreme marked numbers (64 * length c.args.span.now) size
          (row.0, row.1, both_first (marked row.0) (get_or c.not_null-not_null.result.now.bits (64 * c.args.at + row.0) false) row.2)
          (λ p. number_small entries size positive below (64 * c.args.at + p)));
      small = omega (arith, whole);
      better = λ none. absurd {A = improves c.args.extreme 0 c.args.best} (omega (arith, none, c.len-i.ensures.within));
    }

pub overflow_mul-above : goal.overflow_mul-above
overflow_mul-above g c =
    let bs = c.bases-bases.result.now in
    let entries = c.args.self.now.entries in
    let j : ℕ = c.components.i - 1 in
    let inside : j < length bs = omega (arith, c.components.auto.i, c.len-i.ensures.len, c.components-test.true) in
    let w : ℕ = weight bs j in
    let base : ℕ = get_or bs j 0 in
    let positive : 0 < w = omega (arith, weight_pos c.len-i.ensures.valid j) in
    let some : 0 < base = omega (arith, c.base-base.ensures.base, c.base-base.ensures.within) in
    let up : c.components.i ≡ j + 1 = omega (arith, c.components-test.true) in
    let more : weight bs c.components.i ≡ w * base = ap (weight bs) up ∙ weight_more bs j inside in
    let Small : ℕ → Type 0 = λ v. c.components.number * v + v ≤ product bs in
    let before : c.components.number * (w * base) + w * base ≤ product bs = subst Small more c.components.invariant.small in
    let fits = room c.components.number w base (product bs) positive before in
    let made : c.components.number * c.from.result ≡ c.components.number * base = ap (λ b. c.components.number * b) (c.from.ensures ∙ c.base-base.ensures.base) in
    omega (arith, fits, made, c.len-i.ensures.valid.small)

-- the rows that are left are no nulls
pub and_extreme-requires-clause-rows : goal.and_extreme-requires-clause-rows
and_extreme-requires-clause-rows g c = λ p below there.
    let even : length c.components.span ≡ length c.args.span.now = c.components.auto.span in
    let within : p < 64 * length c.args.span.now = omega (arith, below, even) in
    let entries = c.args.self.now.entries in
    let marked = narrowed_marked c.args.extreme (bit_of c.args.span.now) (λ p. number_at entries (64 * c.args.at + p)) (64 * length c.args.span.now) (weight c.bases-bases.result.now c.components.i) c.components.number
    (bit_of c.components.span) c.components.invariant.nearest p within there in
    ap (λ bits. get_or bits (64 * c.args.at + p) false) c.not_null-not_null.ensures ∙ not_null_row entries (64 * c.args.at + p) (c.requires.rows p within marked)

-- each row has a digit past the bound
pub returns-in_err-digit : goal.returns-in_err-digit
returns-in_err-digit g c = rw c.from_residual.ensures (λ p within there.
    let bs = c.bases-bases.result.now in
    let entries = c.args.self.now.entries in
    let j : ℕ = c.components.i - 1 in
    let inside : j < length bs = omega (arith, c.components.auto.i, c.len-i.ensures.len, c.components-test.true) in
    let w : ℕ = weight bs j in
    let base : ℕ = get_or bs j 0 in
    let positive : 0 < w = omega (arith, weight_pos c.len-i.ensures.valid j) in
    let some : 0 < base = omega (arith, c.base-base.ensures.base, c.base-base.ensures.within) in
    let up : c.components.i ≡ j + 1 = omega (arith, c.components-test.true) in
    let more : weight bs c.components.i ≡ w * base = ap (weight bs) up ∙ weight_more bs j inside in
    let numbers : ℕ → ℕ = λ p. number_at entries (64 * c.args.at + p) in
    let marked : ℕ → Bool = bit_of c.args.span.now in
    let narrowed : ℕ → Bool = bit_of c.components.span in
    let n : ℕ = 64 * length c.components.span in
    let even : length c.components.span ≡ length c.args.span.now = c.components.auto.span in
    let AtLength : ℕ → Type 0 = λ m. IsNearest c.args.extreme marked numbers (64 * m) (weight bs c.components.i) c.components.number narrowed in
    let state : IsNearest c.args.extreme marked numbers n (weight bs c.components.i) c.components.number narrowed = subst AtLength (sym even) c.components.invariant.nearest in
    let digit : ℕ → ℕ = λ p. get_or (g.E.Encoding.digits c.component.result.now) (64 * c.args.at + p) 0 in
    let digits_are = c.component.ensures.digits ∙ ap (λ bs. map (λ e. digit_of bs (number_or_zero e) j) entries) (sym c.bases-bases.ensures.bases) in
    let digits : (p : ℕ) → digit p ≡ numbers p / w % base = λ p. ap (λ ds. get_or ds (64 * c.args.at + p) 0) digits_are ∙ row_digit entries w base (64 * c.args.at + p) positive some in
    let bound : ℕ = c.bound_of-bound.result in
    let past : (p : ℕ) → p < n → narrowed p ≡ true → IsPastBound c.args.extreme bound (digit p) = c.in_err-digit.ensures.digit in
    let leading : (d x : ℕ) → d < base → IsPastBound c.args.extreme bound d → is_no_worse c.args.extreme (c.components.number * base + d) (x / w) → best_is_no_worse c.args.extreme c.args.best x =
    rw (c.from.ensures, c.base-base.ensures.base, c.weight-weight.ensures.weight) at c.bound_of-bound.ensures.past in
    past_leads c.args.extreme c.args.best marked numbers n w base (weight bs c.components.i) c.components.number bound narrowed positive some more state
    (λ p below on. rw (digits p) at (past p below on)) leading p (omega (arith, within, even)) there)

pub overflow_add-number : goal.overflow_add-number
overflow_add-number g c =
    let bs = c.bases-bases.result.now in
    let entries = c.args.self.now.entries in
    let j : ℕ = c.components.i - 1 in
    let inside : j < length bs = omega (arith, c.components.auto.i, c.len-i.ensures.len, c.components-test.true) in
    let w : ℕ = weight bs j in
    let base : ℕ = get_or bs j 0 in
    let positive : 0 < w = omega (arith, weight_pos c.len-i.ensures.valid j) in
    let some : 0 < base = omega (arith, c.base-base.ensures.base, c.base-base.ensures.within) in
    let up : c.components.i ≡ j + 1 = omega (arith, c.components-test.true) in
    let more : weight bs c.components.i ≡ w * base = ap (weight bs) up ∙ weight_more bs j inside in
    let numbers : ℕ → ℕ = λ p. number_at entries (64 * c.args.at + p) in
    let marked : ℕ → Bool = bit_of c.args.span.now in
    let narrowed : ℕ → Bool = bit_of c.components.span in
    let n : ℕ = 64 * length c.components.span in
    let even : length c.components.span ≡ length c.args.span.now = c.components.auto.span in
    let AtLength : ℕ → Type 0 = λ m. IsNearest c.args.extreme marked numbers (64 * m) (weight bs c.components.i) c.components.number narrowed in
    let state : IsNearest c.args.extreme marked numbers n (weight bs c.components.i) c.components.number narrowed = subst AtLength (sym even) c.components.invariant.nearest in
    let digit : ℕ → ℕ = λ p. get_or (g.E.Encoding.digits c.component.result.now) (64 * c.args.at + p) 0 in
    let digits_are = c.component.ensures.digits ∙ ap (λ bs. map (λ e. digit_of bs (number_or_zero e) j) entries) (sym c.bases-bases.ensures.bases) in
    let digits : (p : ℕ) → digit p ≡ numbers p / w % base = λ p. ap (λ ds. get_or ds (64 * c.args.at + p) 0) digits_are ∙ row_digit entries w base (64 * c.args.at + p) positive some in
    let d : ℕ = c.in_ok-digit.digit in
    let step : IsNarrowedTo c.args.extreme narrowed (bit_of c.and_extreme.new.span) digit n d = c.in_ok-digit.ensures.digit in
    let low : d < base = digit_low c.args.extreme marked numbers n w base (weight bs c.components.i) c.components.number d narrowed (bit_of c.and_extreme.new.span) digit positive some more digits step in
    let added : c.components.number * c.from.result + c.from-in-components.result ≡ c.components.number * base + d =
    ap₂ (λ b v. c.components.number * b + v) (c.from.ensures ∙ c.base-base.ensures.base) c.from-in-components.ensures in
    let Small : ℕ → Type 0 = λ v. c.components.number * v + v ≤ product bs in
    let before : c.components.number * (w * base) + w * base ≤ product bs = subst Small more c.components.invariant.small in
    let fits = room c.components.number w base (product bs) positive before in
    omega (arith, fits, low, added, c.len-i.ensures.valid.small)

pub cannot_improve-requires-clause-small : goal.cannot_improve-requires-clause-small
cannot_improve-requires-clause-small g c =
    let bs = c.bases-bases.result.now in
    let entries = c.args.self.now.entries in
    let j : ℕ = c.components.i - 1 in
    let inside : j < length bs = omega (arith, c.components.auto.i, c.len-i.ensures.len, c.components-test.true) in
    let w : ℕ = weight bs j in
    let base : ℕ = get_or bs j 0 in
    let positive : 0 < w = omega (arith, weight_pos c.len-i.ensures.valid j) in
    let some : 0 < base = omega (arith, c.base-base.ensures.base, c.base-base.ensures.within) in
    let up : c.components.i ≡ j + 1 = omega (arith, c.components-test.true) in
    let more : weight bs c.components.i ≡ w * base = ap (weight bs) up ∙ weight_more bs j inside in
    let numbers : ℕ → ℕ = λ p. number_at entries (64 * c.args.at + p) in
    let marked : ℕ → Bool = bit_of c.args.span.now in
    let narrowed : ℕ → Bool = bit_of c.components.span in
    let n : ℕ = 64 * length c.components.span in
    let even : length c.components.span ≡ length c.args.span.now = c.components.auto.span in
    let AtLength : ℕ → Type 0 = λ m. IsNearest c.args.extreme marked numbers (64 * m) (weight bs c.components.i) c.components.number narrowed in
    let state : IsNearest c.args.extreme marked numbers n (weight bs c.components.i) c.components.number narrowed = subst AtLength (sym even) c.components.invariant.nearest in
    let digit : ℕ → ℕ = λ p. get_or (g.E.Encoding.digits c.component.result.now) (64 * c.args.at + p) 0 in
    let digits_are = c.component.ensures.digits ∙ ap (λ bs. map (λ e. digit_of bs (number_or_zero e) j) entries) (sym c.bases-bases.ensures.bases) in
    let digits : (p : ℕ) → digit p ≡ numbers p / w % base = λ p. ap (λ ds. get_or ds (64 * c.args.at + p) 0) digits_are ∙ row_digit entries w base (64 * c.args.at + p) positive some in
    let d : ℕ = c.in_ok-digit.digit in
    let step : IsNarrowedTo c.args.extreme narrowed (bit_of c.and_extreme.new.span) digit n d = c.in_ok-digit.ensures.digit in
    let low : d < base = digit_low c.args.extreme marked numbers n w base (weight bs c.components.i) c.components.number d narrowed (bit_of c.and_extreme.new.span) digit positive some more digits step in
    let added : c.components.number * c.from.result + c.from-in-components.result ≡ c.components.number * base + d =
    ap₂ (λ b v. c.components.number * b + v) (c.from.ensures ∙ c.base-base.ensures.base) c.from-in-components.ensures in
    let Small : ℕ → Type 0 = λ v. c.components.number * v + v ≤ product bs in
    let before : c.components.number * (w * base) + w * base ≤ product bs = subst Small more c.components.invariant.small in
    let fits : (c.components.number * base + d) * w + w ≤ product bs = next_small c.components.number w base d (product bs) low before in
    rw (added, c.weight-weight.ensures.weight) (omega (arith, fits, c.len-i.ensures.valid.small))

-- the best number so far leads those that begin so
pub returns-then-cannot_improve : goal.returns-then-cannot_improve
returns-then-cannot_improve g c = λ p within there.
    let bs = c.bases-bases.result.now in
    let entries = c.args.self.now.entries in
    let j : ℕ = c.components.i - 1 in
    let inside : j < length bs = omega (arith, c.components.auto.i, c.len-i.ensures.len, c.components-test.true) in
    let w : ℕ = weight bs j in
    let base : ℕ = get_or bs j 0 in
    let positive : 0 < w = omega (arith, weight_pos c.len-i.ensures.valid j) in
    let some : 0 < base = omega (arith, c.base-base.ensures.base, c.base-base.ensures.within) in
    let up : c.components.i ≡ j + 1 = omega (arith, c.components-test.true) in
    let more : weight bs c.components.i ≡ w * base = ap (weight bs) up ∙ weight_more bs j inside in
    let numbers : ℕ → ℕ = λ p. number_at entries (64 * c.args.at + p) in
    let marked : ℕ → Bool = bit_of c.args.span.now in
    let narrowed : ℕ → Bool = bit_of c.components.span in
    let n : ℕ = 64 * length c.components.span in
    let even : length c.components.span ≡ length c.args.span.now = c.components.auto.span in
    let AtLength : ℕ → Type 0 = λ m. IsNearest c.args.extreme marked numbers (64 * m) (weight bs c.components.i) c.components.number narrowed in
    let state : IsNearest c.args.extreme marked numbers n (weight bs c.components.i) c.components.number narrowed = subst AtLength (sym even) c.components.invariant.nearest in
    let digit : ℕ → ℕ = λ p. get_or (g.E.Encoding.digits c.component.result.now) (64 * c.args.at + p) 0 in
    let digits_are = c.component.ensures.digits ∙ ap (λ bs. map (λ e. digit_of bs (number_or_zero e) j) entries) (sym c.bases-bases.ensures.bases) in
    let digits : (p : ℕ) → digit p ≡ numbers p / w % base = λ p. ap (λ ds. get_or ds (64 * c.args.at + p) 0) digits_are ∙ row_digit entries w base (64 * c.args.at + p) positive some in
    let d : ℕ = c.in_ok-digit.digit in
    let step : IsNarrowedTo c.args.extreme narrowed (bit_of c.and_extreme.new.span) digit n d = c.in_ok-digit.ensures.digit in
    let low : d < base = digit_low c.args.extreme marked numbers n w base (weight bs c.components.i) c.components.number d narrowed (bit_of c.and_extreme.new.span) digit positive some more digits step in
    let added : c.components.number * c.from.result + c.from-in-components.result ≡ c.components.number * base + d =
    ap₂ (λ b v. c.components.number * b + v) (c.from.ensures ∙ c.base-base.ensures.base) c.from-in-components.ensures in
    let lower : IsNearest c.args.extreme marked numbers n w (c.components.number * base + d) (bit_of c.and_extreme.new.span) =
    component_step c.args.extreme marked numbers n w base (weight bs c.components.i) c.components.number d narrowed (bit_of c.and_extreme.new.span) digit positive some more digits step state in
    let first = lower.first p (omega (arith, within, even)) there in
    let First : ℕ → ℕ → Type 0 = λ number v. is_no_worse c.args.extreme number (numbers p / v) in
    let begins : First (c.components.number * c.from.result + c.from-in-components.result) c.weight-weight.result = rw (added, c.weight-weight.ensures.weight) first in
    c.cannot_improve.ensures.no_worse c.if-cannot_improve.true (numbers p) begins

pub components-preserved : goal.components-preserved
components-preserved g c =
    let bs = c.bases-bases.result.now in
    let entries = c.args.self.now.entries in
    let j : ℕ = c.components.i - 1 in
    let inside : j < length bs = omega (arith, c.components.auto.i, c.len-i.ensures.len, c.components-test.true) in
    let w : ℕ = weight bs j in
    let base : ℕ = get_or bs j 0 in
    let positive : 0 < w = omega (arith, weight_pos c.len-i.ensures.valid j) in
    let some : 0 < base = omega (arith, c.base-base.ensures.base, c.base-base.ensures.within) in
    let up : c.components.i ≡ j + 1 = omega (arith, c.components-test.true) in
    let more : weight bs c.components.i ≡ w * base = ap (weight bs) up ∙ weight_more bs j inside in
    let numbers : ℕ → ℕ = λ p. number_at entries (64 * c.args.at + p) in
    let marked : ℕ → Bool = bit_of c.args.span.now in
    let narrowed : ℕ → Bool = bit_of c.components.span in
    let n : ℕ = 64 * length c.components.span in
    let even : length c.components.span ≡ length c.args.span.now = c.components.auto.span in
    let AtLength : ℕ → Type 0 = λ m. IsNearest c.args.extreme marked numbers (64 * m) (weight bs c.components.i) c.components.number narrowed in
    let state : IsNearest c.args.extreme marked numbers n (weight bs c.components.i) c.components.number narrowed = subst AtLength (sym even) c.components.invariant.nearest in
    let digit : ℕ → ℕ = λ p. get_or (g.E.Encoding.digits c.component.result.now) (64 * c.args.at + p) 0 in
    let digits_are = c.component.ensures.digits ∙ ap (λ bs. map (λ e. digit_of bs (number_or_zero e) j) entries) (sym c.bases-bases.ensures.bases) in
    let digits : (p : ℕ) → digit p ≡ numbers p / w % base = λ p. ap (λ ds. get_or ds (64 * c.args.at + p) 0) digits_are ∙ row_digit entries w base (64 * c.args.at + p) positive some in
    let d : ℕ = c.in_ok-digit.digit in
    let step : IsNarrowedTo c.args.extreme narrowed (bit_of c.and_extreme.new.span) digit n d = c.in_ok-digit.ensures.digit in
    let low : d < base = digit_low c.args.extreme marked numbers n w base (weight bs c.components.i) c.components.number d narrowed (bit_of c.and_extreme.new.span) digit positive some more digits step in
    let added : c.components.number * c.from.result + c.from-in-components.result ≡ c.components.number * base + d =
    ap₂ (λ b v. c.components.number * b + v) (c.from.ensures ∙ c.base-base.ensures.base) c.from-in-components.ensures in
    let lower : IsNearest c.args.extreme marked numbers n w (c.components.number * base + d) (bit_of c.and_extreme.new.span) =
    component_step c.args.extreme marked numbers n w base (weight bs c.components.i) c.components.number d narrowed (bit_of c.and_extreme.new.span) digit positive some more digits step state in
    let Small : ℕ → Type 0 = λ v. c.components.number * v + v ≤ product bs in
    let before : c.components.number * (w * base) + w * base ≤ product bs = subst Small more c.components.invariant.small in
    let fits : (c.components.number * base + d) * w + w ≤ product bs = next_small c.components.number w base d (product bs) low before in
    let AtRows : ℕ → ℕ → Type 0 = λ m number. IsNearest c.args.extreme marked numbers (64 * m) w number (bit_of c.and_extreme.new.span) in
    let AtNumber : ℕ → Type 0 = λ number. AtRows (length c.args.span.now) number in
    let AtLast : ℕ → Type 0 = λ m. AtRows m (c.components.number * base + d) in
    record {
      nearest = subst AtNumber (sym added) (subst AtLast even lower);
      small = rw added fits;
      better = λ none. c.cannot_improve.ensures.improves c.if-cannot_improve.false (c.weight-weight.ensures.weight ∙ ap (weight bs) none);
    }

-- no component is left
pub returns : goal.returns
returns g c =
    let none : c.components.i ≡ 0 = omega (arith, c.components-test.false) in (
      nearest_extreme c.args.extreme (bit_of c.args.span.now) (λ p. number_at c.args.self.now.entries (64 * c.args.at + p)) (64 * length c.args.span.now) (weight c.bases-bases.result.now c.components.i) c.components.number
          (bit_of c.components.span) (ap (weight c.bases-bases.result.now) none) c.components.invariant.nearest,
      c.components.invariant.better none,
    )

pub intersects-requires : goal.intersects-requires
intersects-requires g c =
    let entries = c.args.self.now.entries in
    let rows : length c.not_null-not_null.result.now.bits ≡ length entries = ap length c.not_null-not_null.ensures ∙ length-map entries is_some in
    let Within : ℕ → Type 0 = λ n. c.args.at + length c.args.span.now ≤ word_count n in
    subst Within (sym rows) c.requires.within

-- no row is left, since each that was set has a number
pub returns-then-not-intersects : goal.returns-then-not-intersects
returns-then-not-intersects g c = λ p within there.
    let entries = c.args.self.now.entries in
    let row : ℕ = 64 * c.args.at + p in
    let not_null = ap (λ bits. get_or bits row false) c.not_null-not_null.ensures ∙ not_null_row entries row (c.requires.rows p within there) in
    absurd (not_both (bit_of c.args.span.now p) (get_or c.not_null-not_null.result.now.bits row false) (c.intersects.ensures.none c.if-not-intersects.true p within) there not_null)

pub and_extreme-requires-clause-within : goal.and_extreme-requires-clause-within
and_extreme-requires-clause-within g c =
    let entries = c.args.self.now.entries in
    let rows : length (g.E.Encoding.digits c.component.result.now) ≡ length entries = ap length c.component.ensures.digits ∙ length-map entries _ in
    let Within : ℕ → ℕ → Type 0 = λ n m. c.args.at + n ≤ word_count m in
    let AtLength : ℕ → Type 0 = λ n. Within n (length entries) in
    let AtRows : ℕ → Type 0 = λ m. Within (length c.components.span) m in
    subst AtRows (sym rows) (subst AtLength (sym c.components.auto.span) c.requires.within)

pub and_extreme-requires-clause-same : goal.and_extreme-requires-clause-same
and_extreme-requires-clause-same g c =
    let entries = c.args.self.now.entries in
    ap length c.not_null-not_null.ensures ∙ length-map entries is_some ∙ sym (length-map entries _) ∙ sym (ap length c.component.ensures.digits)
