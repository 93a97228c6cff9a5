-- Where a moment lies among the numbers of a column.
use Rattle.std.proofs.Common.{◌≡◌, ℕ, suc, ◌+◌, ◌-◌, ◌*◌, ◌%◌, ◌^◌, ◌<◌, ◌≤◌, inl, inr, min, Bool, true, false, ◌==◌, Option, Some, None, MatchOption, option_map, ℤ, pos, negsuc, neg_ℤ, ◌+ℤ◌, ◌*ℤ◌, ◌<ℤ◌, FitsSigned, w64, ◌∙◌, ap, arith, sym, refl, subst, eq-eqb, if◌then◌else◌}
use Rattle.std.proofs.Math.IntN.{negsuc-*ℤ-pos, pos-*ℤ-pos}
use Rattle.std.proofs.Math.Nat.{mul_assoc, mul_comm, pow-le-pow_right}
use Rattle.std.proofs.lemmas.Bool.{cases_eq, eqb-false, eqb-true, ne_eqb}
use Rattle.std.proofs.lemmas.Int.{by_lt_z, ints}
use Rattle.std.proofs.lemmas.Nat.{div-add-mod', mod_below}
use Rattle.std.specs.Int.{int_div_euclid}
use Rattle.jiff_core.proofs.SignedLemmas.{signed_arith}
use Rattle.bsi_digits.specs.Orders.{compares_by}
use Rattle.bsi_digits.specs.WholeNumbers.{signed_order}
use Rattle.bsi_digits.specs.declared.op.Op.{Op}
use Rattle.bsi_kinds.specs.Comparisons.{brought_down, past_numbers, ComparesAs}
use Rattle.bsi_kinds.specs.Decimals.{decimal_at, decimal_order, is_exact, most_scanned, units_of, Represents}
use Rattle.bsi_kinds.specs.Clocks.{moment_value, scanned_time, Moment}
use Rattle.bsi_kinds.specs.Times.{day_of, first_at, unit_places, units_at, IsTimeNumber}
use Rattle.bsi_kinds.specs.declared.comparison.Comparison.{Comparison}
use Rattle.bsi_kinds.specs.declared.clock.ScannedTime.{ScannedTime}
use Rattle.bsi_kinds.specs.declared.time.TimeUnit.{TimeUnit}
use Rattle.bsi_kinds.specs.declared.time.TimeUnit.TheVariants.{Seconds, Milliseconds, Microseconds}
use Rattle.bsi_kinds.proofs.Comparing.{at_least, exact_agrees, inexact_agrees, less_than, more_than, times_add, AgreesAt}
use Rattle.bsi_kinds.proofs.Cutting.{by_units, neg_times}
use Rattle.bsi_kinds.proofs.Scaling.{ten_some}

-- a unit has few places
pub few_places : (unit : TimeUnit) → unit_places unit ≤ 6
few_places Seconds = omega arith
few_places Milliseconds = omega arith
few_places Microseconds = omega arith

-- the day of units is that of the second that they follow
pub same_day : (unit : TimeUnit) (s : ℤ) (u : ℕ) → u < 10 ^ unit_places unit
    → day_of unit (s *ℤ pos (10 ^ unit_places unit) +ℤ pos u) ≡ int_div_euclid s (pos 86400)
same_day Seconds s u low = omega (arith, signed_arith)
same_day Milliseconds s u low = omega (arith, signed_arith)
same_day Microseconds s u low = omega (arith, signed_arith)

-- 64 bits hold the numbers of the calendar
pub number_fits : (unit : TimeUnit) (n : ℤ) → IsTimeNumber unit n → FitsSigned w64 n
number_fits Seconds n within = omega (arith, signed_arith)
number_fits Milliseconds n within = omega (arith, signed_arith)
number_fits Microseconds n within = omega (arith, signed_arith)

-- products with two numbers, one after the other
times_twice : (s : ℤ) (b a : ℕ) → (s *ℤ pos b) *ℤ pos a ≡ s *ℤ pos (b * a)
times_twice (pos n) b a =
    ap (λ z. z *ℤ pos a) (pos-*ℤ-pos n b) ∙ pos-*ℤ-pos (n * b) a ∙ ap pos (mul_assoc n b a) ∙ sym (pos-*ℤ-pos n (b * a))
times_twice (negsuc n) b a =
    ap (λ z. z *ℤ pos a) (negsuc-*ℤ-pos n b) ∙ neg_times (suc n * b) a
    ∙ ap (λ k. neg_ℤ (pos k)) (mul_assoc (suc n) b a) ∙ sym (negsuc-*ℤ-pos n (b * a))

pub swapped : (s : ℤ) (b a : ℕ) → (s *ℤ pos b) *ℤ pos a ≡ (s *ℤ pos a) *ℤ pos b
swapped s b a = times_twice s b a ∙ ap (λ k. s *ℤ pos k) (mul_comm b a) ∙ sym (times_twice s a b)

-- seconds s and a part f / b of one, times a; u whole units of the part, of which a second has a, and a rest
module _ (s : ℤ) (f a b u r : ℕ) (split : u * b + r ≡ f * a) (close : r < b) where
  abbrev value : ℤ
  value = (s *ℤ pos b +ℤ pos f) *ℤ pos a

  abbrev begun : ℤ
  begun = s *ℤ pos a +ℤ pos u

  value_is : value ≡ begun *ℤ pos b +ℤ pos r
  value_is =
      let one = times_add (s *ℤ pos b) f a in
      let two = times_add (s *ℤ pos a) u b in
      let same = swapped s b a in
      omega (arith, ints, one, two, same, split)

  next_is : (value +ℤ pos (b - r)) ≡ (begun +ℤ pos 1) *ℤ pos b
  next_is = omega (arith, ints, value_is, times_add begun 1 b)

  none_left : r ≡ 0 → (value +ℤ pos 0) ≡ begun *ℤ pos b
  none_left none = omega (arith, ints, value_is)

  -- a number that has this value, and one that has not
  pub stands : r ≡ 0 → begun *ℤ pos b ≡ value
  stands none = omega (arith, ints, value_is)

  pub none_stands : 0 < r → (n : ℤ) → n *ℤ pos b ≡ value → ⊥
  none_stands some n same =
      by_lt_z n (begun +ℤ pos 1) (λ less. let low = less_than n (begun +ℤ pos 1) value b (b - r) next_is (omega arith) less in omega (arith, ints, low, same))
      (λ more. let high = at_least n (begun +ℤ pos 1) value b (b - r) next_is (omega arith) more in omega (arith, ints, high, same))

  pub only : r ≡ 0 → (n : ℤ) → n *ℤ pos b ≡ value → n ≡ begun
  only none n same =
      by_lt_z n begun (λ less. let low = less_than n begun value b 0 (none_left none) (omega arith) less in absurd (omega (arith, ints, low, same)))
      (λ upper. by_lt_z begun n (λ more. let high = more_than n begun value b 0 (none_left none) (omega arith) more in absurd (omega (arith, ints, high, same)))
      (λ lower. omega (arith, ints)))

  -- the comparison with it is the one that is brought down
  pub agrees : (op : Op) (n : ℤ) → FitsSigned w64 n → AgreesAt op (r == 0) (n *ℤ pos b) value n (if r == 0 then begun else begun +ℤ pos 1)
  agrees op n fits =
      let far : n <ℤ past_numbers = omega (arith, ints) in
      elim (cases_eq r 0) [
        | inl none ↦ subst (λ (e : Bool). AgreesAt op e (n *ℤ pos b) value n (if e then begun else begun +ℤ pos 1)) (sym (eq-eqb r 0 none))
            (exact_agrees op n begun value b 0 (none_left none) (omega arith) refl far)
        | inr some ↦ subst (λ (e : Bool). AgreesAt op e (n *ℤ pos b) value n (if e then begun else begun +ℤ pos 1)) (sym (ne_eqb r 0 some))
            (inexact_agrees op n (begun +ℤ pos 1) value b (b - r) next_is (omega arith) (omega arith) far)
      ]

-- the units of a part that were scanned are all that there are
units_same : (p : ℕ) (m : Moment) (t : ScannedTime) → t ≡ scanned_time p m → t.subsecond.units < 10 ^ p → p ≤ 6 → t.subsecond.units ≡ units_of p m.subsecond
units_same p m t same low few =
    let capped : t.subsecond.units ≡ min (units_of p m.subsecond) most_scanned = ap (λ q. q.subsecond.units) same in
    let most : 10 ^ p ≤ 10 ^ 6 = pow-le-pow_right {n = 10} (omega arith) {i = p} {j = 6} few in
    omega (arith, capped, most)

abbrev begun_at : ℕ → Moment → ℤ
begun_at p m = m.seconds *ℤ pos (10 ^ p) +ℤ pos (units_of p m.subsecond)

units_at_is : (p : ℕ) (m : Moment) (t : ScannedTime) → t ≡ scanned_time p m → t.subsecond.units < 10 ^ p → p ≤ 6 → units_at p t ≡ begun_at p m
units_at_is p m t same low few =
    ap (λ u. t.seconds *ℤ pos (10 ^ p) +ℤ pos u) (units_same p m t same low few) ∙ ap (λ q. q.seconds *ℤ pos (10 ^ p) +ℤ pos (units_of p m.subsecond)) same

module _ (p : ℕ) (few : p ≤ 6) where
  split_of : (m : Moment) → units_of p m.subsecond * 10 ^ m.subsecond.places + m.subsecond.value * 10 ^ p % 10 ^ m.subsecond.places ≡ m.subsecond.value * 10 ^ p
  split_of m = div-add-mod' (m.subsecond.value * 10 ^ p) (10 ^ m.subsecond.places)

  close_of : (m : Moment) → m.subsecond.value * 10 ^ p % 10 ^ m.subsecond.places < 10 ^ m.subsecond.places
  close_of m = mod_below (m.subsecond.value * 10 ^ p) (10 ^ m.subsecond.places) (ten_some m.subsecond.places)

  -- what a scan found is a time, and the comparison with it is brought down
  pub time_compares : (op : Op) (found : Option Moment) (t : ScannedTime) (c : Comparison) → Some t ≡ option_map (scanned_time p) found → t.subsecond.units < 10 ^ p
      → c ≡ brought_down op t.subsecond.exact (first_at p t)
      → MatchOption (option_map moment_value found) ⊥ (λ constant. ComparesAs decimal_order (decimal_at p) op constant c)
  time_compares op None t c some low is = absurd (cc)
  time_compares op (Some m) t c some low is =
      λ n fits.
      let same : t ≡ scanned_time p m = (cc) in
      let exact : t.subsecond.exact ≡ is_exact p m.subsecond = ap (λ q. q.subsecond.exact) same in
      let from : first_at p t ≡ (if is_exact p m.subsecond then begun_at p m else begun_at p m +ℤ pos 1) =
      ap (λ z. if t.subsecond.exact then z else z +ℤ pos 1) (units_at_is p m t same low few)
      ∙ ap (λ e. if e then begun_at p m else begun_at p m +ℤ pos 1) exact in
      let down : c ≡ brought_down op (is_exact p m.subsecond) (if is_exact p m.subsecond then begun_at p m else begun_at p m +ℤ pos 1) =
      is ∙ ap (λ z. brought_down op t.subsecond.exact z) from ∙ ap (λ e. brought_down op e (if is_exact p m.subsecond then begun_at p m else begun_at p m +ℤ pos 1)) exact in
      by_units op (decimal_at p n) (moment_value m)
      ∙ agrees m.seconds m.subsecond.value (10 ^ p) (10 ^ m.subsecond.places) (units_of p m.subsecond) (m.subsecond.value * 10 ^ p % 10 ^ m.subsecond.places) (split_of m) (close_of m) op n fits
      ∙ ap (λ d. compares_by signed_order d.op n d.number) (sym down)

  -- its number stands for it, if nothing is left
  pub number_spelled : (found : Option Moment) (t : ScannedTime) (n : ℤ) → Some t ≡ option_map (scanned_time p) found → t.subsecond.units < 10 ^ p
      → t.subsecond.exact ≡ true → n ≡ units_at p t → MatchOption (option_map moment_value found) ⊥ (Represents p n)
  number_spelled None t n some low whole is = absurd (cc)
  number_spelled (Some m) t n some low whole is =
      let same : t ≡ scanned_time p m = (cc) in
      let exact : is_exact p m.subsecond ≡ true = sym (ap (λ q. q.subsecond.exact) same) ∙ whole in
      ap (λ z. z *ℤ pos (10 ^ m.subsecond.places)) (is ∙ units_at_is p m t same low few)
      ∙ stands m.seconds m.subsecond.value (10 ^ p) (10 ^ m.subsecond.places) (units_of p m.subsecond) (m.subsecond.value * 10 ^ p % 10 ^ m.subsecond.places) (split_of m) (close_of m)
      (eqb-true (m.subsecond.value * 10 ^ p % 10 ^ m.subsecond.places) 0 exact)

  pub spelled_only : (found : Option Moment) (t : ScannedTime) (n : ℤ) → Some t ≡ option_map (scanned_time p) found → t.subsecond.units < 10 ^ p
      → t.subsecond.exact ≡ true → MatchOption (option_map moment_value found) ⊥ (Represents p n) → n ≡ units_at p t
  spelled_only None t n some low whole = λ none. absurd none
  spelled_only (Some m) t n some low whole =
      λ standing.
      let same : t ≡ scanned_time p m = (cc) in
      let exact : is_exact p m.subsecond ≡ true = sym (ap (λ q. q.subsecond.exact) same) ∙ whole in
      only m.seconds m.subsecond.value (10 ^ p) (10 ^ m.subsecond.places) (units_of p m.subsecond) (m.subsecond.value * 10 ^ p % 10 ^ m.subsecond.places) (split_of m) (close_of m)
      (eqb-true (m.subsecond.value * 10 ^ p % 10 ^ m.subsecond.places) 0 exact) n standing
      ∙ sym (units_at_is p m t same low few)

  -- and no number does, if something is
  pub nothing_spelled : (found : Option Moment) (t : ScannedTime) (n : ℤ) → Some t ≡ option_map (scanned_time p) found
      → t.subsecond.exact ≡ false → MatchOption (option_map moment_value found) ⊥ (Represents p n) → ⊥
  nothing_spelled None t n some whole = λ none. none
  nothing_spelled (Some m) t n some whole =
      λ standing.
      let same : t ≡ scanned_time p m = (cc) in
      let exact : is_exact p m.subsecond ≡ false = sym (ap (λ q. q.subsecond.exact) same) ∙ whole in
      let left : m.subsecond.value * 10 ^ p % 10 ^ m.subsecond.places ≡ 0 → ⊥ = eqb-false (m.subsecond.value * 10 ^ p % 10 ^ m.subsecond.places) 0 exact in
      none_stands m.seconds m.subsecond.value (10 ^ p) (10 ^ m.subsecond.places) (units_of p m.subsecond) (m.subsecond.value * 10 ^ p % 10 ^ m.subsecond.places) (split_of m) (close_of m)
      (omega arith) n standing
