-- Comparisons with values that a number stands for.
use Rattle.std.proofs.Common.{◌≡◌, ◌⊎◌, inl, inr, ℕ, Bool, true, false, if◌then◌else◌, List, Option, Some, None, option_map, IfSome, MatchOption, ℤ, pos, refl, sym, subst, ap₂, ◌∙◌}
use Rattle.std.specs.Str.{bytes_eq}
use Rattle.bsi_digits.specs.Orders.{compares_by}
use Rattle.bsi_digits.specs.WholeNumbers.{signed_order}
use Rattle.bsi_digits.specs.declared.op.Op.{Op}
use Rattle.bsi_kinds.specs.Booleans.{boolean_number, is_true}
use Rattle.bsi_kinds.specs.Comparisons.{comparison, ComparesAs}
use Rattle.bsi_kinds.specs.Decimals.{decimal_at, decimal_of, decimal_order, Decimal as Fraction}
use Rattle.bsi_kinds.specs.Dates.{date_number}
use Rattle.bsi_kinds.specs.Kinds.{day, fraction, truth, value_compares, value_of, ComparesValues}
use Rattle.bsi_kinds.specs.declared.boolean.BooleanForm.{BooleanForm}
use Rattle.bsi_kinds.specs.declared.comparison.Comparison.{Comparison}
use Rattle.bsi_kinds.specs.declared.date.DateForm.{DateForm}
use Rattle.bsi_kinds.specs.declared.kind.Kind.{Kind}
use Rattle.bsi_kinds.specs.declared.kind.Kind.TheVariants.{Boolean, Date, Decimal, Rounded, Time}
use Rattle.bsi_kinds.specs.Times.{time_of, unit_places}
use Rattle.bsi_kinds.specs.declared.time.TimeForm.{TimeForm}
use Rattle.bsi_kinds.proofs.Cutting.{some_same}
use Rattle.bsi_kinds.proofs.Moments.{number_fits}

-- days compare as their numbers
by_found : (op : Op) (form : DateForm) (found : Option ℤ)
    → IfSome (option_map (λ n. comparison op n) found) (λ c. MatchOption (option_map day found) ⊥ (λ v. ComparesValues (Date form) op v c))
by_found op form None = tt
by_found op form (Some n) = λ m fits. refl

pub by_date : (op : Op) (form : DateForm) (kind : Kind) (point : ℕ) (text : List ℕ) (found : Option Comparison) → kind ≡ Date form
    → found ≡ option_map (λ n. comparison op n) (date_number form text)
    → IfSome found (λ c. MatchOption (value_of kind point text) ⊥ (λ v. ComparesValues kind op v c))
by_date op form kind point text found is given =
    subst (λ (k : Kind). IfSome found (λ c. MatchOption (value_of k point text) ⊥ (λ v. ComparesValues k op v c))) (sym is)
    (subst (λ (r : Option Comparison). IfSome r (λ c. MatchOption (value_of (Date form) point text) ⊥ (λ v. ComparesValues (Date form) op v c))) (sym given)
    (by_found op form (date_number form text)))

-- the number of a word by two tests
either_test : (first second : Bool) (n : ℤ) → (if first then Some (pos 1) else (if second then Some (pos 0) else None)) ≡ Some n → (n ≡ pos 0) ⊎ (n ≡ pos 1)
either_test true second n is = inr (sym (some_same is))
either_test false true n is = inl (sym (some_same is))
either_test false false n is = absurd (cc)

-- truth values compare as their numbers
by_truth : (op : Op) (n m : ℤ) → (n ≡ pos 0) ⊎ (n ≡ pos 1) → (m ≡ pos 0) ⊎ (m ≡ pos 1)
    → value_compares op (truth (is_true n)) (truth (is_true m)) ≡ compares_by signed_order op n m
by_truth op n m (inl zero_n) (inl zero_m) =
    ap₂ (λ a b. value_compares op (truth (is_true a)) (truth (is_true b))) zero_n zero_m ∙ ap₂ (λ a b. compares_by signed_order op a b) (sym zero_n) (sym zero_m)
by_truth op n m (inl zero_n) (inr one_m) =
    ap₂ (λ a b. value_compares op (truth (is_true a)) (truth (is_true b))) zero_n one_m ∙ ap₂ (λ a b. compares_by signed_order op a b) (sym zero_n) (sym one_m)
by_truth op n m (inr one_n) (inl zero_m) =
    ap₂ (λ a b. value_compares op (truth (is_true a)) (truth (is_true b))) one_n zero_m ∙ ap₂ (λ a b. compares_by signed_order op a b) (sym one_n) (sym zero_m)
by_truth op n m (inr one_n) (inr one_m) =
    ap₂ (λ a b. value_compares op (truth (is_true a)) (truth (is_true b))) one_n one_m ∙ ap₂ (λ a b. compares_by signed_order op a b) (sym one_n) (sym one_m)

-- a word that is found has 0 or 1
boolean_is : (form : BooleanForm) (text : List ℕ) (n : ℤ) → boolean_number form text ≡ Some n → (n ≡ pos 0) ⊎ (n ≡ pos 1)
boolean_is form text n is = either_test (bytes_eq text form.yes) (bytes_eq text form.no) n is

by_word : (op : Op) (form : BooleanForm) (text : List ℕ) (found : Option ℤ) → boolean_number form text ≡ found
    → IfSome (option_map (λ n. comparison op n) found)
    (λ c. MatchOption (option_map (λ n. truth (is_true n)) found) ⊥ (λ v. ComparesValues (Boolean form) op v c))
by_word op form text None is = tt
by_word op form text (Some m) is = λ n holds. by_truth op n m holds (boolean_is form text m is)

pub by_boolean : (op : Op) (form : BooleanForm) (kind : Kind) (point : ℕ) (text : List ℕ) (found : Option Comparison) → kind ≡ Boolean form
    → found ≡ option_map (λ n. comparison op n) (boolean_number form text)
    → IfSome found (λ c. MatchOption (value_of kind point text) ⊥ (λ v. ComparesValues kind op v c))
by_boolean op form kind point text found is given =
    subst (λ (k : Kind). IfSome found (λ c. MatchOption (value_of k point text) ⊥ (λ v. ComparesValues k op v c))) (sym is)
    (subst (λ (r : Option Comparison). IfSome r (λ c. MatchOption (value_of (Boolean form) point text) ⊥ (λ v. ComparesValues (Boolean form) op v c))) (sym given)
    (by_word op form text (boolean_number form text) refl))

-- a decimal compares as its number does
by_fraction : (op : Op) (places : ℕ) (found : Option Fraction) (c : Comparison)
    → MatchOption found ⊥ (λ d. ComparesAs decimal_order (decimal_at places) op d c)
    → MatchOption (option_map fraction found) ⊥ (λ v. ComparesValues (Decimal places) op v c)
by_fraction op places None c holds = holds
by_fraction op places (Some d) c holds = holds

pub by_decimal : (op : Op) (places : ℕ) (kind : Kind) (point : ℕ) (text : List ℕ) (found : Option Comparison) → kind ≡ Decimal places
    → IfSome found (λ c. MatchOption (decimal_of point text) ⊥ (λ d. ComparesAs decimal_order (decimal_at places) op d c))
    → IfSome found (λ c. MatchOption (value_of kind point text) ⊥ (λ v. ComparesValues kind op v c))
by_decimal op places kind point text None is given = tt
by_decimal op places kind point text (Some c) is given =
    subst (λ (k : Kind). MatchOption (value_of k point text) ⊥ (λ v. ComparesValues k op v c)) (sym is)
    (by_fraction op places (decimal_of point text) c given)

-- and so does a rounded one
pub by_rounded : (op : Op) (places : ℕ) (kind : Kind) (point : ℕ) (text : List ℕ) (found : Option Comparison) → kind ≡ Rounded places
    → IfSome found (λ c. MatchOption (decimal_of point text) ⊥ (λ d. ComparesAs decimal_order (decimal_at places) op d c))
    → IfSome found (λ c. MatchOption (value_of kind point text) ⊥ (λ v. ComparesValues kind op v c))
by_rounded op places kind point text None is given = tt
by_rounded op places kind point text (Some c) is given =
    subst (λ (k : Kind). MatchOption (value_of k point text) ⊥ (λ v. ComparesValues k op v c)) (sym is)
    (by_fraction op places (decimal_of point text) c given)

-- and so does a time
by_moment : (op : Op) (form : TimeForm) (found : Option Fraction) (c : Comparison)
    → MatchOption found ⊥ (λ d. ComparesAs decimal_order (decimal_at (unit_places form.unit)) op d c)
    → MatchOption (option_map fraction found) ⊥ (λ v. ComparesValues (Time form) op v c)
by_moment op form None c holds = holds
by_moment op form (Some d) c holds = λ n within. holds n (number_fits form.unit n within)

pub by_time : (op : Op) (form : TimeForm) (kind : Kind) (point : ℕ) (text : List ℕ) (found : Option Comparison) → kind ≡ Time form
    → IfSome found (λ c. MatchOption (time_of form text) ⊥ (λ d. ComparesAs decimal_order (decimal_at (unit_places form.unit)) op d c))
    → IfSome found (λ c. MatchOption (value_of kind point text) ⊥ (λ v. ComparesValues kind op v c))
by_time op form kind point text None is given = tt
by_time op form kind point text (Some c) is given =
    subst (λ (k : Kind). MatchOption (value_of k point text) ⊥ (λ v. ComparesValues k op v c)) (sym is)
    (by_moment op form (time_of form text) c given)
