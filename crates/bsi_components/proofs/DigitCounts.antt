-- How many rows of a selection have a digit that passes a test.
use Rattle.std.proofs.Common.{◌≡◌, ℕ, ◌+◌, ◌<◌, ◌≤◌, suc, Bool, true, false, cond, List, [], ◌∷◌, length, get_or, ap, ap₂, sym, ◌∙◌, refl, arith}
use Rattle.std.specs.Prelude.{count_by, nat_eq, nat_lt, nat_le, ◌&&◌}
use Rattle.std.specs.Simd.Lanes.{zip2}
use Rattle.std.proofs.Math.Bool.{and-true, and-false}
use Rattle.std.proofs.lemmas.Bool.Decides.{nat_tests}
use Rattle.std.proofs.lemmas.List.Sums.{sum_by-cons}
use Rattle.bsi_components.specs.Component.{count_where}

pub count_cons : {X : Type 0} (p : X → Bool) (x : X) (xs : List X) → count_by p (x ∷ xs) ≡ cond (p x) 1 0 + count_by p xs
count_cons p x xs = sum_by-cons (λ y. cond (p y) 1 0) x xs

below_or_same : (n m : ℕ) → cond (nat_le n m) 1 0 ≡ cond (nat_lt n m) 1 0 + cond (nat_eq n m) 1 0
below_or_same n m = grind (arith, nat_tests)

not_below_zero : (n : ℕ) → nat_lt n 0 ≡ false
not_below_zero n = grind (arith, nat_tests)

passes : (v d : ℕ) → v ≤ d → nat_le v d ≡ true
passes v d at_most = grind (arith, nat_tests)

-- a test that one of two tests passes, and never both
pub where_split : (p q r : ℕ → Bool) → ((n : ℕ) → cond (r n) 1 0 ≡ cond (p n) 1 0 + cond (q n) 1 0) → (chosen : List Bool) (digits : List ℕ)
    → count_where r chosen digits ≡ count_where p chosen digits + count_where q chosen digits
where_split p q r split [] digits = refl
where_split p q r split (f ∷ chosen) [] = refl
where_split p q r split (false ∷ chosen) (v ∷ digits) =
    let rest = where_split p q r split chosen digits in
    omega (
      arith,
      rest,
      count_cons (λ b. b) false (zip2 (λ f v. f && p v) chosen digits),
      count_cons (λ b. b) false (zip2 (λ f v. f && q v) chosen digits),
      count_cons (λ b. b) false (zip2 (λ f v. f && r v) chosen digits),
    )
where_split p q r split (true ∷ chosen) (v ∷ digits) =
    let rest = where_split p q r split chosen digits in
    omega (
      arith,
      rest,
      split v,
      count_cons (λ b. b) (p v) (zip2 (λ f v. f && p v) chosen digits),
      count_cons (λ b. b) (q v) (zip2 (λ f v. f && q v) chosen digits),
      count_cons (λ b. b) (r v) (zip2 (λ f v. f && r v) chosen digits),
    )

pub where_same : (p q : ℕ → Bool) → ((n : ℕ) → p n ≡ q n) → (chosen : List Bool) (digits : List ℕ) → count_where p chosen digits ≡ count_where q chosen digits
where_same p q same [] digits = refl
where_same p q same (f ∷ chosen) [] = refl
where_same p q same (f ∷ chosen) (v ∷ digits) =
    count_cons (λ b. b) (f && p v) (zip2 (λ f v. f && p v) chosen digits)
    ∙ ap₂ (λ b n. cond (f && b) 1 0 + n) (same v) (where_same p q same chosen digits)
    ∙ sym (count_cons (λ b. b) (f && q v) (zip2 (λ f v. f && q v) chosen digits))

-- the rows with a digit below d, and those with d, are those with a digit of at most d
pub where_at_most : (d : ℕ) (chosen : List Bool) (digits : List ℕ)
    → count_where (λ v. nat_le v d) chosen digits ≡ count_where (λ v. nat_lt v d) chosen digits + count_where (λ v. nat_eq v d) chosen digits
where_at_most d = where_split (λ v. nat_lt v d) (λ v. nat_eq v d) (λ v. nat_le v d) (λ v. below_or_same v d)

below_next : (v d : ℕ) → nat_lt v (d + 1) ≡ nat_le v d
below_next v d = grind (arith, nat_tests)

pub where_below_next : (d : ℕ) (chosen : List Bool) (digits : List ℕ) → count_where (λ v. nat_lt v (d + 1)) chosen digits ≡ count_where (λ v. nat_le v d) chosen digits
where_below_next d = where_same (λ v. nat_lt v (d + 1)) (λ v. nat_le v d) (λ v. below_next v d)

pub where_below_zero : (chosen : List Bool) (digits : List ℕ) → count_where (λ v. nat_lt v 0) chosen digits ≡ 0
where_below_zero [] digits = refl
where_below_zero (f ∷ chosen) [] = refl
where_below_zero (f ∷ chosen) (v ∷ digits) =
    count_cons (λ b. b) (f && nat_lt v 0) (zip2 (λ f v. f && nat_lt v 0) chosen digits)
    ∙ ap₂ (λ b n. cond (f && b) 1 0 + n) (not_below_zero v) (where_below_zero chosen digits) ∙ ap {B = ℕ} (λ b. cond b 1 0 + 0) (and-false f)

-- where each digit is at most d, all rows are counted
pub where_all : (d : ℕ) (chosen : List Bool) (digits : List ℕ) → length chosen ≡ length digits → ((k : ℕ) → k < length digits → get_or digits k 0 ≤ d)
    → count_where (λ v. nat_le v d) chosen digits ≡ count_by (λ b. b) chosen
where_all d [] digits same each = refl
where_all d (f ∷ chosen) [] same each = absurd (omega arith)
where_all d (f ∷ chosen) (v ∷ digits) same each =
    count_cons (λ b. b) (f && nat_le v d) (zip2 (λ f v. f && nat_le v d) chosen digits)
    ∙ ap₂ (λ b n. cond (f && b) 1 0 + n) (passes v d (each 0 (omega arith))) (where_all d chosen digits (omega arith) (λ k within. each (suc k) (omega arith)))
    ∙ ap {B = ℕ} (λ b. cond b 1 0 + count_by (λ b. b) chosen) (and-true f)
    ∙ sym (count_cons (λ b. b) f chosen)

-- where one of two tests passes each digit, and never both, the rows of the first and of the second are all
pub where_parts : (p q : ℕ → Bool) (top : ℕ) → ((v : ℕ) → v ≤ top → cond (p v) 1 0 + cond (q v) 1 0 ≡ 1) → (chosen : List Bool) (digits : List ℕ) → length chosen ≡ length digits
    → ((k : ℕ) → get_or digits k 0 ≤ top) → count_where p chosen digits + count_where q chosen digits ≡ count_by (λ b. b) chosen
where_parts p q top one [] digits same most = refl
where_parts p q top one (f ∷ chosen) [] same most = absurd (omega arith)
where_parts p q top one (false ∷ chosen) (v ∷ digits) same most =
    let rest = where_parts p q top one chosen digits (omega arith) (λ k. most (suc k)) in
    omega (
      arith,
      rest,
      count_cons (λ b. b) false chosen,
      count_cons (λ b. b) false (zip2 (λ f v. f && p v) chosen digits),
      count_cons (λ b. b) false (zip2 (λ f v. f && q v) chosen digits),
    )
where_parts p q top one (true ∷ chosen) (v ∷ digits) same most =
    let rest = where_parts p q top one chosen digits (omega arith) (λ k. most (suc k)) in
    omega (
      arith,
      rest,
      one v (most 0),
      count_cons (λ b. b) true chosen,
      count_cons (λ b. b) (p v) (zip2 (λ f v. f && p v) chosen digits),
      count_cons (λ b. b) (q v) (zip2 (λ f v. f && q v) chosen digits),
    )

-- no more rows are counted than there are
pub where_most : (p : ℕ → Bool) (chosen : List Bool) (digits : List ℕ) → count_where p chosen digits ≤ length chosen
where_most p [] digits = omega arith
where_most p (f ∷ chosen) [] = omega arith
where_most p (false ∷ chosen) (v ∷ digits) = omega (arith, where_most p chosen digits, count_cons (λ b. b) false (zip2 (λ f v. f && p v) chosen digits))
where_most p (true ∷ chosen) (v ∷ digits) =
    let one : cond (p v) 1 0 ≤ 1 = elim (p v) as (λ b. cond b 1 0 ≤ 1) [ true ↦ omega arith | false ↦ omega arith ] in
    omega (arith, one, where_most p chosen digits, count_cons (λ b. b) (p v) (zip2 (λ f v. f && p v) chosen digits))

pub where_none : (p : ℕ → Bool) → ((n : ℕ) → p n ≡ false) → (chosen : List Bool) (digits : List ℕ) → count_where p chosen digits ≡ 0
where_none p none chosen digits = where_same p (λ v. nat_lt v 0) (λ n. none n ∙ sym (not_below_zero n)) chosen digits ∙ where_below_zero chosen digits
