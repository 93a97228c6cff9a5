-- Lists of bases of 2, under which digits are binary.
use Rattle.std.proofs.Common.{◌≡◌, ℕ, zero, suc, ◌-◌, ◌/◌, ◌%◌, ◌^◌, ◌<◌, ◌≤◌, length, get_or, reverse, replicate, None, refl, sym, ◌∙◌, ap, arith}
use Rattle.std.proofs.lemmas.Grind.{same_number_lists}
use Rattle.std.proofs.lemmas.List.{get_or-reverse, length-reverse, length-replicate, get_or-replicate}
use Rattle.std.proofs.lemmas.List.Folds.{sum_by-replicate}
use Rattle.std.proofs.Math.Nat.{pow-le-pow_right}
use Rattle.bsi_digits.specs.Digits.{max_bases, weight, digit_of, IsBase, IsBaseList}
use Rattle.bsi_digits.specs.Refusal.{refusal}
use Rattle.bsi_digits.proofs.Products.{product-replicate}
use Rattle.bsi_digits.proofs.Refusals.{refusal_from_base_list_as_written}

pub reverse-replicate : (n x : ℕ) → reverse (replicate n x) ≡ replicate n x
reverse-replicate n x =
    let long : length (reverse (replicate n x)) ≡ n = length-reverse (replicate n x) ∙ length-replicate n x in
    let all = λ (i : ℕ) (h : i < length (reverse (replicate n x))).
    get_or-reverse (replicate n x) i 0 (omega (arith, length-replicate n x)) ∙
    get_or-replicate n (length (replicate n x) - 1 - i) x 0 (omega (arith, length-replicate n x)) ∙
    sym (get_or-replicate n i x 0 (omega arith)) in
    same_number_lists (reverse (replicate n x)) (replicate n x) (length-reverse (replicate n x)) all

each_two : (w i : ℕ) → i < length (replicate {A = ℕ} w 2) → IsBase (get_or (replicate w 2) i 0)
each_two w i h =
    let long : length (replicate {A = ℕ} w 2) ≡ w = length-replicate w 2 in
    let two : get_or (replicate {A = ℕ} w 2) i 0 ≡ 2 = get_or-replicate w i 2 0 (omega arith) in
    (omega arith, omega arith)

pub IsBaseList-twos : (w : ℕ) → 1 ≤ w → w ≤ max_bases → IsBaseList (replicate w 2)
IsBaseList-twos w some few =
    let long : length (replicate {A = ℕ} w 2) ≡ w = length-replicate w 2 in
    record {
      some = omega arith;
      few = omega arith;
      each = each_two w;
      narrow = omega (arith, sum_by-replicate (λ (x : ℕ). x) w 2);
      small = rw (product-replicate w) (pow-le-pow_right (omega arith) few);
    }

pub refusal-twos : (w : ℕ) → 1 ≤ w → w ≤ max_bases → refusal (replicate w 2) ≡ None
refusal-twos w some few = refusal_from_base_list_as_written (replicate w 2) (IsBaseList-twos w some few)

pub weight-twos : (w i : ℕ) → i ≤ w → weight (replicate w 2) i ≡ 2 ^ i
weight-twos w zero h = refl
weight-twos zero (suc i) h = absurd (omega arith)
weight-twos (suc w) (suc i) h = omega (arith, weight-twos w i (omega arith))

-- the digit of component i is binary digit i
pub digit_of-twos : (w v i : ℕ) → i < w → digit_of (replicate w 2) v i ≡ v / 2 ^ i % 2
digit_of-twos w v i h =
    ap (λ n. v / n % get_or (replicate w 2) i 0) (weight-twos w i (omega arith)) ∙
    ap (λ b. v / 2 ^ i % b) (get_or-replicate w i 2 0 h)
