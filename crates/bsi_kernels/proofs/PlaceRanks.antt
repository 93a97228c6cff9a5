-- One binary place on the way to the number of a rank.
use Rattle.std.proofs.Common.{◌≡◌, ℕ, suc, ◌+◌, ◌*◌, ◌/◌, ◌^◌, ◌<◌, Bool, true, false, cond, List, [], ◌∷◌, length, get_or, map, refl, ap, ap₂, sym, ◌∙◌, arith}
use Rattle.std.specs.Prelude.{count_by, nat_eq, nat_lt, not, ◌&&◌, ◌==◌, if◌then◌else◌}
use Rattle.std.specs.Int.{bit_at}
use Rattle.std.specs.Simd.Lanes.{zip2}
use Rattle.std.proofs.Math.Nat.{div-div-eq-div-mul, div-eq_of_lt}
use Rattle.std.proofs.Math.Bool.{and-true, and-false}
use Rattle.std.proofs.lemmas.Bool.Decides.{nat_tests}
use Rattle.std.proofs.lemmas.Nat.{pow-add, div-add-mod'}
use Rattle.std.proofs.lemmas.List.Sums.{sum_by-cons}
use Rattle.bsi_bits.specs.BitList.{without}
use Rattle.bsi_kernels.specs.Places.{has_place}
use Rattle.bsi_kernels.specs.Ranks.{IsRankedRows}

-- the selected rows whose number passes
abbrev pub passing : (ℕ → Bool) → List Bool → List ℕ → List Bool
passing p selection numbers = zip2 (λ f v. f && p v) selection numbers

abbrev pub count : List Bool → ℕ
count rows = count_by (λ b. b) rows

count_cons : (b : Bool) (rows : List Bool) → count (b ∷ rows) ≡ cond b 1 0 + count rows
count_cons b rows = sum_by-cons (λ y. cond y 1 0) b rows

-- these rows have this number above place i, and the row of rank k has this rank among them
pub record IsRankedAbove (i k : ℕ) (selection : List Bool) (numbers : List ℕ) (number rank : ℕ) (rows : List Bool) : Type 0 where
  pub rows_are : rows ≡ passing (λ v. nat_eq (v / 2 ^ i) number) selection numbers
  pub rank_is : k ≡ count (passing (λ v. nat_lt (v / 2 ^ i) number) selection numbers) + rank
  pub there : rank < count rows

-- ---- rows and counts by two tests

one_split : (f p q r : Bool) → cond r 1 0 ≡ cond p 1 0 + cond q 1 0 → cond (f && r) 1 0 ≡ cond (f && p) 1 0 + cond (f && q) 1 0
one_split false p q r split = refl
one_split true p q r split = split

count_split : (p q r : ℕ → Bool) → ((v : ℕ) → cond (r v) 1 0 ≡ cond (p v) 1 0 + cond (q v) 1 0) → (selection : List Bool) (numbers : List ℕ)
    → count (passing r selection numbers) ≡ count (passing p selection numbers) + count (passing q selection numbers)
count_split p q r split [] numbers = refl
count_split p q r split (f ∷ selection) [] = refl
count_split p q r split (f ∷ selection) (v ∷ numbers) =
    omega (
      arith,
      count_split p q r split selection numbers,
      one_split f (p v) (q v) (r v) (split v),
      count_cons (f && r v) (passing r selection numbers),
      count_cons (f && p v) (passing p selection numbers),
      count_cons (f && q v) (passing q selection numbers),
    )

one_more : (f p t r : Bool) → (p && t) ≡ r → ((f && p) && t) ≡ (f && r)
one_more false p t r both = refl
one_more true p t r both = both

-- passed once more, by a bit of the number
passing_more : (p : ℕ → Bool) (t : Bool → Bool) (h r : ℕ → Bool) → ((v : ℕ) → (p v && t (h v)) ≡ r v) → (selection : List Bool) (numbers : List ℕ)
    → zip2 (λ f b. f && t b) (passing p selection numbers) (map h numbers) ≡ passing r selection numbers
passing_more p t h r both [] numbers = refl
passing_more p t h r both (f ∷ selection) [] = refl
passing_more p t h r both (f ∷ selection) (v ∷ numbers) = ap₂ ◌∷◌ (one_more f (p v) (t (h v)) (r v) (both v)) (passing_more p t h r both selection numbers)

passing_same : (p q : ℕ → Bool) → ((v : ℕ) → p v ≡ q v) → (selection : List Bool) (numbers : List ℕ) → passing p selection numbers ≡ passing q selection numbers
passing_same p q same [] numbers = refl
passing_same p q same (f ∷ selection) [] = refl
passing_same p q same (f ∷ selection) (v ∷ numbers) = ap₂ ◌∷◌ (ap (λ b. f && b) (same v)) (passing_same p q same selection numbers)

passing_none : (p : ℕ → Bool) → ((v : ℕ) → p v ≡ false) → (selection : List Bool) (numbers : List ℕ) → count (passing p selection numbers) ≡ 0
passing_none p none [] numbers = refl
passing_none p none (f ∷ selection) [] = refl
passing_none p none (f ∷ selection) (v ∷ numbers) =
    let here : cond (f && p v) 1 0 ≡ 0 = ap {B = ℕ} (λ b. cond (f && b) 1 0) (none v) ∙ ap {B = ℕ} (λ b. cond b 1 0) (and-false f) in
    omega (arith, passing_none p none selection numbers, here, count_cons (f && p v) (passing p selection numbers))

passing_all : (p : ℕ → Bool) (selection : List Bool) (numbers : List ℕ) → length numbers ≡ length selection → ((k : ℕ) → k < length numbers → p (get_or numbers k 0) ≡ true)
    → selection ≡ passing p selection numbers
passing_all p [] numbers same all = refl
passing_all p (f ∷ selection) [] same all = absurd (omega arith)
passing_all p (f ∷ selection) (v ∷ numbers) same all =
    ap₂ ◌∷◌ (sym (and-true f) ∙ ap (λ b. f && b) (sym (all 0 (omega arith)))) (passing_all p selection numbers (omega arith) (λ k within. all (suc k) (omega arith)))

-- ---- one place

equal_halves : (h b number : ℕ) (d : Bool) → b < 2 → (nat_eq h number && (if d then b == 1 else not (b == 1))) ≡ nat_eq (h * 2 + b) (number * 2 + cond d 1 0)
equal_halves h b number true small = grind (arith, nat_tests)
equal_halves h b number false small = grind (arith, nat_tests)

lower_halves : (h b number : ℕ) (d : Bool) → b < 2
    → cond (nat_lt (h * 2 + b) (number * 2 + cond d 1 0)) 1 0 ≡ cond (nat_lt h number) 1 0 + cond (nat_eq h number && (d && not (b == 1))) 1 0
lower_halves h b number true small = grind (arith, nat_tests)
lower_halves h b number false small = grind (arith, nat_tests)

module _ (i : ℕ) where
  above : (v : ℕ) → v / 2 ^ i / 2 ≡ v / 2 ^ (i + 1)
  above v = div-div-eq-div-mul v (2 ^ i) 2 ∙ ap (λ w. v / w) (sym (pow-add 2 i 1))

  halves : (v : ℕ) → v / 2 ^ (i + 1) * 2 + bit_at v i ≡ v / 2 ^ i
  halves v = ap (λ h. h * 2 + bit_at v i) (sym (above v)) ∙ div-add-mod' (v / 2 ^ i) 2

  equal_place : (v number : ℕ) (d : Bool) → (nat_eq (v / 2 ^ (i + 1)) number && (if d then has_place i v else not (has_place i v))) ≡ nat_eq (v / 2 ^ i) (number * 2 + cond d 1 0)
  equal_place v number d = equal_halves (v / 2 ^ (i + 1)) (bit_at v i) number d (omega arith) ∙ ap (λ q. nat_eq q (number * 2 + cond d 1 0)) (halves v)

  lower_place : (v number : ℕ) (d : Bool) → cond (nat_lt (v / 2 ^ i) (number * 2 + cond d 1 0)) 1 0 ≡ cond (nat_lt (v / 2 ^ (i + 1)) number) 1 0 + cond (nat_eq (v / 2 ^ (i + 1)) number && (d && not (has_place i v))) 1 0
  lower_place v number d = ap {B = ℕ} (λ q. cond (nat_lt q (number * 2 + cond d 1 0)) 1 0) (sym (halves v)) ∙ lower_halves (v / 2 ^ (i + 1)) (bit_at v i) number d (omega arith)

either_way : (f b : Bool) → cond f 1 0 ≡ cond (f && b) 1 0 + cond (f && not b) 1 0
either_way false b = refl
either_way true false = refl
either_way true true = refl

-- the rows that are set are those that are set in a place too and those that are not
count_by_place : (rows place : List Bool) → length place ≡ length rows → count rows ≡ count (zip2 ◌&&◌ rows place) + count (zip2 without rows place)
count_by_place [] place same = refl
count_by_place (f ∷ rows) [] same = absurd (omega arith)
count_by_place (f ∷ rows) (b ∷ place) same =
    omega (
      arith,
      count_by_place rows place (omega arith),
      either_way f b,
      count_cons f rows,
      count_cons (f && b) (zip2 ◌&&◌ rows place),
      count_cons (f && not b) (zip2 without rows place),
    )

-- the rank among the rows that have the place of its row
rank_there : (d : Bool) (rows place : List Bool) (clear rank rank' : ℕ) → length place ≡ length rows
    → clear ≡ count (zip2 without rows place) → rank < count rows
    → rank ≡ (if d then clear else 0) + rank' → (d ≡ false → rank' < clear)
    → rank' < count (zip2 (λ f b. f && (if d then b else not b)) rows place)
rank_there true rows place clear rank rank' same clear_is there rank_is first = omega (arith, count_by_place rows place same, clear_is, there, rank_is)
rank_there false rows place clear rank rank' same clear_is there rank_is first = omega (arith, first refl, clear_is)

module _ (k : ℕ) (selection : List Bool) (numbers : List ℕ) where
  -- at first all rows of the selection are left
  pub ranked_start : (n : ℕ) → length numbers ≡ length selection → ((j : ℕ) → get_or numbers j 0 < 2 ^ n) → k < count selection → IsRankedAbove n k selection numbers 0 k selection
  ranked_start n same below there = record {
    rows_are = passing_all (λ v. nat_eq (v / 2 ^ n) 0) selection numbers same (λ j within. let none = div-eq_of_lt (below j) in ap (λ q. nat_eq q 0) none);
    rank_is = let none = passing_none (λ v. nat_lt (v / 2 ^ n) 0) (λ v. grind (arith, nat_tests)) selection numbers in omega (arith, none);
    there = there;
  }

  -- one place down
  pub ranked_step : (i number rank clear rank' : ℕ) (d : Bool) (rows place : List Bool) → IsRankedAbove (i + 1) k selection numbers number rank rows
      → place ≡ map (has_place i) numbers → length place ≡ length rows → clear ≡ count (zip2 without rows place)
      → rank ≡ (if d then clear else 0) + rank' → (d ≡ false → rank' < clear)
      → IsRankedAbove i k selection numbers (number * 2 + cond d 1 0) rank' (zip2 (λ f b. f && (if d then b else not b)) rows place)
  ranked_step i number rank clear rank' d rows place state place_is same clear_is rank_is first =
      let p : ℕ → Bool = λ v. nat_eq (v / 2 ^ (i + 1)) number in
      let t : Bool → Bool = λ b. if d then b else not b in
      let split = count_split (λ v. nat_lt (v / 2 ^ (i + 1)) number) (λ v. p v && (d && not (has_place i v))) (λ v. nat_lt (v / 2 ^ i) (number * 2 + cond d 1 0)) (λ v. lower_place i v number d) selection numbers in
      record {
        rows_are =
            ap₂ (zip2 (λ f b. f && t b)) state.rows_are place_is
            ∙ passing_more p t (has_place i) (λ v. nat_eq (v / 2 ^ i) (number * 2 + cond d 1 0)) (λ v. equal_place i v number d) selection numbers;
        rank_is = omega (arith, state.rank_is, rank_is, split, cleared d clear (clear_is ∙ ap₂ (λ rs b. count (zip2 without rs b)) state.rows_are place_is));
        there = rank_there d rows place clear rank rank' same clear_is state.there rank_is first;
      }
    where
      cleared : (e : Bool) (c : ℕ) → c ≡ count (zip2 without (passing (λ v. nat_eq (v / 2 ^ (i + 1)) number) selection numbers) (map (has_place i) numbers))
          → (if e then c else 0) ≡ count (passing (λ v. nat_eq (v / 2 ^ (i + 1)) number && (e && not (has_place i v))) selection numbers)
      cleared true c is = is ∙ ap count (passing_more (λ v. nat_eq (v / 2 ^ (i + 1)) number) not (has_place i) (λ v. nat_eq (v / 2 ^ (i + 1)) number && not (has_place i v)) (λ v. refl) selection numbers)
      cleared false c is = sym (passing_none (λ v. nat_eq (v / 2 ^ (i + 1)) number && false) (λ v. and-false (nat_eq (v / 2 ^ (i + 1)) number)) selection numbers)

  -- in the end the rows that are left have the number
  pub ranked_extreme : (number rank : ℕ) (rows : List Bool) → IsRankedAbove 0 k selection numbers number rank rows → IsRankedRows k selection numbers number rank rows
  ranked_extreme number rank rows state =
      let whole : (v : ℕ) → v / 2 ^ 0 ≡ v = λ v. omega arith in
      record {
        rows_are = state.rows_are ∙ passing_same (λ v. nat_eq (v / 2 ^ 0) number) (λ v. nat_eq v number) (λ v. ap (λ q. nat_eq q number) (whole v)) selection numbers;
        rank_is = state.rank_is ∙ ap (λ rs. count rs + rank) (passing_same (λ v. nat_lt (v / 2 ^ 0) number) (λ v. nat_lt v number) (λ v. ap (λ q. nat_lt q number) (whole v)) selection numbers);
        there = state.there;
      }
