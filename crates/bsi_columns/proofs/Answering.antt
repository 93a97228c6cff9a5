-- What a test says of entries, from what it says of their numbers.
use Rattle.std.proofs.Common.{◌≡◌, ℕ, ◌+◌, ◌-◌, ◌%◌, ◌<◌, ◌≤◌, ◌≢◌, Bool, true, false, List, [], ◌∷◌, length, map, replicate, refl, sym, ap, ap₂, ◌∙◌, arith}
use Rattle.std.specs.Result.{IfOk}
use Rattle.std.specs.Prelude.{Result, Option, Some, None, not, is_some, ◌&&◌, ◌||◌, ◌==◌, nat_eq, nat_lt, nat_le, All}
use Rattle.std.specs.Simd.Lanes.{zip2}
use Rattle.std.proofs.lemmas.Bool.Decides.{nat_tests}
use Rattle.std.proofs.lemmas.List.Elements.{All-head, All-tail}
use Rattle.std.proofs.lemmas.Result.{IfOk-weaker}
use Rattle.std.proofs.lemmas.Simd.{zip2_of_maps}
use Rattle.bsi_digits.specs.Digits.{product, weight, digit_of, IsBaseList}
use Rattle.bsi_digits.proofs.CallerLemmas.{low_le, low_eq, low_all}
use Rattle.bsi_bits.proofs.Pairs.{zip2-map_right}
use Rattle.bsi_slices.specs.declared.decision.Relation.{Relation}
use Rattle.bsi_slices.specs.declared.decision.Relation.TheVariants.{Equal, AtMost}
use Rattle.bsi_kernels.specs.Places.{at_most_step}
use Rattle.bsi_digits.specs.Comparisons.{number_or_zero}
use Rattle.bsi_slices.specs.Decisions.{as_expected, relates}
use Rattle.bsi_columns.specs.DigitTests.{relates_step, answers}

-- a row that is not not a null
-- no row is selected
pub none_selected : (test : ℕ → Bool) (expected : Bool) (es : List (Option ℕ)) → ((x : ℕ) → as_expected expected (test x) ≡ false)
    → replicate (length es) false ≡ map (answers test expected) es
none_selected test expected [] never = refl
none_selected test expected (None ∷ es) never = ap (λ xs. false ∷ xs) (none_selected test expected es never)
none_selected test expected (Some x ∷ es) never = ap₂ (λ b xs. b ∷ xs) (sym (never x)) (none_selected test expected es never)

-- every row that is not a null
pub all_selected : (test : ℕ → Bool) (expected : Bool) (es : List (Option ℕ)) → ((x : ℕ) → as_expected expected (test x) ≡ true)
    → map is_some es ≡ map (answers test expected) es
all_selected test expected [] always = refl
all_selected test expected (None ∷ es) always = ap (λ xs. false ∷ xs) (all_selected test expected es always)
all_selected test expected (Some x ∷ es) always = ap₂ (λ b xs. b ∷ xs) (sym (always x)) (all_selected test expected es always)

-- pairs by two functions that agree
pub zip2_alike : {X Y Z : Type 0} (f g : X → Y → Z) → ((x : X) (y : Y) → f x y ≡ g x y) → (xs : List X) (ys : List Y) → zip2 f xs ys ≡ zip2 g xs ys
zip2_alike f g same [] ys = refl
zip2_alike f g same (x ∷ xs) [] = refl
zip2_alike f g same (x ∷ xs) (y ∷ ys) = ap₂ (λ z zs. z ∷ zs) (same x y) (zip2_alike f g same xs ys)

-- pairs of pairs with the second list
pub zip2_twice : {X Y Z V : Type 0} (f : X → Y → Z) (h : Z → Y → V) (xs : List X) (ys : List Y) → zip2 h (zip2 f xs ys) ys ≡ zip2 (λ x y. h (f x y) y) xs ys
zip2_twice f h [] ys = refl
zip2_twice f h (x ∷ xs) [] = refl
zip2_twice f h (x ∷ xs) (y ∷ ys) = ap (λ zs. h (f x y) y ∷ zs) (zip2_twice f h xs ys)

both_calls : (low : Bool) (v d : ℕ) → 0 < d → ((low && nat_le v d) || nat_le v (d - 1)) ≡ at_most_step low v d
both_calls low v d some = grind (arith, nat_tests)

one_call : (low : Bool) (v d : ℕ) → d ≤ 0 → (low && nat_le v d) ≡ at_most_step low v d
one_call low v d none = grind (arith, nat_tests)

module _ (selection : List Bool) (ds : List ℕ) (d : ℕ) where
  -- a digit more of `=`
  pub narrowed_equal : zip2 ◌&&◌ selection (map (λ v. v == d) ds) ≡ zip2 (λ low v. relates_step Equal low v d) selection ds
  narrowed_equal = zip2-map_right ◌&&◌ (λ (v : ℕ). v == d) selection ds

  -- a digit more of `<=`, by one call or by two
  pub narrowed_by_one : d ≤ 0 → zip2 ◌&&◌ selection (map (λ v. nat_le v d) ds) ≡ zip2 (λ low v. relates_step AtMost low v d) selection ds
  narrowed_by_one none =
      zip2-map_right ◌&&◌ (λ (v : ℕ). nat_le v d) selection ds
      ∙ zip2_alike (λ (low : Bool) (v : ℕ). low && nat_le v d) (λ low v. at_most_step low v d) (λ low v. one_call low v d none) selection ds

  pub narrowed_by_two : 0 < d → zip2 ◌||◌ (zip2 ◌&&◌ selection (map (λ v. nat_le v d) ds)) (map (λ v. nat_le v (d - 1)) ds)
      ≡ zip2 (λ low v. relates_step AtMost low v d) selection ds
  narrowed_by_two some =
      let low_or = λ (b : Bool) (v : ℕ). b || nat_le v (d - 1) in
      let low_and = λ (low : Bool) (v : ℕ). low && nat_le v d in
      zip2-map_right ◌||◌ (λ (v : ℕ). nat_le v (d - 1)) (zip2 ◌&&◌ selection (map (λ v. nat_le v d) ds)) ds
      ∙ ap (λ xs. zip2 low_or xs ds) (zip2-map_right ◌&&◌ (λ (v : ℕ). nat_le v d) selection ds)
      ∙ zip2_twice low_and low_or selection ds
      ∙ zip2_alike (λ low v. low_or (low_and low v) v) (λ low v. at_most_step low v d) (λ low v. both_calls low v d some) selection ds

-- the digit of a place decides, and then what stands below it
both_turned : (a b : Bool) → (a && b) ≡ (b && a)
both_turned a b = grind (arith, nat_tests)

pub holds_more : {bs : List ℕ} → IsBaseList bs → (relation : Relation) (u v i : ℕ) → i < length bs →
    relates relation (u % weight bs (i + 1)) (v % weight bs (i + 1))
    ≡ relates_step relation (relates relation (u % weight bs i) (v % weight bs i)) (digit_of bs u i) (digit_of bs v i)
holds_more {bs} valid Equal u v i h =
    low_eq valid u v i h ∙ both_turned (digit_of bs u i == digit_of bs v i) (u % weight bs i == v % weight bs i)
holds_more {bs} valid AtMost u v i h = low_le valid u v i h

-- functions that agree on the items of a list
pub map_alike : {X Y : Type 0} (f g : X → Y) (P : X → Type 0) → ((x : X) → P x → f x ≡ g x) → (xs : List X) → All P xs → map f xs ≡ map g xs
map_alike f g P same [] all = refl
map_alike f g P same (x ∷ xs) all = ap₂ (λ y ys. y ∷ ys) (same x (All-head P x xs all)) (map_alike f g P same xs (All-tail P x xs all))

pub map_map : {X Y Z : Type 0} (f : Y → Z) (g : X → Y) (xs : List X) → map f (map g xs) ≡ map (λ x. f (g x)) xs
map_map f g [] = refl
map_map f g (x ∷ xs) = ap (λ ys. f (g x) ∷ ys) (map_map f g xs)

pub zip2-map_left : {X Y Z V : Type 0} (f : X → Y → Z) (g : V → X) (vs : List V) (ys : List Y) → zip2 f (map g vs) ys ≡ zip2 (λ v y. f (g v) y) vs ys
zip2-map_left f g [] ys = refl
zip2-map_left f g (v ∷ vs) [] = refl
zip2-map_left f g (v ∷ vs) (y ∷ ys) = ap (λ zs. f (g v) y ∷ zs) (zip2-map_left f g vs ys)

pub and_assoc : (a b c : Bool) → ((a && b) && c) ≡ (a && (b && c))
and_assoc true b c = refl
and_assoc false b c = refl

pub and_false : (b : Bool) → (b && false) ≡ false
and_false b = grind (arith, nat_tests)

and_true : (b : Bool) → (b && true) ≡ b
and_true b = grind (arith, nat_tests)

-- the answer of an entry, by its number and whether it is one
pub cut_answer : (test : ℕ → Bool) (expected : Bool) (e : Option ℕ) → (as_expected expected (test (number_or_zero e)) && is_some e) ≡ answers test expected e
cut_answer test expected None = and_false (as_expected expected (test 0))
cut_answer test expected (Some x) = and_true (as_expected expected (test x))

-- past the last row no entry is there, whatever was found
pub cut_past : (test : ℕ → Bool) (expected was selection : Bool) (e : Option ℕ) → e ≡ None → (selection && is_some e) ≡ (was && answers test expected e)
cut_past test expected was selection None past = and_false selection ∙ sym (and_false was)
cut_past test expected was selection (Some x) past = absurd (grind (arith, ap is_some past))

-- so where it was written for each row, and cut with the not-null bitmap
pub cut_answers : (test : ℕ → Bool) (expected : Bool) (es : List (Option ℕ)) (selection not_null : List Bool)
    → selection ≡ map (λ e. test (number_or_zero e)) es → not_null ≡ map is_some es
    → zip2 (λ answer there. as_expected expected answer && there) selection not_null ≡ map (answers test expected) es
cut_answers test expected es selection not_null selection_is not_null_is =
    zip2_of_maps (λ (answer : Bool) (there : Bool). as_expected expected answer && there) (λ (e : Option ℕ). test (number_or_zero e)) is_some es selection_is not_null_is
    ∙ map_alike (λ (e : Option ℕ). as_expected expected (test (number_or_zero e)) && is_some e) (answers test expected) (λ e. Unit {0}) (λ e u. cut_answer test expected e) es (λ k d h. tt)

pub IfOk-same_bits : {X E : Type 0} (r : Result X E) (bits : X → List Bool) (xs ys : List Bool) → xs ≡ ys → IfOk r (λ b. bits b ≡ xs) → IfOk r (λ b. bits b ≡ ys)
IfOk-same_bits r bits xs ys same ok = IfOk-weaker r (λ b. bits b ≡ xs) (λ b. bits b ≡ ys) (λ b h. h ∙ same) ok

-- the parts of two numbers below the first component are nothing, so their lowest digits decide
pub nothing_below : (relation : Relation) → relates relation 0 0 ≡ true
nothing_below Equal = refl
nothing_below AtMost = refl

lt_or_eq : (d e : ℕ) → at_most_step true d e ≡ nat_le d e
lt_or_eq d e = grind (arith, nat_tests)

first_from : (relation : Relation) (d e : ℕ) → relates_step relation true d e ≡ relates relation d e
first_from Equal d e = refl
first_from AtMost d e = lt_or_eq d e

pub holds_first : {bs : List ℕ} → IsBaseList bs → (relation : Relation) (u v : ℕ) →
    relates relation (digit_of bs u 0) (digit_of bs v 0) ≡ relates relation (u % weight bs 1) (v % weight bs 1)
holds_first {bs} valid relation u v =
    let none : (n : ℕ) → n % 1 ≡ 0 = λ n. omega arith in
    sym (holds_more valid relation u v 0 valid.some
    ∙ ap (λ low. relates_step relation low (digit_of bs u 0) (digit_of bs v 0)) (ap₂ (relates relation) (none u) (none v) ∙ nothing_below relation)
    ∙ first_from relation (digit_of bs u 0) (digit_of bs v 0))

module _ {bs : List ℕ} (valid : IsBaseList bs) (relation : Relation) (n : ℕ) (es : List (Option ℕ)) where
  -- what the digits below component i say of each row
  abbrev pub low_answers : ℕ → List Bool
  low_answers i = map (λ e. relates relation (number_or_zero e % weight bs i) (n % weight bs i)) es

  pub low_answers_first : (d : ℕ) (selection : List Bool) (ds : List ℕ) → d ≡ digit_of bs n 0 → ds ≡ map (λ e. digit_of bs (number_or_zero e) 0) es
      → selection ≡ map (λ v. relates relation v d) ds → selection ≡ low_answers 1
  low_answers_first d selection ds d_is ds_is selection_is =
      selection_is ∙ ap₂ (λ (c : ℕ) (xs : List ℕ). map (λ v. relates relation v c) xs) d_is ds_is
      ∙ map_map (λ (v : ℕ). relates relation v (digit_of bs n 0)) (λ (e : Option ℕ). digit_of bs (number_or_zero e) 0) es
      ∙ map_alike _ _ (λ e. Unit {0}) (λ e u. holds_first valid relation (number_or_zero e) n) es (λ k d h. tt)

  pub low_answers_more : (i d : ℕ) (selection after : List Bool) (ds : List ℕ) → i < length bs → d ≡ digit_of bs n i → ds ≡ map (λ e. digit_of bs (number_or_zero e) i) es
      → selection ≡ low_answers i → after ≡ zip2 (λ low v. relates_step relation low v d) selection ds → after ≡ low_answers (i + 1)
  low_answers_more i d selection after ds within d_is ds_is selection_is after_is =
      after_is ∙ ap (λ (c : ℕ). zip2 (λ low v. relates_step relation low v c) selection ds) d_is
      ∙ zip2_of_maps (λ low v. relates_step relation low v (digit_of bs n i)) (λ (e : Option ℕ). relates relation (number_or_zero e % weight bs i) (n % weight bs i))
      (λ (e : Option ℕ). digit_of bs (number_or_zero e) i) es selection_is ds_is
      ∙ map_alike _ _ (λ e. Unit {0}) (λ e u. sym (holds_more valid relation (number_or_zero e) n i within)) es (λ k d h. tt)

  pub low_answers_all : n < product bs → All (λ e. number_or_zero e < product bs) es → low_answers (length bs) ≡ map (λ e. relates relation (number_or_zero e) n) es
  low_answers_all small below =
      map_alike _ _ (λ e. number_or_zero e < product bs)
      (λ e h. ap₂ (relates relation) (low_all bs (number_or_zero e) h) (low_all bs n small)) es below
