-- The answer over rows, from those over two parts of them.
use Rattle.std.proofs.Common.{◌≡◌, ℕ, ◌+◌, zero, suc, Bool, true, false, cond, List, [], ◌∷◌, ◌++◌, Option, Some, None, ℤ, length, get_or, map, filter, refl, sym, ap, ap₂, subst, ◌∙◌, inl, inr, add-one, arith, length-append, append-nil}
use Rattle.std.specs.Prelude.{◌+ℤ◌, filter_map, int_le, IsTrue}
use Rattle.std.specs.List.{range_with_len, cons_option}
use Rattle.std.proofs.lemmas.Bool.{cases_Bool}
use Rattle.std.proofs.lemmas.Bool.Decides.{nat_tests}
use Rattle.std.proofs.Math.IntN.{+ℤ_assoc, +ℤ_idl}
use Rattle.std.proofs.lemmas.Int.{ints}
use Rattle.std.proofs.lemmas.List.{length-map}
use Rattle.std.proofs.lemmas.List.Elements.{All-append, All-weaker, Contains-append_left, Contains-append_right, filter_map-append}
use Rattle.bsi_digits.specs.WholeNumbers.{signed_sum, IsSignedGreatestOf, IsSignedLeastOf}
use Rattle.bsi_rows.specs.Answers.{IsAnswer, IsTotal}
use Rattle.bsi_rows.specs.Rows.{entry_at, holds, row_at, selected, values, SourcedRow}
use Rattle.bsi_rows.specs.declared.query.Answer.{Answer}
use Rattle.bsi_rows.specs.declared.query.Answer.TheVariants.{Count as count_answer, Sum as sum_answer, Value as value_answer, Rows as rows_answer}
use Rattle.bsi_rows.specs.declared.query.Pred.{Pred}
use Rattle.bsi_rows.specs.declared.query.Query.{Query}
use Rattle.bsi_rows.specs.declared.query.Total.{Total}
use Rattle.bsi_rows.specs.declared.query.Total.TheVariants.{Count, Sum, Least, Greatest, Median, Rank, Rows}
use Rattle.bsi_projection.specs.Joined.{greater, joined, lesser, IsJoined}

-- ---- the rows that are selected, in place of their positions

range_suc : (a n : ℕ) → range_with_len (a + 1) n ≡ map suc (range_with_len a n)
range_suc a zero = refl
range_suc a (suc n) = ap₂ (λ k ks. k ∷ ks) (add-one a) (range_suc (a + 1) n)

cond-map : {X Y : Type 0} (f : X → Y) (b : Bool) (x : X) (xs : List X) (ys : List Y) → ys ≡ map f xs → cond b (f x ∷ ys) ys ≡ map f (cond b (x ∷ xs) xs)
cond-map f true x xs ys e = ap (λ zs. f x ∷ zs) e
cond-map f false x xs ys e = e

filter-map : {X Y : Type 0} (f : X → Y) (p : Y → Bool) (xs : List X) → filter p (map f xs) ≡ map f (filter (λ x. p (f x)) xs)
filter-map f p [] = refl
filter-map f p (x ∷ xs) = cond-map f (p (f x)) x (filter (λ y. p (f y)) xs) (filter p (map f xs)) (filter-map f p xs)

filter-append : {X : Type 0} (p : X → Bool) (xs ys : List X) → filter p (xs ++ ys) ≡ filter p xs ++ filter p ys
filter-append p [] ys = refl
filter-append p (x ∷ xs) ys = ap (λ zs. cond (p x) (x ∷ zs) zs) (filter-append p xs ys) ∙ by (p x)
  where
    by : (b : Bool) → cond b (x ∷ (filter p xs ++ filter p ys)) (filter p xs ++ filter p ys) ≡ cond b (x ∷ filter p xs) (filter p xs) ++ filter p ys
    by true = refl
    by false = refl

filter_map-map : {X Y Z : Type 0} (e : Y → Option Z) (f : X → Y) (ks : List X) → filter_map e (map f ks) ≡ filter_map (λ k. e (f k)) ks
filter_map-map e f [] = refl
filter_map-map e f (k ∷ ks) = ap (cons_option (e (f k))) (filter_map-map e f ks)

module _ {X : Type 0} (d : X) where
  later : (x : X) (xs : List X) (ks : List ℕ) → map (λ r. get_or (x ∷ xs) r d) (map suc ks) ≡ map (λ r. get_or xs r d) ks
  later x xs [] = refl
  later x xs (k ∷ ks) = ap (λ ys. get_or xs k d ∷ ys) (later x xs ks)

  each : (xs : List X) → map (λ r. get_or xs r d) (range_with_len 0 (length xs)) ≡ xs
  each [] = refl
  each (x ∷ xs) = ap (λ ys. x ∷ ys) (ap (map (λ r. get_or (x ∷ xs) r d)) (range_suc 0 (length xs)) ∙ later x xs (range_with_len 0 (length xs)) ∙ each xs)

module _ (pred : Pred) where
  -- what stands at the positions
  rows-selected : (rows : List SourcedRow) → map (row_at rows) (selected pred rows) ≡ filter (λ row. holds pred row.1) rows
  rows-selected rows =
      sym (filter-map (row_at rows) (λ row. holds pred row.1) (range_with_len 0 (length rows))) ∙ ap (filter (λ row. holds pred row.1)) (each (0, []) rows)

  count-selected : (rows : List SourcedRow) → length (selected pred rows) ≡ length (filter (λ row. holds pred row.1) rows)
  count-selected rows = sym (length-map (selected pred rows) (row_at rows)) ∙ ap length (rows-selected rows)

  values-selected : (c : ℕ) (rows : List SourcedRow) → values c pred rows ≡ filter_map (λ row. entry_at row.1 c) (filter (λ row. holds pred row.1) rows)
  values-selected c rows =
      sym (filter_map-map (λ row. entry_at row.1 c) (row_at rows) (selected pred rows)) ∙ ap (filter_map (λ row. entry_at row.1 c)) (rows-selected rows)

  pub count-joined : (xs ys : List SourcedRow) → length (selected pred (xs ++ ys)) ≡ length (selected pred xs) + length (selected pred ys)
  count-joined xs ys =
      count-selected (xs ++ ys) ∙ ap length (filter-append (λ row. holds pred row.1) xs ys)
      ∙ length-append (filter (λ row. holds pred row.1) xs) (filter (λ row. holds pred row.1) ys)
      ∙ ap₂ ◌+◌ (sym (count-selected xs)) (sym (count-selected ys))

  pub values-joined : (c : ℕ) (xs ys : List SourcedRow) → values c pred (xs ++ ys) ≡ values c pred xs ++ values c pred ys
  values-joined c xs ys =
      values-selected c (xs ++ ys) ∙ ap (filter_map (λ row. entry_at row.1 c)) (filter-append (λ row. holds pred row.1) xs ys)
      ∙ filter_map-append (λ row. entry_at row.1 c) (filter (λ row. holds pred row.1) xs) (filter (λ row. holds pred row.1) ys)
      ∙ ap₂ ◌++◌ (sym (values-selected c xs)) (sym (values-selected c ys))

-- ---- the totals

sum-joined : (ns ms : List ℤ) → signed_sum (ns ++ ms) ≡ signed_sum ns +ℤ signed_sum ms
unfolding signed_sum
sum-joined [] ms = sym (+ℤ_idl (signed_sum ms))
sum-joined (n ∷ ns) ms = ap (λ s. n +ℤ s) (sum-joined ns ms) ∙ sym (+ℤ_assoc n (signed_sum ns) (signed_sum ms))

at_most-through : (x y z : ℤ) → int_le x y ≡ true → int_le y z ≡ true → int_le x z ≡ true
at_most-through x y z first second = grind (arith, ints, nat_tests)

at_most-or : (x y : ℤ) → int_le x y ≡ false → int_le y x ≡ true
at_most-or x y not = grind (arith, ints, nat_tests)

least-joined : (ns ms : List ℤ) (a b : Option ℤ) → IsSignedLeastOf ns a → IsSignedLeastOf ms b → IsSignedLeastOf (ns ++ ms) (lesser a b)
least-joined ns ms None None one two = ap₂ ◌++◌ one two
least-joined ns ms None (Some y) one two = subst (λ (zs : List ℤ). IsSignedLeastOf (zs ++ ms) (Some y)) (sym one) two
least-joined ns ms (Some x) None one two = subst (λ (zs : List ℤ). IsSignedLeastOf (ns ++ zs) (Some x)) (sym two) (subst (λ (zs : List ℤ). IsSignedLeastOf zs (Some x)) (sym (append-nil ns)) one)
least-joined ns ms (Some x) (Some y) one two = elim (cases_Bool (int_le x y)) [
  | inl first ↦
      subst (λ (b : Bool). IsSignedLeastOf (ns ++ ms) (cond b (Some x) (Some y))) (sym first) (record {
        member = Contains-append_left ns ms x one.member;
        none_below = All-append (λ z. IsTrue (int_le x z)) ns ms one.none_below
            (All-weaker (λ z. IsTrue (int_le y z)) (λ z. IsTrue (int_le x z)) (λ z above. at_most-through x y z first above) ms two.none_below);
      })
  | inr other ↦
      subst (λ (b : Bool). IsSignedLeastOf (ns ++ ms) (cond b (Some x) (Some y))) (sym other) (record {
        member = Contains-append_right ns ms y two.member;
        none_below = All-append (λ z. IsTrue (int_le y z)) ns ms
            (All-weaker (λ z. IsTrue (int_le x z)) (λ z. IsTrue (int_le y z)) (λ z above. at_most-through y x z (at_most-or x y other) above) ns one.none_below) two.none_below;
      })
]

greatest-joined : (ns ms : List ℤ) (a b : Option ℤ) → IsSignedGreatestOf ns a → IsSignedGreatestOf ms b → IsSignedGreatestOf (ns ++ ms) (greater a b)
greatest-joined ns ms None None one two = ap₂ ◌++◌ one two
greatest-joined ns ms None (Some y) one two = subst (λ (zs : List ℤ). IsSignedGreatestOf (zs ++ ms) (Some y)) (sym one) two
greatest-joined ns ms (Some x) None one two = subst (λ (zs : List ℤ). IsSignedGreatestOf (ns ++ zs) (Some x)) (sym two) (subst (λ (zs : List ℤ). IsSignedGreatestOf zs (Some x)) (sym (append-nil ns)) one)
greatest-joined ns ms (Some x) (Some y) one two = elim (cases_Bool (int_le y x)) [
  | inl first ↦
      subst (λ (b : Bool). IsSignedGreatestOf (ns ++ ms) (cond b (Some x) (Some y))) (sym first) (record {
        member = Contains-append_left ns ms x one.member;
        none_above = All-append (λ z. IsTrue (int_le z x)) ns ms one.none_above
            (All-weaker (λ z. IsTrue (int_le z y)) (λ z. IsTrue (int_le z x)) (λ z below. at_most-through z y x below first) ms two.none_above);
      })
  | inr other ↦
      subst (λ (b : Bool). IsSignedGreatestOf (ns ++ ms) (cond b (Some x) (Some y))) (sym other) (record {
        member = Contains-append_right ns ms y two.member;
        none_above = All-append (λ z. IsTrue (int_le z y)) ns ms
            (All-weaker (λ z. IsTrue (int_le z x)) (λ z. IsTrue (int_le z y)) (λ z below. at_most-through z x y below (at_most-or y x other)) ns one.none_above) two.none_above;
      })
]

-- ---- answers

module _ (pred : Pred) (xs ys : List SourcedRow) where
  total-joined : (total : Total) (a b : Answer) → IsJoined total → IsTotal total pred xs a → IsTotal total pred ys b → IsTotal total pred (xs ++ ys) (joined total a b)
  total-joined Count a b may one two = ap₂ (joined Count) one two ∙ ap count_answer (sym (count-joined pred xs ys))
  total-joined (Sum c) a b may one two =
      ap₂ (joined (Sum c)) one two ∙ ap sum_answer (sym (sum-joined (values c pred xs) (values c pred ys)) ∙ ap signed_sum (sym (values-joined pred c xs ys)))
  total-joined (Least c) (count_answer n) b may one two = absurd one
  total-joined (Least c) (sum_answer n) b may one two = absurd one
  total-joined (Least c) (rows_answer n) b may one two = absurd one
  total-joined (Least c) (value_answer x) (count_answer n) may one two = absurd two
  total-joined (Least c) (value_answer x) (sum_answer n) may one two = absurd two
  total-joined (Least c) (value_answer x) (rows_answer n) may one two = absurd two
  total-joined (Least c) (value_answer x) (value_answer y) may one two =
      subst (λ (ns : List ℤ). IsSignedLeastOf ns (lesser x y)) (sym (values-joined pred c xs ys)) (least-joined (values c pred xs) (values c pred ys) x y one two)
  total-joined (Greatest c) (count_answer n) b may one two = absurd one
  total-joined (Greatest c) (sum_answer n) b may one two = absurd one
  total-joined (Greatest c) (rows_answer n) b may one two = absurd one
  total-joined (Greatest c) (value_answer x) (count_answer n) may one two = absurd two
  total-joined (Greatest c) (value_answer x) (sum_answer n) may one two = absurd two
  total-joined (Greatest c) (value_answer x) (rows_answer n) may one two = absurd two
  total-joined (Greatest c) (value_answer x) (value_answer y) may one two =
      subst (λ (ns : List ℤ). IsSignedGreatestOf ns (greater x y)) (sym (values-joined pred c xs ys)) (greatest-joined (values c pred xs) (values c pred ys) x y one two)
  total-joined (Median c) a b may one two = absurd may
  total-joined (Rank c rank) a b may one two = absurd may
  total-joined Rows a b may one two = absurd may

pub answer-joined : (query : Query) (xs ys : List SourcedRow) (a b : Answer) → IsJoined query.total → IsAnswer query xs a → IsAnswer query ys b → IsAnswer query (xs ++ ys) (joined query.total a b)
answer-joined query xs ys a b may one two = total-joined query.pred xs ys query.total a b may one two
