-- What a query finds in rows, by the rows with their feeders and numbers.
use Rattle.std.proofs.Common.{◌≡◌, ℕ, suc, ◌+◌, Bool, true, false, cond, List, [], ◌∷◌, ◌++◌, length, map, filter, filter_map, take, Option, Some, None, ℤ, refl, ap, ap₂, sym, ◌∙◌, subst, arith, slice_index_or, length-append}
use Rattle.std.specs.Prelude.{IsTrue, count_by, int_le, int_lt, nat_eq, slice_index}
use Rattle.std.specs.List.{cons_option, range_with_len}
use Rattle.std.proofs.lemmas.List.Sorted.{All-permutation, Contains-permutation, IsPermutation-trans, sum_by-IsPermutation}
use Rattle.std.proofs.lemmas.List.Sums.{sum_by-append}
use Rattle.bsi_rows.specs.Numbering.{number_within, numbered_at}
use Rattle.bsi_digits.specs.Ranks.{IsSignedRankOf}
use Rattle.bsi_digits.specs.WholeNumbers.{IsSignedGreatestOf, IsSignedLeastOf, IsSignedMedianOf}
use Rattle.bsi_rows.specs.Answers.{IsTotal}
use Rattle.bsi_rows.specs.Rows.{entry_at, feeders_of, holds, row_at, selected, values, Entries, SourcedRow}
use Rattle.bsi_rows.specs.declared.query.Answer.{Answer}
use Rattle.bsi_rows.specs.declared.query.Answer.TheVariants.{Count as count_answer, Sum as sum_answer, Value as value_answer, Rows as rows_answer}
use Rattle.bsi_rows.specs.declared.query.Pred.{Pred}
use Rattle.bsi_rows.specs.declared.query.Query.{Query}
use Rattle.bsi_rows.specs.declared.query.Total.{Total}
use Rattle.bsi_rows.specs.declared.query.Total.TheVariants.{Count, Sum, Least, Greatest, Median, Rank, Rows}
use Rattle.bsi_aggregates.specs.QuestionReplies.{IsArrangedAnswer}
use Rattle.bsi_answers.specs.Mixes.{HaveSameFeederRows}
use Rattle.bsi_answers.proofs.Mixing.{bump, same_tags, tags, RowCounts, Tag}
use Rattle.bsi_answers.proofs.Perms.{as_long, chosen, filtered, flipped, is_permutation, mapped, of_none, same_sum, Perm}

-- ---- lists

push_assoc : {X : Type 0} (xs : List X) (x : X) (ys : List X) → (xs ++ x ∷ []) ++ ys ≡ xs ++ x ∷ ys
push_assoc [] x ys = refl
push_assoc (z ∷ xs) x ys = ap (λ zs. z ∷ zs) (push_assoc xs x ys)

at_middle : {X : Type 0} (xs : List X) (x : X) (ys : List X) (d : X) → slice_index_or (xs ++ x ∷ ys) (length xs) d ≡ x
at_middle [] x ys d = refl
at_middle (z ∷ xs) x ys d = at_middle xs x ys d

take_front : {X : Type 0} (xs ys : List X) → take (length xs) (xs ++ ys) ≡ xs
take_front [] ys = refl
take_front (x ∷ xs) ys = ap (λ zs. x ∷ zs) (take_front xs ys)

map_append : {X Y : Type 0} (f : X → Y) (xs ys : List X) → map f (xs ++ ys) ≡ map f xs ++ map f ys
map_append f [] ys = refl
map_append f (x ∷ xs) ys = ap (λ zs. f x ∷ zs) (map_append f xs ys)

map_long : {X Y : Type 0} (f : X → Y) (xs : List X) → length (map f xs) ≡ length xs
map_long f [] = refl
map_long f (x ∷ xs) = ap suc (map_long f xs)

map_map : {X Y Z : Type 0} (f : X → Y) (h : Y → Z) (xs : List X) → map (λ x. h (f x)) xs ≡ map h (map f xs)
map_map f h [] = refl
map_map f h (x ∷ xs) = ap (λ zs. h (f x) ∷ zs) (map_map f h xs)

choose_map : {X Y Z : Type 0} (f : X → Y) (h : Y → Option Z) (xs : List X) → filter_map (λ x. h (f x)) xs ≡ filter_map h (map f xs)
choose_map f h [] = refl
choose_map f h (x ∷ xs) = ap (λ zs. cons_option (h (f x)) zs) (choose_map f h xs)

pick_by : {X Y : Type 0} (f : X → Y) (x : X) (xs : List X) (ys : List Y) (b : Bool) → map f xs ≡ ys → map f (cond b (x ∷ xs) xs) ≡ cond b (f x ∷ ys) ys
pick_by f x xs ys true e = ap (λ zs. f x ∷ zs) e
pick_by f x xs ys false e = e

pick_map : {X Y : Type 0} (f : X → Y) (p : Y → Bool) (xs : List X) → map f (filter (λ x. p (f x)) xs) ≡ filter p (map f xs)
pick_map f p [] = refl
pick_map f p (x ∷ xs) = pick_by f x (filter (λ y. p (f y)) xs) (filter p (map f xs)) (p (f x)) (pick_map f p xs)

-- ---- each row with its feeder and its number

tag_at : List SourcedRow → ℕ → Tag
tag_at rows r = ((slice_index (feeders_of rows) r, number_within (feeders_of rows) r), (row_at rows r).1)

abbrev counted : List SourcedRow → RowCounts
counted before = λ g. count_by (λ f. nat_eq f g) (feeders_of before)

tag_here : (before : List SourcedRow) (row : SourcedRow) (rows : List SourcedRow) → tag_at (before ++ row ∷ rows) (length before) ≡ ((row.0, counted before row.0), row.1)
unfolding tag_at
tag_here before row rows =
    let n : ℕ = length before in
    let fs : List ℕ = feeders_of (before ++ row ∷ rows) in
    let parts : fs ≡ feeders_of before ++ row.0 ∷ feeders_of rows = map_append (λ (r : SourcedRow). r.0) before (row ∷ rows) in
    let long : n ≡ length (feeders_of before) = sym (map_long (λ (r : SourcedRow). r.0) before) in
    let feeder : slice_index fs n ≡ row.0 =
    ap₂ (λ xs m. slice_index xs m) parts long ∙ at_middle (feeders_of before) row.0 (feeders_of rows) 0 in
    let first_rows : take n fs ≡ feeders_of before = ap₂ (λ xs m. take m xs) parts long ∙ take_front (feeders_of before) (row.0 ∷ feeders_of rows) in
    let number : number_within fs n ≡ counted before row.0 = ap₂ (λ f xs. count_by (λ g. nat_eq g f) xs) feeder first_rows in
    let entries : (row_at (before ++ row ∷ rows) n).1 ≡ row.1 = ap (λ (r : SourcedRow). r.1) (at_middle before row rows (0, [])) in
    let pair : ℕ → ℕ → ℕ × ℕ = λ f m. (f, m) in
    let tag : ℕ × ℕ → Entries → Tag = λ place e. (place, e) in
    ap₂ tag (ap₂ pair feeder number) entries

count_by_one : (b : Bool) (n : ℕ) → n + (0 + cond b 1 0) ≡ cond b (suc n) n
count_by_one true n = omega arith
count_by_one false n = omega arith

counted_at : (before : List SourcedRow) (row : SourcedRow) (g : ℕ) → counted (before ++ row ∷ []) g ≡ bump (counted before) row.0 g
counted_at before row g =
    ap (λ xs. count_by (λ f. nat_eq f g) xs) (map_append (λ (r : SourcedRow). r.0) before (row ∷ []))
    ∙ (sum_by-append (λ f. cond (nat_eq f g) 1 0) (feeders_of before) (row.0 ∷ []) ∙ count_by_one (nat_eq row.0 g) (counted before g))

counted_push : (before : List SourcedRow) (row : SourcedRow) → counted (before ++ row ∷ []) ≡ bump (counted before) row.0
counted_push before row i = λ g. counted_at before row g i

tags_are : (before rows : List SourcedRow) → map (tag_at (before ++ rows)) (range_with_len (length before) (length rows)) ≡ tags (counted before) rows
tags_are before [] = refl
tags_are before (row ∷ rows) =
    let more : List SourcedRow = before ++ row ∷ [] in
    let whole : more ++ rows ≡ before ++ row ∷ rows = push_assoc before row rows in
    let long : length more ≡ length before + 1 = omega (arith, length-append before (row ∷ [])) in
    let rest : map (tag_at (before ++ row ∷ rows)) (range_with_len (length before + 1) (length rows)) ≡ tags (bump (counted before) row.0) rows =
    ap₂ (λ (all : List SourcedRow) n. map (tag_at all) (range_with_len n (length rows))) (sym whole) (sym long)
    ∙ (tags_are more rows ∙ ap (λ (c : RowCounts). tags c rows) (counted_push before row)) in
    ap₂ (λ (t : Tag) ts. t ∷ ts) (tag_here before row rows) rest

-- ---- what a predicate finds

found : Pred → List SourcedRow → List Tag
found pred rows = filter (λ tag. holds pred tag.1) (tags (counted []) rows)

found_is : (pred : Pred) (rows : List SourcedRow) → map (tag_at rows) (selected pred rows) ≡ found pred rows
unfolding found tag_at
found_is pred rows =
    pick_map (tag_at rows) (λ (tag : Tag). holds pred tag.1) (range_with_len 0 (length rows)) ∙ ap (λ ts. filter (λ (tag : Tag). holds pred tag.1) ts) (tags_are [] rows)

numbers_are : (pred : Pred) (rows : List SourcedRow) → numbered_at (feeders_of rows) (selected pred rows) ≡ map (λ tag. tag.0) (found pred rows)
unfolding tag_at
numbers_are pred rows = map_map (tag_at rows) (λ (tag : Tag). tag.0) (selected pred rows) ∙ ap (λ ts. map (λ (tag : Tag). tag.0) ts) (found_is pred rows)

values_are : (c : ℕ) (pred : Pred) (rows : List SourcedRow) → values c pred rows ≡ filter_map (λ tag. entry_at tag.1 c) (found pred rows)
unfolding tag_at
values_are c pred rows =
    choose_map (tag_at rows) (λ (tag : Tag). entry_at tag.1 c) (selected pred rows) ∙ ap (λ ts. filter_map (λ (tag : Tag). entry_at tag.1 c) ts) (found_is pred rows)

many_are : (pred : Pred) (rows : List SourcedRow) → length (selected pred rows) ≡ length (found pred rows)
many_are pred rows = sym (map_long (tag_at rows) (selected pred rows)) ∙ ap (λ (ts : List Tag). length ts) (found_is pred rows)

-- ---- two lists with the same rows of each feeder

module _ (a b : List SourcedRow) (alike : HaveSameFeederRows a b) (pred : Pred) where
  same_found : Perm (found pred a) (found pred b)
  unfolding found
  same_found = filtered (λ (tag : Tag). holds pred tag.1) (tags (counted []) a) (tags (counted []) b) (same_tags (counted []) a b alike)

  same_many : length (selected pred a) ≡ length (selected pred b)
  same_many = many_are pred a ∙ (as_long (found pred a) (found pred b) same_found ∙ sym (many_are pred b))

  same_values : (c : ℕ) → Perm (values c pred a) (values c pred b)
  same_values c =
      let h : Tag → Option ℤ = λ tag. entry_at tag.1 c in
      subst (λ xs. Perm xs (values c pred b)) (sym (values_are c pred a))
      (subst (λ ys. Perm (filter_map h (found pred a)) ys) (sym (values_are c pred b)) (chosen h (found pred a) (found pred b) same_found))

  same_numbers : Perm (numbered_at (feeders_of a) (selected pred a)) (numbered_at (feeders_of b) (selected pred b))
  same_numbers =
      let h : Tag → ℕ × ℕ = λ tag. tag.0 in
      subst (λ xs. Perm xs (numbered_at (feeders_of b) (selected pred b))) (sym (numbers_are pred a))
      (subst (λ ys. Perm (map h (found pred a)) ys) (sym (numbers_are pred b)) (mapped h (found pred a) (found pred b) same_found))

-- ---- totals of a list in another order

module _ (xs ys : List ℤ) (p : Perm xs ys) where
  least_too : (o : Option ℤ) → IsSignedLeastOf xs o → IsSignedLeastOf ys o
  least_too None is = of_none xs ys p is
  least_too (Some x) is =
      let perm = is_permutation xs ys p in record {
        member = Contains-permutation xs ys x perm is.member;
        none_below = All-permutation (λ y. IsTrue (int_le x y)) xs ys perm is.none_below;
      }

  greatest_too : (o : Option ℤ) → IsSignedGreatestOf xs o → IsSignedGreatestOf ys o
  greatest_too None is = of_none xs ys p is
  greatest_too (Some x) is =
      let perm = is_permutation xs ys p in record {
        member = Contains-permutation xs ys x perm is.member;
        none_above = All-permutation (λ y. IsTrue (int_le y x)) xs ys perm is.none_above;
      }

  median_too : (o : Option ℤ) → IsSignedMedianOf xs o → IsSignedMedianOf ys o
  median_too None is = of_none xs ys p is
  median_too (Some x) is =
      let perm = is_permutation xs ys p in
      let long = as_long xs ys p in
      let at_most = sum_by-IsPermutation (λ y. cond (int_le y x) 1 0) xs ys perm in
      let below = sum_by-IsPermutation (λ y. cond (int_lt y x) 1 0) xs ys perm in record {
        member = Contains-permutation xs ys x perm is.member;
        half = omega (arith, long, at_most, is.half);
        fewer_below = omega (arith, long, below, is.fewer_below);
      }

  rank_too : (rank : ℕ) (o : Option ℤ) → IsSignedRankOf rank xs o → IsSignedRankOf rank ys o
  rank_too rank None is = omega (arith, as_long xs ys p, is)
  rank_too rank (Some x) is =
      let perm = is_permutation xs ys p in
      let at_most = sum_by-IsPermutation (λ y. cond (int_le y x) 1 0) xs ys perm in
      let below = sum_by-IsPermutation (λ y. cond (int_lt y x) 1 0) xs ys perm in
      (omega (arith, below, is.0), omega (arith, at_most, is.1))

-- ---- answers

module _ (a b : List SourcedRow) (alike : HaveSameFeederRows a b) (pred : Pred) where
  -- a total that is no list of rows
  plain_too : (total : Total) (answer : Answer) → IsTotal total pred a answer → (total ≡ Rows → ⊥) → IsTotal total pred b answer
  plain_too Count answer is plain = is ∙ ap (λ n. count_answer n) (same_many a b alike pred)
  plain_too (Sum c) answer is plain = is ∙ ap (λ n. sum_answer n) (same_sum (values c pred a) (values c pred b) (same_values a b alike pred c))
  plain_too (Least c) (value_answer o) is plain = least_too (values c pred a) (values c pred b) (same_values a b alike pred c) o is
  plain_too (Least c) (count_answer n) is plain = absurd is
  plain_too (Least c) (sum_answer n) is plain = absurd is
  plain_too (Least c) (rows_answer n) is plain = absurd is
  plain_too (Greatest c) (value_answer o) is plain = greatest_too (values c pred a) (values c pred b) (same_values a b alike pred c) o is
  plain_too (Greatest c) (count_answer n) is plain = absurd is
  plain_too (Greatest c) (sum_answer n) is plain = absurd is
  plain_too (Greatest c) (rows_answer n) is plain = absurd is
  plain_too (Median c) (value_answer o) is plain = median_too (values c pred a) (values c pred b) (same_values a b alike pred c) o is
  plain_too (Median c) (count_answer n) is plain = absurd is
  plain_too (Median c) (sum_answer n) is plain = absurd is
  plain_too (Median c) (rows_answer n) is plain = absurd is
  plain_too (Rank c rank) (value_answer o) is plain = rank_too (values c pred a) (values c pred b) (same_values a b alike pred c) rank o is
  plain_too (Rank c rank) (count_answer n) is plain = absurd is
  plain_too (Rank c rank) (sum_answer n) is plain = absurd is
  plain_too (Rank c rank) (rows_answer n) is plain = absurd is
  plain_too Rows answer is plain = absurd (plain refl)

-- an answer as its line shows it is so for any list with the same rows of each feeder
pub shown_too : (a b : List SourcedRow) → HaveSameFeederRows a b → (query : Query) (answer : Answer) → IsArrangedAnswer query a answer → IsArrangedAnswer query b answer
shown_too a b alike query (rows_answer listed) is = (
  is.0,
  IsPermutation-trans (numbered_at (feeders_of b) (selected query.pred b)) (numbered_at (feeders_of a) (selected query.pred a)) listed.items
      (is_permutation (numbered_at (feeders_of b) (selected query.pred b)) (numbered_at (feeders_of a) (selected query.pred a))
      (flipped (numbered_at (feeders_of a) (selected query.pred a)) (numbered_at (feeders_of b) (selected query.pred b)) (same_numbers a b alike query.pred))) is.1,
  is.2,
)
shown_too a b alike query (count_answer n) is = plain_too a b alike query.pred query.total (count_answer n) is (no_rows query.total is)
  where
    no_rows : (total : Total) → IsTotal total query.pred a (count_answer n) → total ≡ Rows → ⊥
    no_rows total is same = subst (λ t. IsTotal t query.pred a (count_answer n)) same is
shown_too a b alike query (sum_answer n) is = plain_too a b alike query.pred query.total (sum_answer n) is (no_rows query.total is)
  where
    no_rows : (total : Total) → IsTotal total query.pred a (sum_answer n) → total ≡ Rows → ⊥
    no_rows total is same = subst (λ t. IsTotal t query.pred a (sum_answer n)) same is
shown_too a b alike query (value_answer n) is = plain_too a b alike query.pred query.total (value_answer n) is (no_rows query.total is)
  where
    no_rows : (total : Total) → IsTotal total query.pred a (value_answer n) → total ≡ Rows → ⊥
    no_rows total is same = subst (λ t. IsTotal t query.pred a (value_answer n)) same is
