-- The counts of rows by feeder, and the numbers of rows among their feeders', one row further.
use Rattle.std.proofs.Common.{◌≡◌, ◌≢◌, ℕ, ◌+◌, ◌-◌, ◌<◌, ◌≤◌, All, zero, suc, replicate, Bool, true, false, cond, List, [], ◌∷◌, ◌++◌, length, drop, filter, take, set, get_or, refl, sym, ap, ap₂, subst, zero-add, ◌∙◌, arith, add-one, get_or-set_same, get_or-set_other, inl, inr}
use Rattle.std.specs.Prelude.{count_by, nat_eq, slice_index_or}
use Rattle.std.specs.List.{range_with_len}
use Rattle.std.proofs.lemmas.Bool.{cases_Bool}
use Rattle.std.proofs.lemmas.Bool.Decides.{nat_tests}
use Rattle.std.proofs.lemmas.List.{drop-take, get_or-append_right, get_or-replicate, length-append, length-replicate, length-take-le, map-append, take-append-le, take-take, take_more}
use Rattle.std.proofs.lemmas.List.Elements.{All-filter, All-from_get_or, All-get_or, filter-append}
use Rattle.std.proofs.lemmas.List.FromFn.{get_or-range_with_len, length-range_with_len}
use Rattle.std.proofs.lemmas.List.Sums.{count_by-le-length, count_by_more_yes, count_by_more_no, sum_by-take-drop}
use Rattle.bsi_bits.specs.BitList.{set_positions}
use Rattle.bsi_rows.specs.Numbering.{numbered_at, number_within, count_before}
use Rattle.bsi_origins.specs.Origins.{AreCountsBefore}

-- a row of a run behind other rows
run_row : (rows : List ℕ) (feeder n k : ℕ) → k < n → get_or (rows ++ replicate n feeder) (length rows + k) 0 ≡ feeder
run_row rows feeder n k below =
    get_or-append_right rows (replicate n feeder) (length rows) (length rows + k) 0 refl (omega arith)
    ∙ ap (λ j. get_or (replicate n feeder) j 0) (omega arith) ∙ get_or-replicate n k feeder 0 below

-- no count is more than the rows
pub count_before-le : (rows : List ℕ) (r f : ℕ) → r ≤ length rows → count_before rows r f ≤ r
count_before-le rows r f within = omega (arith, count_by-le-length (λ feeder. nat_eq feeder f) (take r rows), length-take-le r rows within)

-- rows further on change none
pub count_before-append : (rows more : List ℕ) (r f : ℕ) → r ≤ length rows → count_before (rows ++ more) r f ≡ count_before rows r f
count_before-append rows more r f within = ap (count_by (λ feeder. nat_eq feeder f)) (take-append-le r rows more within)

-- each row of a run counts for its feeder
pub count_before-run : (rows : List ℕ) (feeder n k : ℕ) → k ≤ n → count_before (rows ++ replicate n feeder) (length rows + k) feeder ≡ count_before rows (length rows) feeder + k
count_before-run rows feeder n zero within =
    ap (λ r. count_before (rows ++ replicate n feeder) r feeder) (omega arith) ∙ count_before-append rows (replicate n feeder) (length rows) feeder (omega arith) ∙ omega arith
count_before-run rows feeder n (suc k) within =
    let all = rows ++ replicate n feeder in
    let there : length rows + k < length all = omega (arith, within, length-append rows (replicate n feeder), length-replicate n feeder) in
    let is : get_or all (length rows + k) 0 ≡ feeder = run_row rows feeder n k (omega arith) in
    ap (λ r. count_before all r feeder) (omega arith)
    ∙ count_by_more_yes (λ f. nat_eq f feeder) all (length rows + k) 0 there (grind (arith, nat_tests, is))
    ∙ ap (λ c. c + 1) (count_before-run rows feeder n k (omega arith)) ∙ omega arith

-- and for no other
pub count_before-others : (rows : List ℕ) (feeder f n k : ℕ) → f ≢ feeder → k ≤ n → count_before (rows ++ replicate n feeder) (length rows + k) f ≡ count_before rows (length rows) f
count_before-others rows feeder f n zero other within =
    ap (λ r. count_before (rows ++ replicate n feeder) r f) (omega arith) ∙ count_before-append rows (replicate n feeder) (length rows) f (omega arith)
count_before-others rows feeder f n (suc k) other within =
    let all = rows ++ replicate n feeder in
    let there : length rows + k < length all = omega (arith, within, length-append rows (replicate n feeder), length-replicate n feeder) in
    let is : get_or all (length rows + k) 0 ≡ feeder = run_row rows feeder n k (omega arith) in
    ap (λ r. count_before all r f) (omega arith)
    ∙ count_by_more_no (λ g. nat_eq g f) all (length rows + k) 0 there (grind (arith, nat_tests, is, other))
    ∙ count_before-others rows feeder f n k other (omega arith)

-- before the first row each feeder has none
pub counted_none : (n f : ℕ) → let count : ℕ = get_or (replicate n 0) f 0 in count ≡ 0
counted_none zero f = refl
counted_none (suc n) zero = refl
counted_none (suc n) (suc f) = counted_none n f

-- one feeder alone has them all
pub counted_alone : (rows : List ℕ) (r : ℕ) → r ≤ length rows → All (λ feeder. feeder < 1) rows → count_before rows r 0 ≡ r
counted_alone rows zero within from = refl
counted_alone rows (suc r) within from =
    let there : r < length rows = omega arith in
    let first : get_or rows r 0 < 1 = All-get_or (λ feeder. feeder < 1) rows r 0 there from in
    ap (λ k. count_before rows k 0) (sym (add-one r))
    ∙ count_by_more_yes (λ feeder. nat_eq feeder 0) rows r 0 there (grind (arith, nat_tests, first))
    ∙ ap (λ k. k + 1) (counted_alone rows r (omega arith) from) ∙ add-one r

module _ (feeders : ℕ) (counts rows : List ℕ) (r : ℕ) (long : feeders ≤ length counts) (within : r < length rows) (small : get_or rows r 0 < feeders) where
  -- the row's feeder has one more
  pub counted_more : AreCountsBefore feeders rows r counts
      → AreCountsBefore feeders rows (r + 1) (set counts (get_or rows r 0) (get_or counts (get_or rows r 0) 0 + 1))
  counted_more counted f below = elim (cases_Bool (nat_eq (get_or rows r 0) f)) [
    | inl same ↦
        let is : get_or rows r 0 ≡ f = grind (arith, nat_tests, same) in
        let there : f < length counts = omega arith in
        ap (λ k. get_or (set counts k (get_or counts k 0 + 1)) f 0) is
        ∙ get_or-set_same counts f (get_or counts f 0 + 1) 0 there
        ∙ ap (λ n. n + 1) (counted f below)
        ∙ sym (count_by_more_yes (λ feeder. nat_eq feeder f) rows r 0 within same)
    | inr other ↦
        let apart : f ≢ get_or rows r 0 = λ e. grind (arith, nat_tests, other) in
        get_or-set_other counts (get_or rows r 0) f (get_or counts (get_or rows r 0) 0 + 1) 0 apart
        ∙ counted f below ∙ sym (count_by_more_no (λ feeder. nat_eq feeder f) rows r 0 within other)
  ]

next : (a n : ℕ) → a + 1 + n ≡ a + suc n
next a n = omega arith

-- the numbers from a on that pass a test rise, and end before a + n
module _ (p : ℕ → Bool) where
  from-cons : (a : ℕ) (rest : List ℕ) (end : ℕ) → a ≤ end → ((j : ℕ) → a + 1 ≤ get_or rest j end) → (b : Bool) (j : ℕ)
      → a ≤ get_or (cond b (a ∷ rest) rest) j end
  from-cons a rest end before later true zero = omega arith
  from-cons a rest end before later true (suc j) = omega (arith, later j)
  from-cons a rest end before later false j = omega (arith, later j)

  passed-from : (a n j : ℕ) → a ≤ get_or (filter p (range_with_len a n)) j (a + n)
  passed-from a zero j = omega arith
  passed-from a (suc n) j =
      from-cons a (filter p (range_with_len (a + 1) n)) (a + suc n) (omega arith)
      (λ k. subst (λ end. a + 1 ≤ get_or (filter p (range_with_len (a + 1) n)) k end) (next a n) (passed-from (a + 1) n k)) (p a) j

  rising-cons : (a : ℕ) (rest : List ℕ) (end : ℕ) → a + 1 ≤ get_or rest 0 end → ((j : ℕ) → get_or rest j end ≤ get_or rest (suc j) end) → (b : Bool) (j : ℕ)
      → get_or (cond b (a ∷ rest) rest) j end ≤ get_or (cond b (a ∷ rest) rest) (suc j) end
  rising-cons a rest end first later true zero = omega (arith, first)
  rising-cons a rest end first later true (suc j) = later j
  rising-cons a rest end first later false j = later j

  passed-rising : (a n j : ℕ) → get_or (filter p (range_with_len a n)) j (a + n) ≤ get_or (filter p (range_with_len a n)) (suc j) (a + n)
  passed-rising a zero j = omega arith
  passed-rising a (suc n) j =
      let rest = filter p (range_with_len (a + 1) n) in
      rising-cons a rest (a + suc n) (subst (λ end. a + 1 ≤ get_or rest 0 end) (next a n) (passed-from (a + 1) n 0))
      (λ k. subst (λ end. get_or rest k end ≤ get_or rest (suc k) end) (next a n) (passed-rising (a + 1) n k)) (p a) j

module _ (bits : List Bool) where
  -- the places of set bits rise
  pub places-rising : (j : ℕ) → get_or (set_positions bits) j (length bits) ≤ get_or (set_positions bits) (j + 1) (length bits)
  places-rising j =
      subst (λ k. get_or (set_positions bits) j (length bits) ≤ get_or (set_positions bits) k (length bits)) (sym (add-one j))
      (subst (λ end. get_or (set_positions bits) j end ≤ get_or (set_positions bits) (suc j) end) (zero-add (length bits))
      (passed-rising (λ i. slice_index_or bits i false) 0 (length bits) j))

  -- each is one of the bits'
  pub places-within : All (λ i. i < length bits) (set_positions bits)
  places-within =
      All-filter (λ i. slice_index_or bits i false) (λ i. i < length bits) (range_with_len 0 (length bits))
      (All-from_get_or (λ i. i < length bits) (range_with_len 0 (length bits)) 0
      (λ i below.
      let there : i < length bits = omega (arith, length-range_with_len 0 (length bits)) in
      omega (arith, get_or-range_with_len 0 (length bits) i 0 there)))

-- a row that is listed next
pub numbered_more : (feeders positions : List ℕ) (j r count : ℕ) → j < length positions → r ≡ get_or positions j r
    → count ≡ number_within feeders r
    → numbered_at feeders (take j positions) ++ (get_or feeders r 0, count) ∷ [] ≡ numbered_at feeders (take (j + 1) positions)
numbered_more feeders positions j r count within is counted =
    ap (λ n. numbered_at feeders (take j positions) ++ (get_or feeders r 0, n) ∷ []) counted
    ∙ sym (map-append (λ i. (get_or feeders i 0, number_within feeders i)) (take j positions) (r ∷ []))
    ∙ ap (λ i. numbered_at feeders (take j positions ++ i ∷ [])) is
    ∙ ap (numbered_at feeders) (sym (take_more positions j r within))

-- one more number at the end
pub range_push : (a n : ℕ) → range_with_len a (suc n) ≡ range_with_len a n ++ (a + n) ∷ []
range_push a zero = ap (λ k. k ∷ []) (omega arith)
range_push a (suc n) = ap (λ xs. a ∷ xs) (range_push (a + 1) n ∙ ap (λ k. range_with_len (a + 1) n ++ k ∷ []) (omega arith))

-- the places below r at which a bit is set
abbrev pub places_below : List Bool → ℕ → List ℕ
places_below bits r = filter (λ i. slice_index_or bits i false) (range_with_len 0 r)

module _ (bits : List Bool) (feeders : List ℕ) (r : ℕ) where
  places_more : places_below bits (r + 1) ≡ places_below bits r ++ cond (slice_index_or bits r false) (r ∷ []) []
  places_more =
      ap (λ n. places_below bits n) (add-one r) ∙ ap (filter (λ i. slice_index_or bits i false)) (range_push 0 r)
      ∙ filter-append (λ i. slice_index_or bits i false) (range_with_len 0 r) ((0 + r) ∷ [])
      ∙ ap (λ k. places_below bits r ++ cond (slice_index_or bits k false) (k ∷ []) []) (omega arith)

  -- a row that was found is listed
  pub numbered_selection : (count : ℕ) → slice_index_or bits r false ≡ true → count ≡ number_within feeders r
      → numbered_at feeders (places_below bits r) ++ (get_or feeders r 0, count) ∷ [] ≡ numbered_at feeders (places_below bits (r + 1))
  numbered_selection count set is =
      ap (λ n. numbered_at feeders (places_below bits r) ++ (get_or feeders r 0, n) ∷ []) is
      ∙ sym (map-append (λ i. (get_or feeders i 0, number_within feeders i)) (places_below bits r) (r ∷ []))
      ∙ ap (λ b. numbered_at feeders (places_below bits r ++ cond b (r ∷ []) [])) (sym set)
      ∙ ap (numbered_at feeders) (sym places_more)

  -- and no other
  pub numbered_passed : slice_index_or bits r false ≡ false
      → numbered_at feeders (places_below bits r) ≡ numbered_at feeders (places_below bits (r + 1))
  numbered_passed clear =
      ap (numbered_at feeders) (sym (append-none (places_below bits r)) ∙ ap (λ b. places_below bits r ++ cond b (r ∷ []) []) (sym clear) ∙ sym places_more)
    where
      append-none : (xs : List ℕ) → xs ++ [] ≡ xs
      append-none [] = refl
      append-none (x ∷ xs) = ap (λ ys. x ∷ ys) (append-none xs)

-- the rows behind the first so many count on
pub count_before-on : (rows : List ℕ) (s r f : ℕ) → s ≤ r → r ≤ length rows
    → count_before rows s f + count_by (λ feeder. nat_eq feeder f) (take (r - s) (drop s rows)) ≡ count_before rows r f
count_before-on rows s r f before within =
    let end : s + (r - s) ≡ r = omega arith in
    let first : take s (take r rows) ≡ take s rows = take-take s r rows before in
    let after : drop s (take r rows) ≡ take (r - s) (drop s rows) = ap (λ n. drop s (take n rows)) (sym end) ∙ drop-take s (r - s) rows in
    ap₂ (λ xs ys. count_by (λ feeder. nat_eq feeder f) xs + count_by (λ feeder. nat_eq feeder f) ys) (sym first) (sym after)
    ∙ sum_by-take-drop (λ feeder. cond (nat_eq feeder f) 1 0) (take r rows) s
