-- The feeders of rows and their tallies, with more rows.
use Rattle.std.proofs.Common.{◌≡◌, ℕ, ◌+◌, ◌-◌, ◌*◌, ◌%◌, ◌^◌, ◌<◌, ◌≤◌, ◌++◌, [], List, All, Bool, true, false, cond, length, replicate, take, set, get_or, refl, sym, ap, subst, ◌∙◌, arith, add-one, get_or-set_same, get_or-set_other, inl, inr}
use Rattle.std.specs.Prelude.{nat_le}
use Rattle.std.proofs.Math.Nat.{eq-or-lt_of_le, mul-le-mul_left, mul-suc}
use Rattle.std.proofs.lemmas.List.{get_or_append_left, get_or-append_right, get_or-take, length-append, length-replicate, length-take, length-take-le}
use Rattle.std.proofs.lemmas.Bool.{cases_eq}
use Rattle.std.proofs.lemmas.List.Elements.{All-append, All-from_get_or}
use Rattle.bsi_rows.specs.Numbering.{count_before}
use Rattle.bsi_origins.specs.Origins.{tally_count, tally_len, AreCountsBefore, AreTallies, HasRoomFor, IsTallied}
use Rattle.bsi_origins.proofs.Numbers.{count_before-append, count_before-le, count_before-others, count_before-run, counted_none}

-- a tally has at most one count a feeder
pub tally_len-le : (feeders : ℕ) → tally_len feeders ≤ feeders
tally_len-le feeders = by (nat_le feeders 1)
  where
    by : (b : Bool) → cond b 0 feeders ≤ feeders
    by true = omega arith
    by false = omega arith

-- a count of a tally that there is stands within the tallies
pub tally_within : (len k f tallies : ℕ) → k < tallies → f < len → len * k + f < len * tallies
tally_within len k f tallies before below =
    let next : len * (k + 1) ≤ len * tallies = mul-le-mul_left len (omega arith) in
    let more : len * (k + 1) ≡ len * k + len = ap (λ n. len * n) (add-one k) ∙ mul-suc len k in
    omega arith

-- rows that go in within a chunk, and the counts of all rows then
module _ (feeders : ℕ) (rows counts tallies : List ℕ) (is : IsTallied feeders rows counts tallies) (more now : List ℕ)
    (from : All (λ f. f < feeders) more) (long : length now ≡ 64) (counted : AreCountsBefore feeders (rows ++ more) (length (rows ++ more)) now)
    (within : length rows % 512 + length more ≤ 512) where
  all : length (rows ++ more) ≡ length rows + length more
  all = length-append rows more

  -- whatever the tallies are then
  with_tallies : (after : List ℕ) → length after ≡ tally_len feeders * tally_count (length rows + length more)
      → AreTallies (tally_len feeders) (rows ++ more) after
      → IsTallied feeders (rows ++ more) now after
  with_tallies after many each = record {
    some = is.some;
    few = is.few;
    from = All-append (λ f. f < feeders) rows more is.from from;
    long = long;
    counted = counted;
    many = many ∙ ap (λ k. tally_len feeders * tally_count k) (sym all);
    each = each;
  }

  -- within a chunk the tallies stay
  pub tallied_within : 0 < length rows % 512 → IsTallied feeders (rows ++ more) now tallies
  tallied_within begun =
      let same : tally_count (length rows) ≡ tally_count (length rows + length more) = omega (arith, within, begun) in
      with_tallies tallies (is.many ∙ ap (λ k. tally_len feeders * k) same)
      (λ k f before small.
      let there : 512 * k < length rows = omega (arith, all, before, within, begun) in
      is.each k f there small ∙ sym (count_before-append rows more (512 * k) f (omega arith)))

  -- where a chunk begins, its tally has the counts
  pub tallied_begun : length rows % 512 ≡ 0 → 0 < length more
      → IsTallied feeders (rows ++ more) now (tallies ++ take (tally_len feeders) counts)
  tallied_begun begins some =
      let len : ℕ = tally_len feeders in
      let whole : length (take len counts) ≡ len = length-take-le len counts (omega (arith, tally_len-le feeders, is.long, is.few)) in
      let next : tally_count (length rows + length more) ≡ tally_count (length rows) + 1 = omega (arith, begins, some, within) in
      let larger : len * (tally_count (length rows) + 1) ≡ len * tally_count (length rows) + len = ap (λ k. len * k) (add-one (tally_count (length rows))) ∙ mul-suc len (tally_count (length rows)) in
      with_tallies (tallies ++ take len counts)
      (omega (arith, length-append tallies (take len counts), whole, is.many, larger, ap (λ k. len * k) next))
      (λ k f before small.
      let reached : 512 * k ≤ length rows = omega (arith, all, before, begins, within) in
      let same : count_before (rows ++ more) (512 * k) f ≡ count_before rows (512 * k) f = count_before-append rows more (512 * k) f reached in
      elim (eq-or-lt_of_le reached) [
        | inr there ↦
            let inside : len * k + f < length tallies = omega (arith, is.many, tally_within len k f (tally_count (length rows)) (omega (arith, there)) small) in
            get_or_append_left tallies (take len counts) 0 (len * k + f) inside ∙ is.each k f there small ∙ sym same
        | inl last ↦
            let at : k ≡ tally_count (length rows) = omega (arith, last) in
            let after : length tallies ≡ len * k = is.many ∙ ap (λ j. len * j) (sym at) in
            get_or-append_right tallies (take len counts) (len * k) (len * k + f) 0 after (omega arith)
            ∙ ap (λ j. get_or (take len counts) j 0) (omega arith)
            ∙ get_or-take len counts f 0 small
            ∙ is.counted f (omega (arith, small, tally_len-le feeders))
            ∙ ap (λ r. count_before rows r f) (sym last) ∙ sym same
      ])

-- and the room that is left
room_less : (room rows_capacity tallies now now_tallies feeders count : ℕ) (rows more : List ℕ) → length more ≡ count → count ≤ room → HasRoomFor room (length rows) feeders rows_capacity tallies → rows_capacity ≤ now → tallies ≤ now_tallies
    → HasRoomFor (room - count) (length (rows ++ more)) feeders now now_tallies
room_less room rows_capacity tallies now now_tallies feeders count rows more long enough has no_less as_many =
    let same : length (rows ++ more) + (room - count) ≡ length rows + room = omega (arith, length-append rows more, long, enough) in
    record {
      within = omega (arith, same, has.within);
      rows_fit = omega (arith, same, has.rows_fit, no_less);
      tallies_fit = omega (arith, ap (λ k. tally_len feeders * tally_count k) same, has.tallies_fit, as_many);
    }

-- what is kept so stays so with more rows, whatever its tallies are then
pub tallied_push : (feeders room rows_capacity capacity count : ℕ) (rows more counts items after : List ℕ) → HasRoomFor room (length rows) feeders rows_capacity capacity → length more ≡ count → count ≤ room
    → items ≡ rows ++ more → (now now_tallies : ℕ) → rows_capacity ≤ now → capacity ≤ now_tallies
    → IsTallied feeders (rows ++ more) counts after
    → IsTallied feeders items counts after × HasRoomFor (room - count) (length items) feeders now now_tallies
tallied_push feeders room rows_capacity capacity count rows more counts items after has long enough are now now_tallies no_less as_many tallied = (
  subst (λ xs. IsTallied feeders xs counts after) (sym are) tallied,
  subst (λ xs. HasRoomFor (room - count) (length xs) feeders now now_tallies) (sym are)
      (room_less room rows_capacity capacity now now_tallies feeders count rows more long enough has no_less as_many),
)

-- a run of one feeder's rows adds to its count
pub counted_run : (feeders : ℕ) (rows counts : List ℕ) (feeder n : ℕ) → length counts ≡ 64 → feeders ≤ 64 → feeder < feeders → AreCountsBefore feeders rows (length rows) counts
    → AreCountsBefore feeders (rows ++ replicate n feeder) (length (rows ++ replicate n feeder)) (set counts feeder (get_or counts feeder 0 + n))
counted_run feeders rows counts feeder n long few below counted f small =
    let run : length (rows ++ replicate n feeder) ≡ length rows + n = length-append rows (replicate n feeder) ∙ ap (λ k. length rows + k) (length-replicate n feeder) in
    elim (cases_eq f feeder) [
      | inl same ↦
          ap (λ k. get_or (set counts feeder (get_or counts feeder 0 + n)) k 0) same
          ∙ get_or-set_same counts feeder (get_or counts feeder 0 + n) 0 (omega (arith, long, few, below))
          ∙ ap (λ k. k + n) (counted feeder below)
          ∙ sym (ap (λ r. count_before (rows ++ replicate n feeder) r feeder) run ∙ count_before-run rows feeder n n (omega arith))
          ∙ ap (λ k. count_before (rows ++ replicate n feeder) (length (rows ++ replicate n feeder)) k) (sym same)
      | inr other ↦
          get_or-set_other counts feeder f (get_or counts feeder 0 + n) 0 other
          ∙ counted f small
          ∙ sym (ap (λ r. count_before (rows ++ replicate n feeder) r f) run ∙ count_before-others rows feeder f n n other (omega arith))
    ]

-- before the first row
pub tallied_none : (feeders : ℕ) (rows tallies : List ℕ) → (1 ≤ feeders) × (feeders ≤ 64) → rows ≡ [] → tallies ≡ [] → IsTallied feeders rows (replicate 64 0) tallies
tallied_none feeders rows tallies some none empty =
    let length_is : length rows ≡ 0 = ap length none in
    let tallies_are : length tallies ≡ 0 = ap length empty in
    let count : tally_count (length rows) ≡ 0 = omega arith in
    record {
      some = some.0;
      few = some.1;
      from = λ k d below. absurd (omega (arith, below, length_is));
      long = refl;
      counted = λ f below. counted_none 64 f ∙ ap (λ rs. count_before rs (length rs) f) (sym none);
      many = tallies_are ∙ sym (ap (λ k. tally_len feeders * k) count ∙ omega arith);
      each = λ k f before small. absurd (omega (arith, before, length_is));
    }

pub room_none : (feeders : ℕ) (rows : List ℕ) (rows_capacity tallies : ℕ) → rows ≡ [] → HasRoomFor 0 (length rows) feeders rows_capacity tallies
room_none feeders rows rows_capacity tallies none =
    let length_is : length rows ≡ 0 = ap length none in
    let count : tally_count (length rows + 0) ≡ 0 = omega arith in
    let tallies_are : tally_len feeders * tally_count (length rows + 0) ≡ 0 = ap (λ k. tally_len feeders * k) count ∙ omega arith in
    record { within = omega arith; rows_fit = omega arith; tallies_fit = omega (arith, tallies_are) }

-- room for the rows that went out too
pub room_emptied : (feeders room rows_capacity tallies rows_capacity' tallies' len : ℕ) (rows none : List ℕ) → HasRoomFor room (length rows) feeders rows_capacity tallies
    → none ≡ [] → len ≡ length rows → rows_capacity' ≡ rows_capacity → tallies' ≡ tallies → HasRoomFor (room + len) (length none) feeders rows_capacity' tallies'
room_emptied feeders room rows_capacity tallies rows_capacity' tallies' len rows none was empty long same_capacity same_tallies =
    let all : length none + (room + len) ≡ length rows + room = omega (arith, ap length empty, long) in
    record {
      within = omega (arith, all, was.within);
      rows_fit = omega (arith, all, was.rows_fit, same_capacity);
      tallies_fit = omega (arith, ap (λ n. tally_len feeders * tally_count n) all, was.tallies_fit, same_tallies);
    }

-- counts of fewer than 2^32 rows take 32 bits
pub tally_small : (feeders : ℕ) (rows counts tallies : List ℕ) → IsTallied feeders rows counts tallies → (len : ℕ) → len ≡ tally_len feeders
    → length rows < 2 ^ 32 → All (λ count. count < 2 ^ 32) (take len counts)
tally_small feeders rows counts tallies is len len_is small =
    All-from_get_or (λ count. count < 2 ^ 32) (take len counts) 0
    (λ f below.
    let there : f < len = omega (arith, length-take len counts) in
    let known : f < feeders = omega (arith, tally_len-le feeders) in
    let few : count_before rows (length rows) f ≤ length rows = count_before-le rows (length rows) f (omega arith) in
    omega (arith, get_or-take len counts f 0 there, is.counted f known, few))
