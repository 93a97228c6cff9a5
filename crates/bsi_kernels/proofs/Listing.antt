-- Words that are listed by their places, and the passes over these alone.
use Rattle.std.proofs.Common.{◌≡◌, ◌≢◌, ℕ, zero, suc, ◌+◌, ◌-◌, ◌<◌, ◌≤◌, Bool, List, length, get_or, set, take, inl, inr, ap, sym, refl, ◌∙◌, arith}
use Rattle.std.specs.Simd.Lanes.{zip2}
use Rattle.std.specs.Prelude.{Contains}
use Rattle.std.proofs.lemmas.Bool.{cases_eq, cases_lt}
use Rattle.std.proofs.lemmas.List.{get_or-set_same, get_or-set_other, get_or-take, get_or_default, get_or_past, length-set, length-take-le}
use Rattle.std.proofs.lemmas.Simd.{length-zip2, get_or-zip2}
use Rattle.bsi_kernels.specs.Listing.{AreListed}
use Rattle.bsi_kernels.specs.Ranks.{narrowed_word}
use Rattle.bsi_kernels.proofs.Narrowing.{narrowed_less}

-- where the words begin that may come next after the first i that are listed
abbrev pub next_after : List ℕ → ℕ → ℕ
next_after indices zero = 0
next_after indices (suc i) = get_or indices i 0 + 1

-- what a list of places says of the words between them
pub record HasGaps (n : ℕ) (indices : List ℕ) (count : ℕ) (words : List ℕ) : Type 0 where
  pub few : count ≤ length indices
  pub rising : (i : ℕ) → i < count → next_after indices i ≤ get_or indices i 0
  pub within : (i : ℕ) → i < count → get_or indices i 0 < n
  pub between : (i k : ℕ) → i < count → next_after indices i ≤ k → k < get_or indices i 0 → get_or words k 0 ≡ 0
  pub after_last : (k : ℕ) → next_after indices count ≤ k → k < n → get_or words k 0 ≡ 0

pub next_step : (indices : List ℕ) (i : ℕ) → next_after indices (i + 1) ≡ get_or indices i 0 + 1
next_step indices i = let next : i + 1 ≡ suc i = omega arith in ap (next_after indices) next

module _ (n : ℕ) (indices : List ℕ) (count : ℕ) (words : List ℕ) (listed : HasGaps n indices count words) where
  -- the words that come next begin within
  pub next_within : (i : ℕ) → i ≤ count → next_after indices i ≤ n
  next_within zero below = omega arith
  next_within (suc i) below = omega (arith, listed.within i (omega arith))

  -- each that is listed is behind those before it
  at_least : (i : ℕ) → i ≤ count → i ≤ next_after indices i
  at_least zero below = omega arith
  at_least (suc i) below = omega (arith, at_least i (omega arith), listed.rising i (omega arith))

  -- no more are listed than there are
  pub few_listed : count ≤ n
  few_listed = omega (arith, at_least count (omega arith), next_within count (omega arith))

  -- words that have no row
  pub more_clear : (m : ℕ) → n ≤ m → ((k : ℕ) → n ≤ k → k < m → get_or words k 0 ≡ 0) → HasGaps m indices count words
  more_clear m forward clear = record {
    few = listed.few;
    rising = listed.rising;
    within = λ i below. omega (arith, listed.within i below);
    between = listed.between;
    after_last = λ k from below. elim (cases_lt k n) [
      | inl before ↦ listed.after_last k from before
      | inr past ↦ clear k past below
    ];
  }

  -- one word more, which is listed
  module _ (room : count < length indices) where
    now : List ℕ
    now = set indices count n

    same_place : (i : ℕ) → i < count → get_or now i 0 ≡ get_or indices i 0
    unfolding now
    same_place i below = get_or-set_other indices count i n 0 (omega arith)

    last_place : get_or now count 0 ≡ n
    unfolding now
    last_place = get_or-set_same indices count n 0 room

    same_next : (i : ℕ) → i ≤ count → next_after now i ≡ next_after indices i
    same_next zero below = refl
    same_next (suc i) below = ap (λ k. k + 1) (same_place i (omega arith))

    pub word_listed : HasGaps (n + 1) (set indices count n) (count + 1) words
    unfolding now
    word_listed = record {
      few = omega (arith, length-set indices count n);
      rising = λ i below. elim (cases_lt i count) [
        | inl before ↦ omega (arith, same_next i (omega arith), same_place i before, listed.rising i before)
        | inr from ↦
            let here : i ≡ count = omega arith in
            omega (arith, ap (next_after now) here, ap (λ k. get_or now k 0) here, same_next count (omega arith), last_place, next_within count (omega arith))
      ];
      within = λ i below. elim (cases_lt i count) [
        | inl before ↦ omega (arith, same_place i before, listed.within i before)
        | inr from ↦ let here : i ≡ count = omega arith in omega (arith, ap (λ k. get_or now k 0) here, last_place)
      ];
      between = λ i k below from to. elim (cases_lt i count) [
        | inl before ↦ listed.between i k before (omega (arith, same_next i (omega arith))) (omega (arith, same_place i before))
        | inr past ↦
            let here : i ≡ count = omega arith in
            listed.after_last k (omega (arith, ap (next_after now) here, same_next count (omega arith))) (omega (arith, ap (λ j. get_or now j 0) here, last_place))
      ];
      after_last = λ k from below. absurd (omega (arith, next_step now count, last_place));
    }

-- the gaps of listed places have no word that is not 0
module _ (n : ℕ) (indices : List ℕ) (count : ℕ) (words : List ℕ) (listed : AreListed n indices count words) where
  rises : (i d : ℕ) → i + d < count → get_or indices i 0 + d ≤ get_or indices (i + d) 0
  rises i zero below = let here : i + 0 ≡ i = omega arith in omega (arith, ap (λ k. get_or indices k 0) here)
  rises i (suc d) below =
      let next : i + suc d ≡ i + d + 1 = omega arith in
      omega (arith, rises i d (omega arith), listed.rising (i + d) (omega arith), ap (λ k. get_or indices k 0) next)

  apart : (i j : ℕ) → i < j → j < count → get_or indices i 0 < get_or indices j 0
  apart i j less below =
      let same : i + (j - i) ≡ j = omega arith in
      omega (arith, rises i (j - i) (omega arith), ap (λ k. get_or indices k 0) same)

  -- none is listed between the first i and the next
  not_listed : (i k j : ℕ) → i ≤ count → next_after indices i ≤ k → (i < count → k < get_or indices i 0) → j < count → get_or indices j 0 ≡ k → ⊥
  not_listed zero k j few from to below is = elim (cases_eq j 0) [
    | inl first ↦ omega (arith, is, to (omega arith), ap (λ j. get_or indices j 0) first)
    | inr later ↦ omega (arith, is, to (omega arith), apart 0 j (omega arith) below)
  ]
  not_listed (suc i) k j few from to below is = elim (cases_lt i j) [
    | inl later ↦ elim (cases_eq j (suc i)) [
      | inl next ↦ omega (arith, is, to (omega arith), ap (λ j. get_or indices j 0) next)
      | inr past ↦ omega (arith, is, to (omega arith), apart (suc i) j (omega arith) below)
    ]
    | inr before ↦ elim (cases_eq j i) [
      | inl same ↦ omega (arith, is, from, ap (λ j. get_or indices j 0) same)
      | inr earlier ↦ omega (arith, is, from, apart j i (omega arith) (omega arith))
    ]
  ]

  no_word : (i k : ℕ) → i ≤ count → next_after indices i ≤ k → (i < count → k < get_or indices i 0) → k < n → get_or words k 0 ≡ 0
  no_word i k few from to inside = elim (cases_eq (get_or words k 0) 0) [
    | inl none ↦ none
    | inr some ↦
        let (j, below, is) = listed.all k inside some in
        let near : j < count = omega (arith, below, length-take-le count indices listed.few) in
        absurd (not_listed i k j few from to near (sym (get_or-take count indices j 0 near) ∙ get_or_default (take count indices) j 0 k below ∙ is))
  ]

  pub gaps : HasGaps n indices count words
  gaps = record {
    few = listed.few;
    rising = gap_rises;
    within = listed.within;
    between = λ i k below from to. no_word i k (omega arith) from (λ more. to) (omega (arith, listed.within i below));
    after_last = λ k from inside. no_word count k (omega arith) from (λ more. absurd (omega arith)) inside;
  }
    where
      gap_rises : (i : ℕ) → i < count → next_after indices i ≤ get_or indices i 0
      gap_rises zero below = omega arith
      gap_rises (suc i) below = let next : suc i ≡ i + 1 = omega arith in omega (arith, listed.rising i (omega arith), ap (λ k. get_or indices k 0) next)

-- and where they have none, all are listed
module _ (n : ℕ) (indices : List ℕ) (count : ℕ) (words : List ℕ) (gaps : HasGaps n indices count words) where
  listed_before : (m k : ℕ) → m ≤ count → k < next_after indices m → get_or words k 0 ≢ 0 → Contains (take count indices) k
  listed_before zero k few below some = absurd (omega (arith, below))
  listed_before (suc m) k few below some = elim (cases_eq k (get_or indices m 0)) [
    | inl last ↦
        let near : m < length (take count indices) = omega (arith, few, length-take-le count indices gaps.few) in
        (m, near, get_or_default (take count indices) m k 0 near ∙ get_or-take count indices m 0 (omega (arith, few)) ∙ sym last)
    | inr other ↦ elim (cases_lt k (next_after indices m)) [
      | inl before ↦ listed_before m k (omega (arith, few)) before some
      | inr from ↦ absurd (some (gaps.between m k (omega (arith, few)) from (omega arith)))
    ]
  ]

  pub all_listed : AreListed n indices count words
  all_listed = record {
    few = gaps.few;
    within = gaps.within;
    rising = λ i below. omega (arith, next_step indices i, gaps.rising (i + 1) below);
    all = λ k inside some. elim (cases_lt k (next_after indices count)) [
      | inl before ↦ listed_before count k (omega arith) before some
      | inr from ↦ absurd (some (gaps.after_last k from inside))
    ];
  }

-- what is kept of words is listed where they are
module _ (is_set : Bool) (old words : List ℕ) (same : length words ≡ length old) where
  none_narrowed : (k : ℕ) → get_or old k 0 ≡ 0 → get_or (zip2 (narrowed_word is_set) old words) k 0 ≡ 0
  none_narrowed k none = elim (cases_lt k (length old)) [
    | inl inside ↦ omega (arith, get_or-zip2 (narrowed_word is_set) old words k 0 0 0 inside (omega (arith, same)), none, narrowed_less is_set (get_or old k 0) (get_or words k 0))
    | inr past ↦ get_or_past (zip2 (narrowed_word is_set) old words) k 0 (omega (arith, length-zip2 (narrowed_word is_set) old words (sym same)))
  ]

  -- so a word that is kept was there
  was_there : (k : ℕ) → get_or (zip2 (narrowed_word is_set) old words) k 0 ≢ 0 → get_or old k 0 ≢ 0
  was_there k some none = some (none_narrowed k none)

  pub narrowed_listed : (indices : List ℕ) (count : ℕ) → AreListed (length old) indices count old
      → AreListed (length (zip2 (narrowed_word is_set) old words)) indices count (zip2 (narrowed_word is_set) old words)
  narrowed_listed indices count listed =
      let long : length (zip2 (narrowed_word is_set) old words) ≡ length old = length-zip2 (narrowed_word is_set) old words (sym same) in
      record {
        few = listed.few;
        within = λ i below. omega (arith, listed.within i below);
        rising = listed.rising;
        all = λ k inside some. listed.all k (omega (arith, inside)) (was_there k some);
      }
