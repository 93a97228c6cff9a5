-- Headers whose fields differ: each field stands once.
use Rattle.std.proofs.Common.{◌≡◌, inl, inr, ℕ, zero, suc, ◌+◌, ◌-◌, ◌<◌, ◌≤◌, Bool, true, false, List, [], length, get_or, take, count_by, refl, sym, ap, ◌∙◌, arith, eq-eqb}
use Rattle.std.specs.List.{list_all}
use Rattle.std.specs.Str.{bytes_eq}
use Rattle.std.proofs.lemmas.Bool.{cases_order}
use Rattle.std.proofs.lemmas.List.{get_or_default, take_all}
use Rattle.std.proofs.lemmas.List.Sums.{count_by_more_no, count_by_more_yes, list_all-from_AllPass}
use Rattle.std.proofs.lemmas.Slice.Eq.{bytes_eq-Decides}
use Rattle.bsi_rows.specs.Fields.{Field}
use Rattle.bsi_logical.specs.LogicalRows.{is_titled_once}
use Rattle.bsi_survey.specs.Titles.{AreDistinct, IsFirstRepeated, IsRepeated}

-- where no column is repeated, the fields differ
pub distinct_if : (header : List Field) → ((k : ℕ) → k < length header → IsRepeated header k → ⊥) → AreDistinct header
distinct_if header none = λ a b low high same. elim (cases_order a b) [
  | inl equal ↦ equal
  | inr (inl below) ↦ absurd (none b high (record { column = a; before = below; same = same }))
  | inr (inr above) ↦ absurd (none a low (record { column = b; before = above; same = sym same }))
]

-- a first repeated column is the only one
pub first_only : (header : List Field) (a b : ℕ) → IsFirstRepeated header a → IsFirstRepeated header b → a ≡ b
first_only header a b one two = elim (cases_order a b) [
  | inl equal ↦ equal
  | inr (inl below) ↦ absurd (two.first a below one.repeated)
  | inr (inr above) ↦ absurd (one.first b above two.repeated)
]

-- where the fields differ, none is repeated
pub none_repeated : (header : List Field) (c : ℕ) → AreDistinct header → IsFirstRepeated header c → ⊥
none_repeated header c distinct is =
    let has = is.repeated in
    let low : has.column < length header = omega (arith, has.before, is.within) in
    let equal = distinct has.column c low is.within has.same in
    omega (arith, equal, has.before)

module _ (header : List Field) (distinct : AreDistinct header) where
  -- another field differs
  pub differs : (c k : ℕ) → c < length header → k < length header → (k ≡ c → ⊥) → bytes_eq (get_or header k []) (get_or header c []) ≡ false
  differs c k within low other = by (bytes_eq (get_or header k []) (get_or header c [])) refl
    where
      by : (b : Bool) → bytes_eq (get_or header k []) (get_or header c []) ≡ b → b ≡ false
      by true is = absurd (other (distinct k c low within ((bytes_eq-Decides (get_or header k []) (get_or header c [])).0 is)))
      by false is = refl

  module _ (c : ℕ) (within : c < length header) where
    abbrev is_same : Field → Bool
    is_same field = bytes_eq field (get_or header c [])

    one_more : (i : ℕ) → suc i ≡ i + 1
    one_more i = omega arith

    before : (i : ℕ) → i ≤ c → count_by is_same (take i header) ≡ 0
    before zero few = refl
    before (suc i) few =
        ap (λ n. count_by is_same (take n header)) (one_more i)
        ∙ count_by_more_no is_same header i [] (omega (arith, few, within)) (differs c i within (omega (arith, few, within)) (λ same. omega (arith, few, same)))
        ∙ before i (omega (arith, few))

    here : count_by is_same (take (c + 1) header) ≡ 1
    here =
        let more = count_by_more_yes is_same header c [] within ((bytes_eq-Decides (get_or header c []) (get_or header c [])).1 refl) in
        let none = before c (omega arith) in
        omega (arith, more, none)

    behind : (j : ℕ) → (c + 1) + j ≤ length header → count_by is_same (take ((c + 1) + j) header) ≡ 1
    behind zero few = ap (λ n. count_by is_same (take n header)) (none_more (c + 1)) ∙ here
      where
        none_more : (n : ℕ) → n + 0 ≡ n
        none_more n = omega arith
    behind (suc j) few =
        let i = (c + 1) + j in
        let next : (c + 1) + suc j ≡ i + 1 = omega arith in
        ap (λ n. count_by is_same (take n header)) next
        ∙ count_by_more_no is_same header i [] (omega (arith, few)) (differs c i within (omega (arith, few)) (λ same. omega (arith, same)))
        ∙ behind j (omega (arith, few))

    count_is : count_by is_same header ≡ 1
    count_is =
        let rest : (c + 1) + (length header - (c + 1)) ≡ length header = omega (arith, within) in
        sym (ap (count_by is_same) (take_all ((c + 1) + (length header - (c + 1))) header (omega (arith, rest))))
        ∙ behind (length header - (c + 1)) (omega (arith, rest))

    pub titled_once : is_titled_once header (get_or header c []) ≡ true
    titled_once = eq-eqb (count_by is_same header) 1 count_is
