-- Lists of entries that rise.
use Rattle.std.proofs.Common.{◌≡◌, ◌<◌, ◌-◌, true, None, List, [], ◌∷◌, ◌++◌, Option, ℤ, All, Contains, length, map, inl, inr, ap, ap₂, sym, subst, arith, get_or, length-append}
use Rattle.std.specs.Prelude.{◌&&◌, ◌||◌, false, IsTrue, refl}
use Rattle.std.specs.List.{AllPairs}
use Rattle.std.proofs.lemmas.Bool.{cases_lt}
use Rattle.std.proofs.lemmas.List.{get_or_append_left, get_or-append_right, get_or-map, length-map}
use Rattle.std.proofs.lemmas.List.Elements.{All-contains, All-get_or, All-map, All-weaker}
use Rattle.std.proofs.lemmas.List.Sums.{AllPass-from_list_all}
use Rattle.bsi_aggregates.specs.Entries.{comes_before, is_entry}
use Rattle.bsi_aggregates.specs.Groups.{all_come_before, KeysRise}
use Rattle.bsi_aggregates.proofs.Order.{comes_after, is_itself, not_before_itself}

-- a list and one behind it, each of which comes after all of it
all_pairs_append : {X : Type 0} (R : X → X → Type 0) (xs ys : List X) → AllPairs R xs → AllPairs R ys → All (λ y. All (λ x. R x y) xs) ys → AllPairs R (xs ++ ys)
all_pairs_append R xs ys among behind across i j d before within =
    elim (cases_lt j (length xs)) [
      | inl low ↦ subst (λ x. R x (get_or (xs ++ ys) j d)) (sym (get_or_append_left xs ys d i (omega (arith, before, low))))
          (subst (R (get_or xs i d)) (sym (get_or_append_left xs ys d j low)) (among i j d before low))
      | inr high ↦
          let there : j - length xs < length ys = omega (arith, high, within, length-append xs ys) in
          let at_j = get_or-append_right xs ys (length xs) j d refl high in
          elim (cases_lt i (length xs)) [
            | inl low ↦ subst (λ x. R x (get_or (xs ++ ys) j d)) (sym (get_or_append_left xs ys d i low))
                (subst (R (get_or xs i d)) (sym at_j)
                (All-get_or (λ x. R x (get_or ys (j - length xs) d)) xs i d low (All-get_or (λ y. All (λ x. R x y) xs) ys (j - length xs) d there across)))
            | inr past ↦ subst (λ x. R x (get_or (xs ++ ys) j d)) (sym (get_or-append_right xs ys (length xs) i d refl past))
                (subst (R (get_or ys (i - length xs) d)) (sym at_j) (behind (i - length xs) (j - length xs) d (omega (arith, before, past)) there))
          ]
    ]

-- what stands in order with one more before each
pub all_pairs_map : {X Y : Type 0} (R : Y → Y → Type 0) (f : X → Y) (e : X) (xs : List X) → AllPairs (λ x y. R (f x) (f y)) xs → AllPairs R (map f xs)
all_pairs_map R f e xs among i j d before within =
    let long = length-map xs f in
    subst (λ x. R x (get_or (map f xs) j d)) (sym (get_or-map f xs i e d (omega (arith, before, within, long))))
    (subst (R (f (get_or xs i e))) (sym (get_or-map f xs j e d (omega (arith, within, long)))) (among i j e before (omega (arith, within, long))))

-- entries that begin with one of these
abbrev pub BeginsIn : List (Option ℤ) → List (Option ℤ) → Type 0
BeginsIn firsts [] = ⊥
BeginsIn firsts (x ∷ entries) = Contains firsts x

-- of entries that begin alike the others decide
same_first : (e : Option ℤ) (xs ys : List (Option ℤ)) → IsTrue (all_come_before xs ys) → IsTrue (all_come_before (e ∷ xs) (e ∷ ys))
same_first e xs ys before = ap₂ (λ a b. a || b) (not_before_itself e) (ap₂ (λ a b. a && b) (is_itself e) before)

module _ (firsts : List (Option ℤ)) (e : Option ℤ) (after : comes_after firsts e ≡ true) where
  -- come before those that begin with a later entry
  begins_before : (ys entries : List (Option ℤ)) → BeginsIn firsts entries → IsTrue (all_come_before entries (e ∷ ys))
  begins_before ys [] begins = absurd begins
  begins_before ys (x ∷ entries) begins =
      ap (λ b. b || (is_entry x e && all_come_before entries ys))
      (All-contains (λ key. comes_before key e ≡ true) firsts x (AllPass-from_list_all (λ key. comes_before key e) firsts after) begins)

  -- those that begin so, and those of the later entry behind them
  pub rise_more : (keys : List (List (Option ℤ))) → All (BeginsIn firsts) keys → KeysRise keys → (some : List (List (Option ℤ))) → KeysRise some
      → KeysRise (keys ++ map (λ ys. e ∷ ys) some)
  rise_more keys begin rise some others_rise =
      all_pairs_append Before keys (map (λ ys. e ∷ ys) some) rise (all_pairs_map Before (λ ys. e ∷ ys) [] some within)
      (All-map (λ later. All (λ earlier. Before earlier later) keys) (λ ys. e ∷ ys) some
      (λ k d inside. All-weaker (BeginsIn firsts) (λ earlier. Before earlier (e ∷ get_or some k d)) (begins_before (get_or some k d)) keys begin))
    where
      Before : List (Option ℤ) → List (Option ℤ) → Type 0
      Before earlier later = IsTrue (all_come_before earlier later)

      within : AllPairs (λ xs ys. Before (e ∷ xs) (e ∷ ys)) some
      within i j d before inside = same_first e (get_or some i d) (get_or some j d) (others_rise i j d before inside)
