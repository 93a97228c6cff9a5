-- The first place of a text at which a test passes.
use Rattle.std.proofs.Common.{◌≡◌, ◌-◌, ◌≤◌, ℕ, Bool, not, List, length, drop, take, Option, Some, None, inl, inr, arith, ap, cond, ◌∙◌, lt-ltb, le-ltb}
use Rattle.std.proofs.lemmas.Bool.{cases_lt}
use Rattle.std.proofs.lemmas.List.{drop-drop, length-drop, take_all}
use Rattle.std.proofs.lemmas.List.Sums.{prefix_len-le-length}
use Rattle.std.specs.List.{after_first, position, position_or_len}
use Rattle.std.specs.Option.{unwrap_or}

module _ {X : Type 0} (p : X → Bool) (xs : List X) where
  -- as a call that looks for it gives it, or the length
  pub first_position : unwrap_or (position p xs) (length xs) ≡ position_or_len p xs
  first_position = elim (cases_lt (position_or_len p xs) (length xs)) [
    | inl low ↦ ap (λ b. unwrap_or (cond b (Some (position_or_len p xs)) None) (length xs)) (lt-ltb _ _ low)
    | inr high ↦ (
        let within : position_or_len p xs ≤ length xs = prefix_len-le-length (λ x. not (p x)) xs in
        let here : length xs ≡ position_or_len p xs = omega arith in
        ap (λ b. unwrap_or (cond b (Some (position_or_len p xs)) None) (length xs)) (le-ltb _ _ high) ∙ here)
  ]

  -- what stands behind it
  pub behind_first : (found : Option ℕ) (at : ℕ) (rest : List X) → found ≡ position p xs → at ≡ unwrap_or found (length xs) → rest ≡ drop at xs
      → take (length rest - 1) (drop 1 rest) ≡ after_first p xs
  behind_first found at rest found_is at_is rest_is =
      let place : at ≡ position_or_len p xs = at_is ∙ ap (λ o. unwrap_or o (length xs)) found_is ∙ first_position in
      let short : length (drop 1 rest) ≡ length rest - 1 = length-drop 1 rest in
      take_all (length rest - 1) (drop 1 rest) (omega arith)
      ∙ ap (drop 1) (rest_is ∙ ap (λ i. drop i xs) place) ∙ drop-drop 1 (position_or_len p xs) xs
