-- What a decision says of the entries of a column.
use Rattle.std.proofs.Common.{◌≡◌, ℕ, ◌<◌, false, List, [], ◌∷◌, length, map, replicate, refl, sym, ap, ap₂, ◌∙◌}
use Rattle.std.specs.Prelude.{All, Option, Some, None, is_some}
use Rattle.std.proofs.lemmas.List.Elements.{All-head, All-tail}
use Rattle.bsi_digits.specs.declared.op.Op.{Op}
use Rattle.bsi_slices.specs.declared.decision.Decision.{Decision}
use Rattle.bsi_slices.specs.declared.decision.Decision.TheVariants.{Nothing, Everything, Tested}
use Rattle.bsi_slices.specs.declared.decision.Test.{Test}
use Rattle.bsi_digits.specs.Comparisons.{compares, number_or_zero, selects}
use Rattle.bsi_slices.specs.Decisions.{decides, relates}
use Rattle.bsi_columns.specs.DigitTests.{answers}
use Rattle.bsi_columns.proofs.Answering.{map_alike}

module _ (op : Op) (n size : ℕ) (choice : Decision) (agree : (x : ℕ) → x < size → decides choice x ≡ compares op x n) where
  -- of one entry
  pub entry_none : choice ≡ Nothing → (e : Option ℕ) → number_or_zero e < size → false ≡ selects op n e
  entry_none is None below = refl
  entry_none is (Some x) below = sym (ap (λ c. decides c x) is) ∙ agree x below

  pub entry_all : choice ≡ Everything → (e : Option ℕ) → number_or_zero e < size → is_some e ≡ selects op n e
  entry_all is None below = refl
  entry_all is (Some x) below = sym (ap (λ c. decides c x) is) ∙ agree x below

  pub entry_tested : (test : Test) → choice ≡ Tested test → (e : Option ℕ) → number_or_zero e < size
      → answers (λ x. relates test.relation x test.constant) test.expected e ≡ selects op n e
  entry_tested test is None below = refl
  entry_tested test is (Some x) below = sym (ap (λ c. decides c x) is) ∙ agree x below

  -- of each
  pub rows_none : choice ≡ Nothing → (es : List (Option ℕ)) → All (λ e. number_or_zero e < size) es → replicate (length es) false ≡ map (selects op n) es
  rows_none is [] all = refl
  rows_none is (e ∷ es) all =
      ap₂ (λ b bs. b ∷ bs) (entry_none is e (All-head (λ e. number_or_zero e < size) e es all)) (rows_none is es (All-tail (λ e. number_or_zero e < size) e es all))

  pub rows_all : choice ≡ Everything → (es : List (Option ℕ)) → All (λ e. number_or_zero e < size) es → map is_some es ≡ map (selects op n) es
  rows_all is es all = map_alike is_some (selects op n) (λ e. number_or_zero e < size) (entry_all is) es all

  pub rows_tested : (test : Test) → choice ≡ Tested test → (es : List (Option ℕ)) → All (λ e. number_or_zero e < size) es
      → map (answers (λ x. relates test.relation x test.constant) test.expected) es ≡ map (selects op n) es
  rows_tested test is es all =
      map_alike (answers (λ x. relates test.relation x test.constant) test.expected) (selects op n) (λ e. number_or_zero e < size) (entry_tested test is) es all
