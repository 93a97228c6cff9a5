-- Which column is missing, of two lists that stand one after the other.
use Rattle.std.proofs.Common.{◌≡◌, ℕ, ◌<◌, List, [], ◌∷◌, ◌++◌, Option, Some, None, ap, sym, ◌∙◌, arith, inl, inr, refl, cond}
use Rattle.std.proofs.lemmas.Bool.{cases_Bool}
use Rattle.std.proofs.lemmas.Bool.Decides.{nat_tests}
use Rattle.std.specs.Prelude.{nat_le}
use Rattle.std.specs.Option.{option_or}
use Rattle.std.proofs.lemmas.List.Folds.{find-append}
use Rattle.bsi_rows.specs.Answers.{missing_of}

module _ (count : ℕ) (first second : List ℕ) where
  -- one of the first list
  pub missing_first : (c : ℕ) → missing_of count first ≡ Some c → missing_of count (first ++ second) ≡ Some c
  missing_first c e = find-append (λ k. nat_le count k) first second ∙ ap (λ o. option_or o (missing_of count second)) e

  -- else that of the second
  pub missing_second : missing_of count first ≡ None → missing_of count (first ++ second) ≡ missing_of count second
  missing_second e = find-append (λ k. nat_le count k) first second ∙ ap (λ o. option_or o (missing_of count second)) e

  -- where none is missing, none of the first list is, nor of the second
  pub none_missing_first : missing_of count (first ++ second) ≡ None → missing_of count first ≡ None
  none_missing_first e =
      by (missing_of count first) (sym (find-append (λ k. nat_le count k) first second) ∙ e)
    where
      by : (o : Option ℕ) → option_or o (missing_of count second) ≡ None → o ≡ None
      by None none = refl
      by (Some c) none = cc

  pub none_missing_second : missing_of count (first ++ second) ≡ None → missing_of count second ≡ None
  none_missing_second e = sym (missing_second (none_missing_first e)) ∙ e

-- a column that is not missing is there
pub there : (count c : ℕ) → missing_of count (c ∷ []) ≡ None → c < count
there count c none = elim (cases_Bool (nat_le count c)) [
  | inl past ↦
      let some : cond (nat_le count c) (Some c) None ≡ Some c = ap (λ b. cond b (Some c) None) past in
      let e : Some c ≡ None = sym some ∙ none in absurd cc
  | inr below ↦ grind (arith, nat_tests, below)
]
