-- Row files that are checked one after another.
use Rattle.std.proofs.Common.{◌≡◌, ℕ, suc, List, [], ◌∷◌, ◌++◌, length, refl, ap, sym, ◌∙◌, subst}
use Rattle.std.specs.List.{list_all}
use Rattle.std.proofs.lemmas.List.{append-nil, append_assoc}
use Rattle.bsi_input.specs.Formats.{Format}
use Rattle.bsi_check.specs.Checks.{is_clean}
use Rattle.bsi_check.specs.Reasons.{AddsReasonsUnless}
use Rattle.bsi_check.specs.Reports.{AreAdded, IsFileChecked}
use Rattle.bsi_check.specs.declared.finding.FileFinding.{FileFinding}
use Rattle.bsi_check.specs.declared.named.NamedFile.{NamedFile}
use Rattle.bsi_check.proofs.Telling.{file_reported, tells_both}
use Rattle.bsi_syntax.specs.Bytes.{KnownBytes}

added_push : {A B : Type 0} (Adds : A → B → List ℕ → List ℕ → Type 0) (xs : List A) (ys : List B) (x : A) (y : B) (a b c : List ℕ)
    → AreAdded Adds xs ys a b → Adds x y b c → AreAdded Adds (xs ++ x ∷ []) (ys ++ y ∷ []) a c
added_push Adds [] [] x y a b c are is = (c, subst (λ z. Adds x y z c) are is, refl)
added_push Adds [] (q ∷ ys) x y a b c are is = absurd are
added_push Adds (p ∷ xs) [] x y a b c are is = absurd are
added_push Adds (p ∷ xs) (q ∷ ys) x y a b c are is = (are.0, are.1, added_push Adds xs ys x y are.0 b c are.2 is)

-- the first elements were done, and these are left
pub record HasAdded {A B : Type 0} (Adds : A → B → List ℕ → List ℕ → Type 0) (all left : List A) (ys : List B) (before now : List ℕ) : Type 0 where
  pub done : List A
  pub parts : all ≡ done ++ left
  pub added : AreAdded Adds done ys before now

module _ {A B : Type 0} {Adds : A → B → List ℕ → List ℕ → Type 0} {all left : List A} {ys : List B} where
  pub added_more : (x : A) (rest : List A) (y : B) (more : List B) (a b c : List ℕ) → HasAdded Adds all left ys a b → left ≡ x ∷ rest → more ≡ ys ++ y ∷ [] → Adds x y b c
      → HasAdded Adds all rest more a c
  added_more x rest y more a b c has is pushed one = record {
    done = has.done ++ x ∷ [];
    parts = has.parts ∙ (ap (λ xs. has.done ++ xs) is ∙ sym (append_assoc has.done (x ∷ []) rest));
    added = subst (λ zs. AreAdded Adds (has.done ++ x ∷ []) zs a c) (sym pushed) (added_push Adds has.done ys x y a b c has.added one);
  }

pub added_long : {A B : Type 0} (Adds : A → B → List ℕ → List ℕ → Type 0) (xs : List A) (ys : List B) (a b : List ℕ) → AreAdded Adds xs ys a b → length ys ≡ length xs
added_long Adds [] [] a b are = refl
added_long Adds [] (y ∷ ys) a b are = absurd are
added_long Adds (x ∷ xs) [] a b are = absurd are
added_long Adds (x ∷ xs) (y ∷ ys) a b are = ap (λ n. suc n) (added_long Adds xs ys are.0 b are.2)

-- reasons are written just where a row file is not good
pub files_reported : {S : Type 0} (rem : S → KnownBytes) (format : Format) (rows : List (NamedFile S)) (files : List FileFinding) (a b : List ℕ)
    → AreAdded (IsFileChecked rem format) rows files a b → AddsReasonsUnless (list_all is_clean files) a b
files_reported rem format [] [] a b are = are
files_reported rem format [] (file ∷ files) a b are = absurd are
files_reported rem format (named ∷ rows) [] a b are = absurd are
files_reported rem format (named ∷ rows) (file ∷ files) a b are =
    tells_both (is_clean file) (list_all is_clean files) a are.0 b (file_reported named.path.now file a are.0 are.1.2) (files_reported rem format rows files are.0 b are.2)
