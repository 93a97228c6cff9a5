-- The rows of lists, one list after the other.
use Rattle.std.proofs.Common.{◌≡◌, ℕ, suc, zero, ◌+◌, ◌<◌, true, false, List, [], ◌∷◌, ◌++◌, map, Some, None, refl, ap, ap₂, sym, ◌∙◌, arith, slice_index_or, add-zero, if◌then◌else◌}
use Rattle.std.specs.Prelude.{nat_eq}
use Rattle.std.proofs.lemmas.Bool.Decides.{nat_tests}
use Rattle.std.proofs.lemmas.List.{append-nil}
use Rattle.std.proofs.lemmas.List.Elements.{filter_map-append}
use Rattle.bsi_rows.specs.Runs.{rows_from}
use Rattle.bsi_rows.specs.Rows.{Entries, SourcedRow}
use Rattle.bsi_answers.specs.Mixes.{file_by_file}
use Rattle.bsi_answers.proofs.Mixing.{rows_here, rows_there}

abbrev own : ℕ → List Entries → List SourcedRow
own n rows = map (λ row. (n, row)) rows

own_same : (n : ℕ) (rows : List Entries) → nat_eq n n ≡ true → rows_from n (own n rows) ≡ rows
own_same n [] e = refl
own_same n (row ∷ rows) e = rows_here n (n, row) (own n rows) e ∙ ap (λ xs. row ∷ xs) (own_same n rows e)

own_other : (f n : ℕ) (rows : List Entries) → nat_eq n f ≡ false → rows_from f (own n rows) ≡ []
own_other f n [] e = refl
own_other f n (row ∷ rows) e = rows_there f (n, row) (own n rows) e ∙ own_other f n rows e

from_append : (f : ℕ) (xs ys : List SourcedRow) → rows_from f (xs ++ ys) ≡ rows_from f xs ++ rows_from f ys
from_append f xs ys = filter_map-append (λ (row : SourcedRow). if nat_eq row.0 f then Some row.1 else None) xs ys

self_eq : (n : ℕ) → nat_eq n n ≡ true
self_eq n = grind (arith, nat_tests)

apart : (f n : ℕ) → f < n → nat_eq n f ≡ false
apart f n lt = grind (arith, nat_tests)

apart_too : (f n : ℕ) → n < f → nat_eq n f ≡ false
apart_too f n lt = grind (arith, nat_tests)

-- no row of an earlier feeder
before_none : (n : ℕ) (lists : List (List Entries)) (f : ℕ) → f < n → rows_from f (file_by_file n lists) ≡ []
before_none n [] f lt = refl
before_none n (rows ∷ lists) f lt =
    from_append f (own n rows) (file_by_file (suc n) lists)
    ∙ ap₂ (λ xs ys. xs ++ ys) (own_other f n rows (apart f n lt)) (before_none (suc n) lists f (omega arith))

-- the rows of each feeder are those of its list
pub from_order : (n : ℕ) (lists : List (List Entries)) (k : ℕ) → rows_from (n + k) (file_by_file n lists) ≡ slice_index_or lists k []
from_order n [] k = refl
from_order n (rows ∷ lists) zero =
    let at : n + 0 ≡ n = add-zero n in
    ap (λ f. rows_from f (file_by_file n (rows ∷ lists))) at
    ∙ (from_append n (own n rows) (file_by_file (suc n) lists)
    ∙ (ap₂ (λ xs ys. xs ++ ys) (own_same n rows (self_eq n)) (before_none (suc n) lists n (omega arith)) ∙ append-nil rows))
from_order n (rows ∷ lists) (suc k) =
    let at : suc n + k ≡ n + suc k = omega arith in
    from_append (n + suc k) (own n rows) (file_by_file (suc n) lists)
    ∙ (ap (λ xs. xs ++ rows_from (n + suc k) (file_by_file (suc n) lists)) (own_other (n + suc k) n rows (apart_too (n + suc k) n (omega arith)))
    ∙ (ap (λ f. rows_from f (file_by_file (suc n) lists)) (sym at) ∙ from_order (suc n) lists k))
