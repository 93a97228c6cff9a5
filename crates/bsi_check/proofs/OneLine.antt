-- Texts that have no line end.
use Rattle.std.proofs.Common.{◌≡◌, ℕ, ◌<◌, ◌≤◌, ◌^◌, false, ◌||◌, List, [], ◌∷◌, ◌++◌, refl, ap, ap₂, arith, codes, decimal, ◌∙◌}
use Rattle.std.specs.Bool.{if◌then◌else◌}
use Rattle.std.specs.Str.Parse.{AllDigits}
use Rattle.std.proofs.lemmas.Bool.{ne_eqb}
use Rattle.std.proofs.lemmas.Fmt.{decimal_is_IsNumeral}
use Rattle.std.proofs.lemmas.List.{map-append}
use Rattle.std.proofs.lemmas.Str.Parse.{digit_from_value}
use Rattle.bsi_check.specs.Reasons.{is_line_end, more_why, one_line}

no_end : (d : ℕ) → 48 ≤ d → is_line_end d ≡ false
no_end d high = ap₂ (λ a b. a || b) (ne_eqb d 10 (λ e. omega arith)) (ne_eqb d 13 (λ e. omega arith))

digits_stay : (ds : List ℕ) → AllDigits 10 ds → one_line ds ≡ ds
digits_stay [] all = refl
digits_stay (d ∷ ds) all =
    let range = digit_from_value d all.0 in
    ap₂ (λ x xs. x ∷ xs) (ap (λ ends. if ends then 32 else d) (no_end d (omega arith))) (digits_stay ds all.1)

-- how many more there are is written on one line
pub more_stays : (more : ℕ) → more < 2 ^ 64 → one_line (more_why more) ≡ more_why more
more_stays more fits =
    let line : ℕ → ℕ = λ byte. if is_line_end byte then 32 else byte in
    let rest = codes " more bad records" in
    map-append line (codes " and ") (decimal more ++ rest)
    ∙ ap (λ text. codes " and " ++ text) (map-append line (decimal more) rest ∙ ap (λ text. text ++ rest) (digits_stay (decimal more) (decimal_is_IsNumeral more fits).0.1))
