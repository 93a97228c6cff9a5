-- What is written is read again.
use Rattle.std.proofs.Common.{◌≡◌, ℕ, suc, ◌+◌, ◌*◌, ◌/◌, ◌%◌, ◌^◌, ◌<◌, inl, inr, true, false, not, ◌==◌, List, [], ◌∷◌, ◌++◌, length, ◌∙◌, ap, ap₂, arith, sym, refl, length-append, lt-ltb, le-ltb, eq-eqb, decimal, nat_lt, if◌then◌else◌, ℤ, pos, negsuc, unsigned_abs, Some, None, option_map}
use Rattle.std.proofs.Math.Nat.{div-le_self, mod-mod}
use Rattle.std.proofs.lemmas.Nat.{div-add-mod'}
use Rattle.std.proofs.lemmas.Bool.{and_from, and_parts, cases_eq, le-leb, ne_eqb}
use Rattle.std.proofs.lemmas.Fmt.{decimal_is_IsNumeral_wide}
use Rattle.std.proofs.lemmas.List.{append-nil}
use Rattle.std.proofs.lemmas.List.Folds.{list_all-append}
use Rattle.std.proofs.lemmas.Str.Parse.{digit_from_value}
use Rattle.std.specs.Char.{is_ascii_digit}
use Rattle.std.specs.List.{list_all}
use Rattle.std.specs.Option.{option_or}
use Rattle.std.specs.Str.Parse.{digits_value, digits_value_after, AllDigits}
use Rattle.bsi_kinds.specs.Decimals.{begins_minus, decimal_at, decimal_of, fraction, integer_digits, mantissa_of, negative, positive, raised_digits_of, spelled_digits, without_minus}
use Rattle.bsi_kinds.specs.DecimalTexts.{decimal_text, last_digits, places_text, sign_text, units_text}
use Rattle.bsi_kinds.proofs.Cuts.{after_is, after_none, before_is, before_none, digits_lack, Lacks}
use Rattle.bsi_kinds.proofs.Scaling.{value_after_is}
use Rattle.bsi_kinds.proofs.Scanning.{value_after-append}
use Rattle.bsi_kinds.proofs.Scans.{digit_range, digits_from}
use Rattle.bsi_kinds.proofs.Writing.{last_all, last_value, length_last}

-- the bytes of a number are digits
digits_pass : (ds : List ℕ) → AllDigits 10 ds → list_all is_ascii_digit ds ≡ true
digits_pass [] all = refl
digits_pass (d ∷ ds) all =
    let range = digit_from_value d all.0 in
    and_from _ _ (and_from _ _ (le-leb 48 d (omega arith)) (le-leb d 57 (omega arith))) (digits_pass ds all.1)

-- no digit is a point or a minus sign
no_point_byte : (d : ℕ) → is_ascii_digit d ≡ true → not (d == 46) ≡ true
no_point_byte d is = let range = digit_range d is in ap not (ne_eqb d 46 (λ e. omega arith))

no_point : (ds : List ℕ) → list_all is_ascii_digit ds ≡ true → Lacks (λ byte. byte == 46) ds
no_point ds all = digits_lack (λ byte. byte == 46) no_point_byte ds all

no_minus_byte : (d : ℕ) → is_ascii_digit d ≡ true → (d == 45) ≡ false
no_minus_byte d is = let range = digit_range d is in ne_eqb d 45 (λ e. omega arith)

-- digits in two parts
from_parts : (whole decimals : List ℕ) → 0 < length whole → list_all is_ascii_digit whole ≡ true → list_all is_ascii_digit decimals ≡ true
    → digits_from whole decimals ≡ Some (record { value = digits_value 10 (whole ++ decimals); places = length decimals })
from_parts whole decimals some first second =
    let there : nat_lt 0 (length (whole ++ decimals)) ≡ true = lt-ltb _ _ (omega (arith, length-append whole decimals)) in
    let all : list_all is_ascii_digit (whole ++ decimals) ≡ true = list_all-append is_ascii_digit whole decimals ∙ and_from _ _ first second in
    ap (λ b. if b then Some (record { value = digits_value 10 (whole ++ decimals); places = length decimals }) else None) (and_from _ _ there all)

with_point : (whole decimals : List ℕ) → 0 < length whole → list_all is_ascii_digit whole ≡ true → list_all is_ascii_digit decimals ≡ true
    → mantissa_of 46 (whole ++ 46 ∷ decimals) ≡ Some (record { value = digits_value 10 (whole ++ decimals); places = length decimals })
with_point whole decimals some first second =
    let before : integer_digits 46 (whole ++ 46 ∷ decimals) ≡ whole = before_is (λ byte. byte == 46) whole decimals 46 (no_point whole first) refl in
    let behind : fraction 46 (whole ++ 46 ∷ decimals) ≡ decimals = after_is (λ byte. byte == 46) whole decimals 46 (no_point whole first) refl in
    ap₂ (λ w f. digits_from w f) before behind ∙ from_parts whole decimals some first second

without_point : (whole : List ℕ) → 0 < length whole → list_all is_ascii_digit whole ≡ true
    → mantissa_of 46 whole ≡ Some (record { value = digits_value 10 whole; places = 0 })
without_point whole some first =
    let before : integer_digits 46 whole ≡ whole = before_none (λ byte. byte == 46) whole (no_point whole first) in
    let behind : fraction 46 whole ≡ [] = after_none (λ byte. byte == 46) whole (no_point whole first) in
    ap₂ (λ w f. digits_from w f) before behind ∙ from_parts whole [] some first refl
    ∙ ap (λ ds. Some (record { value = digits_value 10 ds; places = 0 })) (append-nil whole)

-- units as text spell the number at as many places
module _ (p m : ℕ) (small : m < 10 ^ 64) where
  front : List ℕ
  front = decimal (m / 10 ^ p)

  front_is : (list_all is_ascii_digit (decimal (m / 10 ^ p)) ≡ true) × (0 < length (decimal (m / 10 ^ p))) × (digits_value 10 (decimal (m / 10 ^ p)) ≡ m / 10 ^ p)
  front_is =
      let low : m / 10 ^ p < 10 ^ 64 = omega (arith, div-le_self m (10 ^ p)) in
      let numeral = decimal_is_IsNumeral_wide (m / 10 ^ p) low in
      (digits_pass (decimal (m / 10 ^ p)) numeral.0.1, numeral.0.0, numeral.1)

  value_joined : digits_value 10 (decimal (m / 10 ^ p) ++ last_digits p (m % 10 ^ p)) ≡ m
  value_joined =
      value_after-append 0 (decimal (m / 10 ^ p)) (last_digits p (m % 10 ^ p))
      ∙ ap (λ n. digits_value_after 10 n (last_digits p (m % 10 ^ p))) front_is.2
      ∙ value_after_is (m / 10 ^ p) (last_digits p (m % 10 ^ p))
      ∙ ap₂ (λ k v. m / 10 ^ p * 10 ^ k + v) (length_last p (m % 10 ^ p)) (last_value p (m % 10 ^ p) ∙ mod-mod m (10 ^ p))
      ∙ div-add-mod' m (10 ^ p)

  pub units_spell : mantissa_of 46 (units_text p m) ≡ Some (record { value = m; places = p })
  units_spell = elim (cases_eq p 0) [
    | inl none ↦ (
        let tail : places_text p (m % 10 ^ p) ≡ [] = ap (λ b. if b then [] else 46 ∷ last_digits p (m % 10 ^ p)) (eq-eqb p 0 none) in
        let whole : m / 10 ^ p ≡ m = ap (λ k. m / 10 ^ k) none ∙ omega arith in
        ap (λ t. mantissa_of 46 (decimal (m / 10 ^ p) ++ t)) tail ∙ ap (mantissa_of 46) (append-nil (decimal (m / 10 ^ p)))
        ∙ without_point (decimal (m / 10 ^ p)) front_is.1 front_is.0
        ∙ ap₂ (λ v k. Some (record { value = v; places = k })) (front_is.2 ∙ whole) (sym none))
    | inr some ↦ (
        let tail : places_text p (m % 10 ^ p) ≡ 46 ∷ last_digits p (m % 10 ^ p) = ap (λ b. if b then [] else 46 ∷ last_digits p (m % 10 ^ p)) (ne_eqb p 0 some) in
        ap (λ t. mantissa_of 46 (decimal (m / 10 ^ p) ++ t)) tail
        ∙ with_point (decimal (m / 10 ^ p)) (last_digits p (m % 10 ^ p)) front_is.1 front_is.0 (last_all p (m % 10 ^ p))
        ∙ ap₂ (λ v k. Some (record { value = v; places = k })) value_joined (length_last p (m % 10 ^ p)))
  ]

-- digits begin with no minus sign
plain_sign : (ds tail : List ℕ) → 0 < length ds → list_all is_ascii_digit ds ≡ true
    → (begins_minus (ds ++ tail) ≡ false) × (without_minus (ds ++ tail) ≡ ds ++ tail)
plain_sign [] tail some all = absurd (omega arith)
plain_sign (d ∷ ds) tail some all =
    let parts = and_parts (is_ascii_digit d) (list_all is_ascii_digit ds) all in
    (no_minus_byte d parts.0, ap (λ b. if b then ds ++ tail else d ∷ (ds ++ tail)) (no_minus_byte d parts.0))

pub text_spells : (p : ℕ) (n : ℤ) → unsigned_abs n < 2 ^ 128 → decimal_of 46 (decimal_text p n) ≡ Some (decimal_at p n)
text_spells p (pos m) small =
    let fits : m < 10 ^ 64 = omega arith in
    let none : sign_text (pos m) ≡ [] = ap (λ b. if b then 45 ∷ [] else []) (le-ltb m 0 (omega arith)) in
    let sign = plain_sign (decimal (m / 10 ^ p)) (places_text p (m % 10 ^ p)) (front_is p m fits).1 (front_is p m fits).0 in
    ap (λ s. decimal_of 46 (s ++ units_text p m)) none
    ∙ ap₂ (λ b t. option_map (if b then negative else positive) (spelled_digits 46 t)) sign.0 sign.1
    ∙ ap (λ found. option_map positive (option_or found (raised_digits_of 46 (units_text p m)))) (units_spell p m fits)
text_spells p (negsuc k) small =
    let fits : suc k < 10 ^ 64 = omega arith in
    ap (λ found. option_map negative (option_or found (raised_digits_of 46 (units_text p (suc k))))) (units_spell p (suc k) fits)
