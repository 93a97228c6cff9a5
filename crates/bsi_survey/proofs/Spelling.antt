-- The number that a field spells is the one that the field is read as.
use Rattle.std.proofs.Common.{◌≡◌, inl, inr, ℕ, ◌<◌, ◌≤◌, true, ◌&&◌, if◌then◌else◌, List, length, Some, None, option_map, ℤ, pos, negsuc, nat_lt, lt-ltb, sym, ap, ◌∙◌, arith}
use Rattle.std.proofs.lemmas.Bool.{and_from, cases_order}
use Rattle.std.proofs.lemmas.Cmp.{nat_list_cmp_total, tied_itself}
use Rattle.std.proofs.lemmas.Slice.Eq.{bytes_eq-Decides}
use Rattle.std.specs.Cmp.Lexicographic.{slice_cmp}
use Rattle.std.specs.Ordering.{nat_cmp}
use Rattle.std.specs.Str.{bytes_eq}
use Rattle.std.specs.declared.cmp.Ordering.TheVariants.{Less}
use Rattle.bsi_kinds.specs.Dictionaries.{text_at, AreRising}
use Rattle.bsi_kinds.specs.FieldNumbers.{field_number, text_number, text_rank}
use Rattle.bsi_kinds.specs.Kinds.{IsSpelled}
use Rattle.bsi_kinds.specs.declared.kind.Kind.{Kind}
use Rattle.bsi_kinds.specs.declared.kind.Kind.TheVariants.{Boolean, Date, Decimal, Rounded, Text, Time}
use Rattle.bsi_kinds.proofs.Rising.{comes_far, text_place_is}
use Rattle.bsi_logical.specs.Entries.{is_text}
use Rattle.bsi_survey.specs.Decided.{HasRisingTexts}
use Rattle.bsi_survey.proofs.Moments.{time_is}

not_less : (text : List ℕ) → slice_cmp nat_cmp text text ≡ Less → ⊥
not_less text less = let tied = tied_itself nat_list_cmp_total text in cc

-- a text among texts that rise has its rank as its number
module _ (texts : List (List ℕ)) (rising : AreRising texts) (text : List ℕ) (k : ℕ) (within : k < length texts) (same : text_at texts k ≡ text) where
  before : (j : ℕ) → j < k → slice_cmp nat_cmp (text_at texts j) text ≡ Less
  before j low = ap (slice_cmp nat_cmp (text_at texts j)) (sym same) ∙ comes_far texts rising j k low within

  behind : (j : ℕ) → k ≤ j → j < length texts → slice_cmp nat_cmp (text_at texts j) text ≡ Less → ⊥
  behind j high low less = elim (cases_order k j) [
    | inl here ↦ not_less text (ap (λ (t : List ℕ). slice_cmp nat_cmp t text) (sym same ∙ ap (text_at texts) here) ∙ less)
    | inr (inl below) ↦ (
        let far : slice_cmp nat_cmp text (text_at texts j) ≡ Less = ap (λ (t : List ℕ). slice_cmp nat_cmp t (text_at texts j)) (sym same) ∙ comes_far texts rising k j below low in
        not_less text (nat_list_cmp_total.trans text (text_at texts j) text far less))
    | inr (inr above) ↦ absurd (omega arith)
  ]

  is_number : text_number texts text ≡ Some k
  is_number =
      let rank : k ≡ text_rank texts text = text_place_is texts text k (omega arith) before behind in
      ap (λ r. if nat_lt r (length texts) && bytes_eq (text_at texts r) text then Some r else None) (sym rank)
      ∙ ap (λ b. if b then Some k else None) (and_from (nat_lt k (length texts)) (bytes_eq (text_at texts k) text) (lt-ltb k (length texts) within) ((bytes_eq-Decides (text_at texts k) text).1 same))

pub number_is : (kind : Kind) (point : ℕ) (f : List ℕ) (n : ℤ) → HasRisingTexts kind → IsSpelled kind point f n → field_number kind point f ≡ Some n
number_is (Decimal places) point f n rising spelled = spelled
number_is (Rounded places) point f n rising spelled = spelled
number_is (Date form) point f n rising spelled = spelled
number_is (Time form) point f n rising spelled = time_is form f n spelled.0 spelled.1
number_is (Boolean form) point f n rising spelled = spelled
number_is (Text texts) point f (pos k) rising spelled = ap (option_map pos) (is_number texts rising f k spelled.0 spelled.1)
number_is (Text texts) point f (negsuc k) rising spelled = absurd spelled

-- texts are spelled without a decimal point
pub any_point : (kind : Kind) (point other : ℕ) (f : List ℕ) (n : ℤ) → is_text kind ≡ true → IsSpelled kind point f n → IsSpelled kind other f n
any_point (Decimal places) point other f n text spelled = absurd (cc)
any_point (Rounded places) point other f n text spelled = absurd (cc)
any_point (Date form) point other f n text spelled = absurd (cc)
any_point (Time form) point other f n text spelled = absurd (cc)
any_point (Boolean form) point other f n text spelled = absurd (cc)
any_point (Text texts) point other f (pos k) text spelled = spelled
any_point (Text texts) point other f (negsuc k) text spelled = spelled
