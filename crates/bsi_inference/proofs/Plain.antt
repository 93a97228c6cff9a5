-- The decimals of a column, before and after a field.
use Rattle.std.proofs.Common.{◌≡◌, ℕ, Bool, true, false, not, ◌&&◌, List, ℤ, Option, Some, is_some, max, arith, refl, sym, subst, ap, ◌∙◌}
use Rattle.std.proofs.lemmas.Bool.{and_parts}
use Rattle.bsi_kinds.specs.Decimals.{decimal_of}
use Rattle.bsi_kinds.specs.DecimalPlaces.{places_written}
use Rattle.bsi_inference.specs.Codes.{is_code}
use Rattle.bsi_inference.specs.Decimals.{is_plain_decimal, number_by, AreJoinedDecimals, IsBroughtTo, IsNextDecimals, IsSeenAt}
use Rattle.bsi_inference.specs.Seen.{Covers, CoversSome, IsSeenWithAll}
use Rattle.bsi_inference.proofs.Steps.{covers_more}
use Rattle.bsi_inference.specs.declared.decimals.Decimals.{Decimals}
use Rattle.bsi_inference.specs.declared.seen.Seen.{Seen}
use Rattle.bsi_inference.specs.declared.seen.Seen.TheVariants.{RuledOut}

-- no decimals are left
pub nothing_left : (point : ℕ) (field : List ℕ) (old : Decimals) → (old.spelled && is_plain_decimal point field) ≡ false
    → IsNextDecimals point field old (record { places = old.places; rounding = old.rounding; seen = RuledOut; spelled = false })
nothing_left point field old none = record {
  accepts = record { number = tt; plain = λ is. absurd (cc) };
  preserved = λ f accepted. record { number = tt; plain = λ is. absurd (cc) };
  spelled = sym none;
  rounding = refl;
  places = λ is. absurd (cc);
  seen = λ is. absurd (cc);
}

-- decimals at the most places
module _ (point : ℕ) (field : List ℕ) (old : Decimals) (places : ℕ) (seen : Seen) (spelled : Bool)
    (was : old.spelled ≡ true) (no_code : is_code field ≡ false) (most : places ≡ max old.places (places_written point field))
    (accepts : CoversSome seen (λ n. number_by old.rounding point places field ≡ Some n))
    (preserved : (f : List ℕ) → CoversSome old.seen (λ n. number_by old.rounding point old.places f ≡ Some n) → CoversSome seen (λ n. number_by old.rounding point places f ≡ Some n))
    (at : IsSeenAt point field old places seen) (is : spelled ≡ is_some (decimal_of point field)) where
  plain_is : spelled ≡ is_plain_decimal point field
  plain_is = is ∙ ap (λ b. not b && is_some (decimal_of point field)) (sym no_code)

  spelled_is : spelled ≡ (old.spelled && is_plain_decimal point field)
  spelled_is = plain_is ∙ ap (λ b. b && is_plain_decimal point field) (sym was)

  pub next_decimals : IsNextDecimals point field old (record { places = places; rounding = old.rounding; seen = seen; spelled = spelled })
  next_decimals = record {
    accepts = record { number = accepts; plain = λ yes. record { plain = sym plain_is ∙ yes; places = omega arith } };
    preserved = λ f accepted. record {
      number = preserved f accepted.number;
      plain = λ yes. let before = accepted.plain was in record { plain = before.plain; places = omega (arith, before.places) };
    };
    spelled = spelled_is;
    rounding = refl;
    places = λ yes. most;
    seen = λ yes. at;
  }

-- the decimals of a column of two parts
module _ (old other : Decimals) (places : ℕ) (first second seen : Seen) (spelled : Bool) (most : places ≡ max old.places other.places)
    (same : old.rounding ≡ other.rounding)
    (first_kept : (point : ℕ) → (f : List ℕ) → CoversSome old.seen (λ n. number_by old.rounding point old.places f ≡ Some n) → CoversSome first (λ n. number_by old.rounding point places f ≡ Some n))
    (second_kept : (point : ℕ) → (f : List ℕ) → CoversSome other.seen (λ n. number_by other.rounding point other.places f ≡ Some n) → CoversSome second (λ n. number_by other.rounding point places f ≡ Some n))
    (brought : IsBroughtTo places old first) (other_brought : IsBroughtTo places other second)
    (preserved : (n : ℤ) → Covers first n → Covers seen n) (joined : (n : ℤ) → Covers second n → Covers seen n) (ruled_out : first ≡ RuledOut → seen ≡ RuledOut)
    (other_ruled_out : second ≡ RuledOut → seen ≡ RuledOut) (exact : IsSeenWithAll second first seen) (is : spelled ≡ (old.spelled && other.spelled)) where
  both_spelled : spelled ≡ true → (old.spelled ≡ true) × (other.spelled ≡ true)
  both_spelled holds = and_parts old.spelled other.spelled (sym is ∙ holds)

  pub join_decimals : AreJoinedDecimals old other (record { places = places; rounding = old.rounding; seen = seen; spelled = spelled })
  join_decimals = record {
    preserved = λ point f accepted. record {
      number = covers_more first seen (λ n. number_by old.rounding point places f ≡ Some n) preserved ruled_out (first_kept point f accepted.number);
      plain = λ yes. let before = accepted.plain (both_spelled yes).0 in record { plain = before.plain; places = omega (arith, before.places) };
    };
    joined = λ point f accepted. record {
      number = covers_more second seen (λ n. number_by old.rounding point places f ≡ Some n) joined other_ruled_out
          (subst (λ (r : Option ℕ). CoversSome second (λ n. number_by r point places f ≡ Some n)) (sym same) (second_kept point f accepted.number));
      plain = λ yes. let before = accepted.plain (both_spelled yes).1 in record { plain = before.plain; places = omega (arith, before.places) };
    };
    spelled = is;
    rounding = refl;
    places = most;
    seen = (first, second, brought, other_brought, exact);
  }
