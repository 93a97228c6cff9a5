-- Comparisons of numbers by those of what is stored of them.
use Rattle.std.proofs.Common.{◌≡◌, ℕ, ℤ, pos, ◌+ℤ◌, ◌-ℤ◌, ◌<ℤ◌, ◌<◌, ◌^◌, true, false, Result, Ok, Err, ap, ◌∙◌, arith}
use Rattle.std.specs.Prelude.{unsigned_abs, OkIff}
use Rattle.std.specs.Int.{FitsUnsigned, saturate_signed}
use Rattle.std.specs.Result.{result_unwrap_or}
use lib.Signed.{lt_z}
use mir.Syntax.{w64, w128}
use mir.Val.{SFits}
use Rattle.std.proofs.lemmas.Bool.Decides.{nat_tests}
use Rattle.std.proofs.lemmas.Int.{ints}
use Rattle.bsi_digits.specs.Offsets.{number_of}
use Rattle.bsi_digits.specs.Orders.{compares_by}
use Rattle.bsi_digits.specs.Comparisons.{number_order}
use Rattle.bsi_digits.specs.WholeNumbers.{signed_order}
use Rattle.bsi_digits.specs.declared.op.Op.{Op}
use Rattle.bsi_digits.specs.declared.op.Op.TheVariants.{Eq, Ne, Lt, Le, Gt, Ge}

-- the constant less the offset is k
pub compared_exactly : (op : Op) (offset constant : ℤ) (n k : ℕ) → offset +ℤ pos k ≡ constant → compares_by number_order op n k ≡ compares_by signed_order op (number_of offset n) constant
compared_exactly Eq offset constant n k is = grind (arith, ints, nat_tests)
compared_exactly Ne offset constant n k is = grind (arith, ints, nat_tests)
compared_exactly Lt offset constant n k is = grind (arith, ints, nat_tests)
compared_exactly Le offset constant n k is = grind (arith, ints, nat_tests)
compared_exactly Gt offset constant n k is = grind (arith, ints, nat_tests)
compared_exactly Ge offset constant n k is = grind (arith, ints, nat_tests)

-- both are past the number
pub compared_past : (op : Op) (x constant : ℤ) (n k : ℕ) → n < k → x <ℤ constant → compares_by number_order op n k ≡ compares_by signed_order op x constant
compared_past Eq x constant n k small past = grind (arith, ints, nat_tests)
compared_past Ne x constant n k small past = grind (arith, ints, nat_tests)
compared_past Lt x constant n k small past = grind (arith, ints, nat_tests)
compared_past Le x constant n k small past = grind (arith, ints, nat_tests)
compared_past Gt x constant n k small past = grind (arith, ints, nat_tests)
compared_past Ge x constant n k small past = grind (arith, ints, nat_tests)

-- what the saturated difference says of the constant
module _ (offset constant above : ℤ) (offset_fits : SFits w64 offset) (constant_fits : SFits w128 constant) (above_is : above ≡ saturate_signed w128 (constant -ℤ offset)) where
  pub before : lt_z above (pos 0) ≡ true → (n : ℕ) → constant <ℤ number_of offset n
  before negative n = grind (arith, ints, offset_fits, constant_fits)

  at_exactly : lt_z above (pos 0) ≡ false → FitsUnsigned w64 above → offset +ℤ pos (unsigned_abs above) ≡ constant
  at_exactly not_negative fits = grind (arith, ints, offset_fits, constant_fits)

  past_all : lt_z above (pos 0) ≡ false → (FitsUnsigned w64 above → ⊥) → (n : ℕ) → n < 2 ^ 63 → number_of offset n <ℤ constant
  past_all not_negative too_large n small = grind (arith, ints, offset_fits, constant_fits)

  pub compared_after : {E : Type 0} (op : Op) (r : Result ℕ E) (k : ℕ) → lt_z above (pos 0) ≡ false → OkIff r (FitsUnsigned w64 above) (unsigned_abs above) → k ≡ result_unwrap_or r 18446744073709551615
      → (n : ℕ) → n < 2 ^ 63 → compares_by number_order op n k ≡ compares_by signed_order op (number_of offset n) constant
  compared_after op (Ok x) k not_negative converted k_is n small =
      compared_exactly op offset constant n k (ap (λ m. offset +ℤ pos m) (k_is ∙ converted.1) ∙ at_exactly not_negative converted.0)
  compared_after op (Err e) k not_negative converted k_is n small =
      compared_past op (number_of offset n) constant n k (omega (arith, k_is, small)) (past_all not_negative converted n small)
