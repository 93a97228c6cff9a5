use Rattle.std.proofs.Common.{◌≡◌, ℕ, ◌*◌, ◌<◌, ◌&&◌, ◌||◌, Bool, true, false, List, length, ap, ap₂, sym, ◌∙◌, refl, rules, arith}
use Rattle.std.specs.Prelude.{bit_and, bit_or, bit_xor, if◌then◌else◌}
use Rattle.std.specs.Simd.Lanes.{zip2}
use Rattle.std.proofs.lemmas.Simd.{length-zip2}
use Rattle.bsi_bits.specs.BitList.{differ}
use Rattle.bsi_bits.specs.Packed.{bit_of}
use Rattle.bsi_bits.proofs.Logic.{xor_bitwise}
use Rattle.bsi_columns.proofs.WordSpans.{and_bit, or_bit, zipped_bit}
use Rattle.bsi_columns.proofs.number_places.add_place.Goals as goal

xor_bit : (xs ys : List ℕ) → length xs ≡ length ys → (p : ℕ) → p < 64 * length xs → bit_of (zip2 bit_xor xs ys) p ≡ differ (bit_of xs p) (bit_of ys p)
xor_bit xs ys same = zipped_bit (λ _. Unit {0}) bit_xor differ xor_bitwise xs ys same (λ k. tt)

by_bits : (a b more : Bool) → ((a && b) || ((a || b) && more)) ≡ (if more then a || b else a && b)
by_bits true true true = refl
by_bits true true false = refl
by_bits true false true = refl
by_bits true false false = refl
by_bits false true true = refl
by_bits false true false = refl
by_bits false false true = refl
by_bits false false false = refl

module _ (n : ℕ) (sum carry more : List ℕ) (sum_long : length sum ≡ n) (long : length carry ≡ n) (more_long : length more ≡ n) (p : ℕ) (near : p < 64 * n) where
  sum_bit : bit_of (zip2 bit_xor (zip2 bit_xor sum carry) more) p ≡ differ (differ (bit_of sum p) (bit_of carry p)) (bit_of more p)
  sum_bit =
      let first : length (zip2 bit_xor sum carry) ≡ n = length-zip2 bit_xor sum carry (sum_long ∙ sym long) ∙ sum_long in
      xor_bit (zip2 bit_xor sum carry) more (first ∙ sym more_long) p (omega (arith, near, first))
      ∙ ap (λ b. differ b (bit_of more p)) (xor_bit sum carry (sum_long ∙ sym long) p (omega (arith, near, sum_long)))

  carry_bit : bit_of (zip2 bit_or (zip2 bit_and sum carry) (zip2 bit_and (zip2 bit_or sum carry) more)) p
      ≡ (if bit_of more p then bit_of sum p || bit_of carry p else bit_of sum p && bit_of carry p)
  carry_bit =
      let both : length (zip2 bit_and sum carry) ≡ n = length-zip2 bit_and sum carry (sum_long ∙ sym long) ∙ sum_long in
      let either : length (zip2 bit_or sum carry) ≡ n = length-zip2 bit_or sum carry (sum_long ∙ sym long) ∙ sum_long in
      let third : length (zip2 bit_and (zip2 bit_or sum carry) more) ≡ n = length-zip2 bit_and (zip2 bit_or sum carry) more (either ∙ sym more_long) ∙ either in
      or_bit (zip2 bit_and sum carry) (zip2 bit_and (zip2 bit_or sum carry) more) (both ∙ sym third) p (omega (arith, near, both))
      ∙ ap₂ ◌||◌ (and_bit sum carry (sum_long ∙ sym long) p (omega (arith, near, sum_long)))
      (and_bit (zip2 bit_or sum carry) more (either ∙ sym more_long) p (omega (arith, near, either)) ∙ ap (λ b. b && bit_of more p) (or_bit sum carry (sum_long ∙ sym long) p (omega (arith, near, sum_long))))
      ∙ by_bits (bit_of sum p) (bit_of carry p) (bit_of more p)

pub returns-clause-sum : goal.returns-clause-sum
returns-clause-sum c = λ p near. sum_bit 16 c.args.sum.now c.args.carry c.args.more.now (search rules) (search rules) (search rules) p near

pub returns-clause-carry : goal.returns-clause-carry
returns-clause-carry c = λ p near. carry_bit 16 c.args.sum.now c.args.carry c.args.more.now (search rules) (search rules) (search rules) p near
