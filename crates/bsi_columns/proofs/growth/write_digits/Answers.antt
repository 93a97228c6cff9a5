use Rattle.std.proofs.Common.{◌≡◌, ◌*◌, ◌/◌, ◌%◌, ◌^◌, ◌<◌, ℕ, get_or, ap₂, ◌∙◌, sym, arith}
use Rattle.std.specs.Int.{w32, trailing_zeros}
use Rattle.std.proofs.lemmas.List.{length-map, get_or-map, same_lists}
use Rattle.std.proofs.lemmas.Nat.{one_shl}
use Rattle.std.proofs.lemmas.Nat.Bits.{bit_at-trailing_zeros}
use Rattle.std.proofs.lemmas.Grind.{get_or_default_zero}
use Rattle.bsi_digits.specs.Digits.{digit_of, IsBase}
use Rattle.bsi_digits.proofs.CallerLemmas.{high_more}
use Rattle.bsi_columns.proofs.growth.write_digits.Goals as goal

pub returns-clause-digits : goal.returns-clause-digits
returns-clause-digits c =
    let all = c.loop-r.invariant in
    let digit : ℕ → ℕ = λ n. digit_of c.args.bases.now n c.args.i in
    same_lists _ _ (all.long ∙ sym (length-map c.args.numbers.now digit)) (λ r d within.
    get_or_default_zero c.loop-r.digits r d within
    ∙ all.done r (omega (arith, within, all.long, c.loop-r-test.false))
    ∙ sym (get_or-map digit c.args.numbers.now r 0 d (omega (arith, within, all.long))))

-- the power of two that the base is
power : (base : ℕ) → IsBase base → base ≡ 1 * 2 ^ trailing_zeros w32 base % 2 ^ 32 → 2 ^ trailing_zeros w32 base ≡ base
power base valid same =
    let place : trailing_zeros w32 base < 32 = (bit_at-trailing_zeros w32 base (omega (arith, valid.0)) (omega (arith, valid.1))).0 in
    sym (same ∙ one_shl (trailing_zeros w32 base) 32 place)

pub returns-then-base-places-clause-digits : goal.returns-then-base-places-clause-digits
returns-then-base-places-clause-digits c =
    let numbers = c.args.numbers.now in
    let digit : ℕ → ℕ = λ n. digit_of c.args.bases.now n c.args.i in
    let split = c.split_quotients.ensures in
    let base : 2 ^ trailing_zeros w32 c.base-base.result ≡ get_or c.args.bases.now c.args.i 0 = power c.base-base.result c.base-base.ensures.within c.if-base-places.true ∙ c.base-base.ensures.base in
    same_lists _ _ (split.long ∙ c.requires.same ∙ sym (length-map numbers digit)) (λ r d within.
    get_or_default_zero c.split_quotients.new.digits r d within
    ∙ split.digits r (omega (arith, within, split.long))
    ∙ ap₂ (λ rest b. rest % b) (c.requires.quotients.each r (omega (arith, within, split.long, c.requires.same))) base
    ∙ sym (get_or-map digit numbers r 0 d (omega (arith, within, split.long, c.requires.same))))

pub returns-then-base-places-clause-quotients : goal.returns-then-base-places-clause-quotients
returns-then-base-places-clause-quotients c =
    let base : 2 ^ trailing_zeros w32 c.base-base.result ≡ get_or c.args.bases.now c.args.i 0 = power c.base-base.result c.base-base.ensures.within c.if-base-places.true ∙ c.base-base.ensures.base in
    record {
      each = λ r below. c.split_quotients.ensures.quotients r (omega (arith, below, c.requires.same))
          ∙ ap₂ (λ rest b. rest / b) (c.requires.quotients.each r below) base
          ∙ high_more c.args.bases.now (get_or c.args.numbers.now r 0) c.args.i c.requires.within;
    }
