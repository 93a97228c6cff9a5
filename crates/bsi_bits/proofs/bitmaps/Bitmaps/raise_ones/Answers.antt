use Rattle.std.proofs.Common.{◌≡◌, ◌≢◌, ◌==◌, ℕ, ◌-◌, ◌^◌, ◌<◌, Bool, true, false, [], ◌∷◌, ◌++◌, length, inl, inr, refl, ap, ap₂, sym, ◌∙◌, arith}
use Rattle.std.specs.Prelude.{not, ◌&&◌, bit_and}
use Rattle.std.specs.Int.{bit_at, trailing_zeros, w64}
use Rattle.std.proofs.Math.Bool.{and-true, and-false}
use Rattle.std.proofs.lemmas.Bool.{cases_lt, cases_eq}
use Rattle.std.proofs.lemmas.Nat.Bits.{bit_at-zero, bit_at_above, bit_at-trailing_zeros}
use Rattle.bsi_bits.specs.BitLists.{bits_at}
use Rattle.bsi_bits.proofs.Lowest.{lowest_gone, others_stay, lowest_less}
use Rattle.bsi_bits.proofs.bitmaps.Bitmaps.raise_ones.Goals as goal

none_left : (b : Bool) → (b && not b) ≡ false
none_left true = refl
none_left false = refl

pub ones-init : goal.ones-init
ones-init c = record {
  count = refl;
  room = refl;
  some = c.requires.some;
  among = λ k there. there;
  raised = λ k front within is. is ∙ ap (λ b. front ++ b ∷ []) (sym (none_left (bit_at c.args.number k == 1)));
}

-- the lowest place that is left
lowest : (left : ℕ) → (left ≡ 0 → ⊥) → left < 2 ^ 64 → (bit_at left (trailing_zeros w64 left) ≡ 1) × ((i : ℕ) → i < trailing_zeros w64 left → bit_at left i ≡ 0)
lowest left some fits =
    let all = bit_at-trailing_zeros w64 left (omega (arith, some)) fits in
    (all.1, all.2)

-- a place of the number has a vector
placed : (number count k : ℕ) → number < 2 ^ count → bit_at number k ≡ 1 → k < count
placed number count k below there = elim (cases_lt k count) [
  | inl within ↦ within
  | inr past ↦ absurd (omega (arith, there, bit_at_above number count k below past))
]

pub raise_last-requires-clause-some : goal.raise_last-requires-clause-some
raise_last-requires-clause-some c =
    let first = lowest c.ones.left c.ones-test.true (omega (arith, c.ones.auto.left-fits)) in
    let within = placed c.args.number (length c.args.self.now.vectors) (trailing_zeros w64 c.ones.left) c.requires.below (c.ones.invariant.among (trailing_zeros w64 c.ones.left) first.0) in
    c.ones.invariant.some 0 (omega (arith, within))

pub raise_last-requires-clause-within : goal.raise_last-requires-clause-within
raise_last-requires-clause-within c =
    let first = lowest c.ones.left c.ones-test.true (omega (arith, c.ones.auto.left-fits)) in
    let within = placed c.args.number (length c.args.self.now.vectors) (trailing_zeros w64 c.ones.left) c.requires.below (c.ones.invariant.among (trailing_zeros w64 c.ones.left) first.0) in
    (omega arith, omega (arith, within, c.ones.invariant.count))

pub ones-smaller : goal.ones-smaller
ones-smaller c =
    let first = lowest c.ones.left c.ones-test.true (omega (arith, c.ones.auto.left-fits)) in
    lowest_less c.ones.left (trailing_zeros w64 c.ones.left) first.0 first.1

-- one place more
pub ones-preserved : goal.ones-preserved
ones-preserved c =
    let left = c.ones.left in
    let number = c.args.number in
    let p = trailing_zeros w64 left in
    let first = lowest left c.ones-test.true (omega (arith, c.ones.auto.left-fits)) in
    let was = c.ones.invariant in
    let rest = bit_and left (left - 1) in
    let gone : bit_at rest p ≡ 0 = lowest_gone left p first.0 first.1 in
    let other : (k : ℕ) → k ≢ p → bit_at rest k ≡ bit_at left k = others_stay left p first.0 first.1 in
    record {
      count = c.raise_last.ensures.count ∙ was.count;
      room = c.raise_last.ensures.room ∙ was.room;
      some = λ k within. omega (arith, was.some k within, c.raise_last.ensures.lengths k);
      among = λ k there. elim (cases_eq k p) [
        | inl same ↦ absurd (omega (arith, gone, sym (ap (bit_at rest) same) ∙ there))
        | inr apart ↦ was.among k (sym (other k apart) ∙ there)
      ];
      raised = λ k front within is. elim (cases_eq k p) [
        | inl same ↦
            let there : bit_at left k ≡ 1 = ap (bit_at left) same ∙ first.0 in
            let before : bits_at c.ones.self.vectors k ≡ front ++ false ∷ [] =
            was.raised k front within is
            ∙ ap (λ b. front ++ ((bit_at number k == 1) && not (b == 1)) ∷ []) there ∙ ap (λ b. front ++ b ∷ []) (and-false (bit_at number k == 1)) in
            c.raise_last.ensures.raised k front (omega (arith, same)) (omega (arith, same)) before
            ∙ ap₂ (λ a b. front ++ ((a == 1) && not (b == 1)) ∷ []) (sym (was.among k there)) (sym (ap (bit_at rest) same ∙ gone))
        | inr apart ↦
            let unchanged : bits_at c.raise_last.new.self.vectors k ≡ bits_at c.ones.self.vectors k = elim (cases_lt k p) [
              | inl early ↦ c.raise_last.ensures.before k early
              | inr late ↦ c.raise_last.ensures.after k (omega (arith, late, apart))
            ] in
            unchanged ∙ was.raised k front within is ∙ ap (λ b. front ++ ((bit_at number k == 1) && not (b == 1)) ∷ []) (sym (other k apart))
      ];
    }

-- no place is left
pub returns-clause-count : goal.returns-clause-count
returns-clause-count c = c.ones.invariant.count

pub returns-clause-raised : goal.returns-clause-raised
returns-clause-raised c = λ j front within is.
    c.ones.invariant.raised j front within is
    ∙ ap (λ x. front ++ ((bit_at c.args.number j == 1) && not (bit_at x j == 1)) ∷ []) c.ones-test.false
    ∙ ap (λ x. front ++ ((bit_at c.args.number j == 1) && not (x == 1)) ∷ []) (bit_at-zero j)
    ∙ ap (λ b. front ++ b ∷ []) (and-true (bit_at c.args.number j == 1))

pub returns-clause-room : goal.returns-clause-room
returns-clause-room c = c.ones.invariant.room
