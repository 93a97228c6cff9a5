use Rattle.std.proofs.Common.{◌≡◌, ◌≢◌, ◌==◌, ℕ, ◌+◌, ◌-◌, ◌^◌, ◌<◌, false, [], ◌∷◌, ◌++◌, length, inl, inr, ap, ap₂, sym, ◌∙◌, arith}
use Rattle.std.specs.Prelude.{not, ◌&&◌, bit_and}
use Rattle.std.specs.Int.{bit_at, trailing_zeros, w32}
use Rattle.std.proofs.Math.Bool.{and-true, and-false}
use Rattle.std.proofs.lemmas.Bool.{cases_lt, cases_eq}
use Rattle.std.proofs.lemmas.Nat.Bits.{bit_at-zero, bit_at-trailing_zeros}
use Rattle.bsi_bits.specs.BitLists.{bits_at}
use Rattle.bsi_bits.proofs.Lowest.{lowest_gone, others_stay, lowest_less}
use Rattle.bsi_kernels.specs.Places.{has_place}
use Rattle.bsi_components.proofs.places.raise_places.Goals as goal

-- the lowest place that is left
lowest : (left : ℕ) → (left ≡ 0 → ⊥) → left < 2 ^ 32 → (bit_at left (trailing_zeros w32 left) ≡ 1) × ((i : ℕ) → i < trailing_zeros w32 left → bit_at left i ≡ 0)
lowest left some fits =
    let all = bit_at-trailing_zeros w32 left (omega (arith, some)) fits in
    (all.1, all.2)

pub ones-smaller : goal.ones-smaller
ones-smaller c =
    let first = lowest c.ones.left c.ones-test.true (omega (arith, c.ones.auto.left-fits)) in
    lowest_less c.ones.left (trailing_zeros w32 c.ones.left) first.0 first.1

-- the last bit of one place more is set
pub ones-preserved-then-place-count : goal.ones-preserved-then-place-count
ones-preserved-then-place-count c =
    let left = c.ones.left in
    let digit = c.args.digit in
    let own = c.args.own in
    let p = trailing_zeros w32 left in
    let first = lowest left c.ones-test.true (omega (arith, c.ones.auto.left-fits)) in
    let was = c.ones.invariant in
    let rest = bit_and left (left - 1) in
    let gone : bit_at rest p ≡ 0 = lowest_gone left p first.0 first.1 in
    let other : (k : ℕ) → k ≢ p → bit_at rest k ≡ bit_at left k = others_stay left p first.0 first.1 in
    record {
      count = c.raise_last.ensures.count ∙ was.count;
      some = omega (arith, was.some, c.raise_last.ensures.lengths 0);
      room = c.raise_last.ensures.room ∙ was.room;
      before = λ j early. c.raise_last.ensures.before j (omega (arith, early)) ∙ was.before j early;
      among = λ k there. elim (cases_eq k p) [
        | inl same ↦ absurd (omega (arith, gone, sym (ap (bit_at rest) same) ∙ there))
        | inr apart ↦ was.among k (sym (other k apart) ∙ there)
      ];
      raised = λ j front from within is. elim (cases_eq (j - own) p) [
        | inl same ↦
            let there : bit_at left (j - own) ≡ 1 = ap (bit_at left) same ∙ first.0 in
            let last : bits_at c.ones.bitmaps.vectors j ≡ front ++ false ∷ [] =
            was.raised j front from within is
            ∙ ap (λ b. front ++ (has_place (j - own) digit && not (b == 1)) ∷ []) there ∙ ap (λ b. front ++ b ∷ []) (and-false (has_place (j - own) digit)) in
            c.raise_last.ensures.raised j front (omega (arith, same, from)) (omega (arith, same, from)) last
            ∙ ap₂ (λ a b. front ++ ((a == 1) && not (b == 1)) ∷ []) (sym (was.among (j - own) there)) (sym (ap (bit_at rest) same ∙ gone))
        | inr apart ↦
            let unchanged : bits_at c.raise_last.new.self.vectors j ≡ bits_at c.ones.bitmaps.vectors j = elim (cases_lt j (own + p)) [
              | inl early ↦ c.raise_last.ensures.before j early
              | inr late ↦ c.raise_last.ensures.after j (omega (arith, late, apart))
            ] in
            unchanged ∙ was.raised j front from within is ∙ ap (λ b. front ++ (has_place (j - own) digit && not (b == 1)) ∷ []) (sym (other (j - own) apart))
      ];
    }

-- a place past the vectors
pub ones-preserved : goal.ones-preserved
ones-preserved c =
    let left = c.ones.left in
    let digit = c.args.digit in
    let own = c.args.own in
    let p = trailing_zeros w32 left in
    let first = lowest left c.ones-test.true (omega (arith, c.ones.auto.left-fits)) in
    let was = c.ones.invariant in
    let rest = bit_and left (left - 1) in
    let gone : bit_at rest p ≡ 0 = lowest_gone left p first.0 first.1 in
    let other : (k : ℕ) → k ≢ p → bit_at rest k ≡ bit_at left k = others_stay left p first.0 first.1 in
    record {
      count = was.count;
      some = was.some;
      room = was.room;
      before = was.before;
      among = λ k there. elim (cases_eq k p) [
        | inl same ↦ absurd (omega (arith, gone, sym (ap (bit_at rest) same) ∙ there))
        | inr apart ↦ was.among k (sym (other k apart) ∙ there)
      ];
      raised = λ j front from within is.
          let inside : j - own < p = omega (arith, from, within, c.if-place-count.false, c.saturating_sub-count.ensures, ap length c.as_slice.ensures.vectors) in
          was.raised j front from within is ∙ ap (λ b. front ++ (has_place (j - own) digit && not (b == 1)) ∷ []) (sym (other (j - own) (λ same. omega (arith, inside, same))));
    }

-- no place is left
pub returns-clause-places : goal.returns-clause-places
returns-clause-places c = λ j front from within is.
    let own = c.args.own in
    c.ones.invariant.raised j front from within is
    ∙ ap (λ x. front ++ (has_place (j - own) c.args.digit && not (bit_at x (j - own) == 1)) ∷ []) c.ones-test.false
    ∙ ap (λ x. front ++ (has_place (j - own) c.args.digit && not (x == 1)) ∷ []) (bit_at-zero (j - own))
    ∙ ap (λ b. front ++ b ∷ []) (and-true (has_place (j - own) c.args.digit))
