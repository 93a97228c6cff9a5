use Rattle.std.proofs.Common.{◌≡◌, ℕ, ◌<◌, ◌≤◌, Bool, true, false, [], ◌∷◌, ◌++◌, length, inl, inr, ap, sym, ◌∙◌, arith, length-append}
use Rattle.std.specs.Prelude.{◌&&◌, nat_le, nat_lt}
use Rattle.std.proofs.lemmas.Bool.{cases_lt}
use Rattle.std.proofs.lemmas.Bool.Decides.{nat_tests}
use Rattle.bsi_bits.specs.BitLists.{bits_at}
use Rattle.bsi_kernels.specs.Places.{then_places}
use Rattle.bsi_kernels.proofs.PlaceBitmaps.{own_test, place_test}
use Rattle.bsi_components.proofs.places.push_digit.Goals as goal

none_early : (from to j : ℕ) → j < from → (nat_le from j && nat_lt j to) ≡ false
none_early from to j early = grind (arith, nat_tests)

none_late : (from to j : ℕ) → to ≤ j → (nat_le from j && nat_lt j to) ≡ false
none_late from to j late = grind (arith, nat_tests)

one_inside : (from to j : ℕ) → from ≤ j → j < to → (nat_le from j && nat_lt j to) ≡ true
one_inside from to j low high = grind (arith, nat_tests)

pub raise_last-requires-clause-some : goal.raise_last-requires-clause-some
raise_last-requires-clause-some c =
    omega (arith, ap length (c.push_zeros.ensures.bits 0 (omega (arith, c.requires.within))), length-append (bits_at c.args.bitmaps.now.vectors 0) (false ∷ []))

pub raise_places-requires-clause-some : goal.raise_places-requires-clause-some
raise_places-requires-clause-some c =
    omega (arith, c.raise_last.ensures.lengths 0, ap length (c.push_zeros.ensures.bits 0 (omega (arith, c.requires.within))), length-append (bits_at c.args.bitmaps.now.vectors 0) (false ∷ []))

pub returns-clause-bits : goal.returns-clause-bits
returns-clause-bits c = λ holds is j within.
    let old = bits_at c.args.bitmaps.now.vectors j in
    let own = c.args.own in
    let from = c.args.from in
    let to = c.args.to in
    let digit = c.args.digit in
    let zeros = c.push_zeros.ensures.bits j within in
    let write : (b : Bool) → b ≡ (nat_le from j && nat_lt j to) → j < own → old ++ b ∷ [] ≡ old ++ then_places own holds j digit ∷ [] = λ b same inside.
    ap (λ x. old ++ x ∷ []) (same ∙ sym (is j inside) ∙ sym (own_test own holds j digit inside)) in
    elim (cases_lt j own) [
      | inl inside ↦ c.raise_places.ensures.own j inside ∙ elim (cases_lt j from) [
        | inl early ↦ c.raise_last.ensures.before j early ∙ zeros ∙ write false (sym (none_early from to j early)) inside
        | inr low ↦ elim (cases_lt j to) [
          | inl high ↦ c.raise_last.ensures.raised j old low high zeros ∙ write true (sym (one_inside from to j low high)) inside
          | inr late ↦ c.raise_last.ensures.after j late ∙ zeros ∙ write false (sym (none_late from to j late)) inside
        ]
      ]
      | inr past ↦
          c.raise_places.ensures.places j old past (omega (arith, within, c.push_zeros.ensures.count, c.raise_last.ensures.count)) (c.raise_last.ensures.after j (omega (arith, past, c.requires.ones)) ∙ zeros)
          ∙ ap (λ x. old ++ x ∷ []) (sym (place_test own holds j digit past))
    ]
