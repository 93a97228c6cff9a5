use Rattle.std.proofs.Common.{ℕ, ◌+◌, ◌-◌, ◌∷◌, [], ◌++◌, Bool, sym, ap, ◌∙◌, arith}
use Rattle.bsi_bits.specs.BitLists.{bits_at}
use Rattle.bsi_kernels.specs.Places.{then_places}
use Rattle.bsi_components.proofs.BitmapDigits.{one_below}
use Rattle.bsi_components.proofs.MarkedDigits.{marked_more, marked_digits, itself_marked}
use Rattle.bsi_components.proofs.component.encoding.ComponentEncoding.push_reserved.Goals as goal

-- there is a bitmap
pub push_digit-requires-clause-within : goal.push_digit-requires-clause-within
push_digit-requires-clause-within g c =
    let count = c.self.invariant.count in
    let low = g.met.M.Marking.sound.low c.self.inside.base in (
      omega (arith, low, c.self.invariant.least, c.first_stored.ensures),
      omega (arith, count.owned, c.first_stored.ensures),
      omega (arith, count.few, c.first_stored.ensures),
    )

-- the bitmaps are those of the digits with this one
pub invariant_of-self : goal.invariant_of-self
invariant_of-self g c =
    let base = c.self.inside.base in
    let old = c.self.inside.bitmaps.vectors in
    let below = rw (← c.self.view_is) at c.requires.below in
    let holds : ℕ → ℕ → Bool = λ i v. g.M.Marking.marks (g.M.Marking.first base + i) v in
    itself_marked g.met.M.Marking.sound (marked_more c.self.invariant c.push_digit.new.bitmaps.vectors c.push_digit.ensures.count (c.args.digit ∷ []) (one_below c.args.digit base below)
    (λ j within. c.push_digit.ensures.bits holds (λ i inside. c.marked_range-from.ensures.ones i (omega (arith, inside, c.first_stored.ensures))) j within
    ∙ ap (λ f. bits_at old j ++ then_places (base - f) holds j c.args.digit ∷ []) c.first_stored.ensures))

pub returns-clause-digits : goal.returns-clause-digits
returns-clause-digits g c =
    let base = c.self.inside.base in
    let old = c.self.inside.bitmaps.vectors in
    let below = rw (← c.self.view_is) at c.requires.below in
    let holds : ℕ → ℕ → Bool = λ i v. g.M.Marking.marks (g.M.Marking.first base + i) v in
    rw (← c.self.view_is) (sym (marked_digits g.met.M.Marking.sound (marked_more c.self.invariant c.push_digit.new.bitmaps.vectors c.push_digit.ensures.count (c.args.digit ∷ []) (one_below c.args.digit base below)
    (λ j within. c.push_digit.ensures.bits holds (λ i inside. c.marked_range-from.ensures.ones i (omega (arith, inside, c.first_stored.ensures))) j within
    ∙ ap (λ f. bits_at old j ++ then_places (base - f) holds j c.args.digit ∷ []) c.first_stored.ensures))))
