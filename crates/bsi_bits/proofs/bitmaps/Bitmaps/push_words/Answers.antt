use Rattle.std.proofs.Common.{◌≡◌, ℕ, ◌+◌, ◌<◌, ◌≤◌, [], ◌∷◌, length, get_or, ap, ◌∙◌, arith, length-append}
use Rattle.bsi_bits.specs.BitLists.{bits_at}
use Rattle.bsi_bits.specs.Packed.{bits_of}
use Rattle.bsi_bits.proofs.Reading.{length-bits_of}
use Rattle.bsi_bits.proofs.bitmaps.Bitmaps.push_words.Goals as goal

-- each vector has so many bits more, and room for so many less
pub invariant_of-self : goal.invariant_of-self
invariant_of-self c =
    let all = c.vectors.invariant in
    let room : c.args.count ≤ c.self.inside.room = rw (← c.self.view_is) at c.requires.room in
    let last : (j : ℕ) → j < length c.vectors.self-inside.vectors.items → j < c.vectors.j = λ j below. omega (arith, below, all.long, c.vectors-test.false, c.requires.long, ap (λ b. length b.vectors) c.self.view_is) in
    let long : (j : ℕ) → j < length c.vectors.self-inside.vectors.items → length (bits_at c.vectors.self-inside.vectors.items j) ≡ length (bits_at c.self.inside.vectors.items j) + c.args.count = λ j below.
    ap length (all.done j (last j below))
    ∙ length-append (bits_at c.self.inside.vectors.items j) (bits_of c.args.count (get_or c.args.words.now j 0 ∷ []))
    ∙ ap (λ n. length (bits_at c.self.inside.vectors.items j) + n) (length-bits_of c.args.count (get_or c.args.words.now j 0 ∷ [])) in
    let some : 0 < length c.vectors.self-inside.vectors.items = omega (arith, all.long, c.self.invariant.some) in
    record {
      some = some;
      within = omega (arith, c.self.invariant.within, room, all.room, long 0 some);
      even = λ j below. omega (arith, long j below, long 0 some, c.self.invariant.even j (omega (arith, below, all.long)));
      ample = λ j below. omega (arith, all.spare j (last j below), all.room, c.self.invariant.ample j (omega (arith, below, all.long)));
    }
