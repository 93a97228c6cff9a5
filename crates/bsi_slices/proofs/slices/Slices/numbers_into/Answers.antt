use Rattle.std.proofs.Common.{◌≡◌, ◌+◌, ◌*◌, ◌<◌, None, get_or, length, ap, sym, ◌∙◌, subst, arith}
use Rattle.bsi_bits.specs.BitList.{word_count, BitList}
use Rattle.bsi_bits.specs.BitLists.{bits_at}
use Rattle.std.specs.Prelude.{List}
use Rattle.bsi_digits.specs.Comparisons.{number_or_zero}
use Rattle.bsi_slices.specs.Slices.{number}
use Rattle.bsi_slices.proofs.BlockNumbers.{entry_number}
use Rattle.bsi_slices.proofs.SliceEntries.{length-entries_in}
use Rattle.bsi_slices.proofs.slices.Slices.numbers_into.Goals as goal

pub numbers_by_places-requires-clause-within : goal.numbers_by_places-requires-clause-within
numbers_by_places-requires-clause-within c =
    let slices = c.self.inside.slices.vectors in
    let not_null = c.self.inside.not_null.bits in
    let rows : length c.args.self.now.entries ≡ length not_null = ap (λ v. length v.entries) (sym c.self.view_is) ∙ length-entries_in not_null slices in
    subst (λ (vectors : List BitList). (k : _) → k < length vectors → c.args.at < word_count (length (bits_at vectors k))) (sym c.as_slice.ensures.vectors)
    (λ k below. rw (c.self.invariant.even k below) (rw rows at c.requires))

pub returns-clause-numbers : goal.returns-clause-numbers
returns-clause-numbers c = λ r near row.
    let slices = c.self.inside.slices.vectors in
    let not_null = c.self.inside.not_null.bits in
    let within : 64 * c.args.at + r < length not_null = omega (arith, row, ap (λ v. length v.entries) (sym c.self.view_is), length-entries_in not_null slices) in
    c.numbers_by_places.ensures.numbers r near ∙ ap (λ vectors. number vectors (64 * c.args.at + r)) c.as_slice.ensures.vectors
    ∙ entry_number not_null slices (64 * c.args.at + r) c.self.invariant within
    ∙ ap (λ v. number_or_zero (get_or v.entries (64 * c.args.at + r) None)) c.self.view_is
