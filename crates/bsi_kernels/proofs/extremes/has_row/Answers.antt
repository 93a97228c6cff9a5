use Rattle.std.proofs.Common.{ℕ, ◌*◌, List, length, ap, ◌∙◌, subst}
use Rattle.bsi_bits.specs.Packed.{bit_of}
use Rattle.bsi_bits.specs.SetRows.{HasRow}
use Rattle.bsi_bits.proofs.SetRows.{some_set}
use Rattle.bsi_kernels.proofs.ExtremeSpans.{off_from_not}
use Rattle.bsi_kernels.proofs.extremes.has_row.Goals as goal

-- a word is not 0, and so has a bit
pub returns-clause-some : goal.returns-clause-some
returns-clause-some g c = λ test.
    let words = c.as_array-words.result.now in
    let is = c.as_array-words.ensures in
    let row = some_set words c.know_fits.ensures (λ none. off_from_not c.is_clear.result test (c.is_clear.ensures.1 none)) in
    let AtLength : ℕ → Type 0 = λ n. HasRow (bit_of c.args.span) (64 * n) in
    let AtWords : List ℕ → Type 0 = λ ws. HasRow (bit_of ws) (64 * length words) in
    subst AtLength (ap length is ∙ c.fits-span.0) (subst AtWords is row)
