use Rattle.std.proofs.Common.{◌≤◌, ◌<◌, ◌^◌, false, length, ap₂, sym, ◌∙◌, arith}
use Rattle.std.specs.Prelude.{count_by}
use Rattle.std.specs.Simd.Lanes.{zip2}
use Rattle.bsi_bits.specs.BitList.{without}
use Rattle.bsi_bits.proofs.CountingPairs.{count_pairs}
use Rattle.bsi_bits.proofs.InWords.{shown_packed, shown_bits}
use Rattle.bsi_bits.proofs.Reading.{length-bits_of}
use Rattle.bsi_kernels.specs.Ranks.{narrowed_word}
use Rattle.bsi_kernels.proofs.Narrowing.{narrowed_bitwise, narrowed_less}
use Rattle.bsi_kernels.proofs.ranks.count_clear.Goals as goal

pub returns : goal.returns
returns c =
    let selection = c.args.selection.now.bits in
    let slice = c.args.place.now.bits in
    let words = c.words-words.result.now in
    let others = c.words-others.result.now in
    let few : length selection ≤ 2 ^ 32 = omega (arith, c.len.ensures.len, c.len.ensures.within) in
    let rows = shown_packed selection words c.words-words.ensures.few c.words-words.ensures.places few in
    let shown = shown_packed slice others c.words-others.ensures.few c.words-others.ensures.places (omega (arith, few, c.requires)) in
    let same = length-bits_of (length selection) words ∙ c.requires ∙ sym (length-bits_of (length slice) others) in
    c.count_words.ensures
    ∙ count_pairs (length selection) (length slice) words others rows shown same c.know_fits.ensures
    (λ y. y < 2 ^ 64) (narrowed_word false) without (narrowed_bitwise false) c.know_fits-2.ensures (narrowed_less false)
    ∙ sym (ap₂ (λ fs bs. count_by (λ b. b) (zip2 without fs bs)) (shown_bits selection words c.words-words.ensures.few c.words-words.ensures.places)
    (shown_bits slice others c.words-others.ensures.few c.words-others.ensures.places))
