use Rattle.std.proofs.Common.{◌<◌, ◌^◌, Bool, false, length, ap, sym, ◌∙◌, arith}
use Rattle.std.specs.Prelude.{count_by, not, ◌&&◌, if◌then◌else◌}
use Rattle.std.specs.Simd.Lanes.{zip2}
use Rattle.bsi_bits.specs.Packed.{bits_of}
use Rattle.bsi_bits.proofs.CountingPairs.{count_pairs}
use Rattle.bsi_bits.proofs.Logic.{zipped_packed, zipped_bits}
use Rattle.bsi_bits.proofs.Reading.{length-bits_of}
use Rattle.bsi_kernels.specs.Ranks.{narrowed_word}
use Rattle.bsi_bits.proofs.InWords.{shown_packed, shown_bits}
use Rattle.bsi_kernels.proofs.Narrowing.{narrowed_bitwise, narrowed_less}
use Rattle.bsi_kernels.proofs.ranks.narrow.Goals as goal

pub returns-clause-packed : goal.returns-clause-packed
returns-clause-packed c =
    let slice = c.args.place.now.bits in
    let words = c.words-words.result.now in
    let shown = shown_packed slice words c.words-words.ensures.few c.words-words.ensures.places c.requires.packed.within in
    rw c.narrow_words.ensures.chosen
    (zipped_packed (λ y. y < 2 ^ 64) (narrowed_word c.args.is_set) (λ f b. f && (if c.args.is_set then b else not b)) (narrowed_bitwise c.args.is_set)
    (length slice) c.args.chosen.now words c.requires.packed shown c.know_fits.ensures)

pub returns-clause-chosen : goal.returns-clause-chosen
returns-clause-chosen c =
    let slice = c.args.place.now.bits in
    let words = c.words-words.result.now in
    let shown = shown_packed slice words c.words-words.ensures.few c.words-words.ensures.places c.requires.packed.within in
    let sel : Bool → Bool → Bool = λ f b. f && (if c.args.is_set then b else not b) in
    ap (bits_of (length slice)) c.narrow_words.ensures.chosen
    ∙ zipped_bits (λ y. y < 2 ^ 64) (narrowed_word c.args.is_set) sel (narrowed_bitwise c.args.is_set) (length slice) c.args.chosen.now words c.requires.packed shown c.know_fits.ensures
    ∙ ap (zip2 sel (bits_of (length slice) c.args.chosen.now)) (sym (shown_bits slice words c.words-words.ensures.few c.words-words.ensures.places))

pub returns-clause-clear : goal.returns-clause-clear
returns-clause-clear c =
    let slice = c.args.place.now.bits in
    let next = c.args.next.now.bits in
    let others = c.words-others.result.now in
    let rows = c.narrow_words.new.chosen in
    let left = returns-clause-packed c in
    let shown = shown_packed next others c.words-others.ensures.few c.words-others.ensures.places (omega (arith, c.requires.same, c.requires.packed.within)) in
    let same = length-bits_of (length slice) rows ∙ sym c.requires.same ∙ sym (length-bits_of (length next) others) in
    c.narrow_words.ensures.clear
    ∙ count_pairs (length slice) (length next) rows others left shown same (λ k. omega (arith, c.type_inv.chosen k))
    (λ y. y < 2 ^ 64) (narrowed_word false) (λ f b. f && not b) (narrowed_bitwise false) c.know_fits-2.ensures (narrowed_less false)
    ∙ ap (λ bits. count_by (λ b. b) (zip2 (λ f b. f && not b) (bits_of (length slice) rows) bits)) (sym (shown_bits next others c.words-others.ensures.few c.words-others.ensures.places))
