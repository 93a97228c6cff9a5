use Rattle.std.proofs.Common.{◌≤◌, ◌+◌, ◌-◌, ◌++◌, length, length-take, length-drop, drop, map, ap, ◌∙◌, arith}
use Rattle.bsi_bits.specs.BitLists.{bits_at}
use Rattle.bsi_kernels.specs.Places.{then_places}
use Rattle.bsi_kernels.proofs.MarkPlaces.{stored_marks}
use Rattle.bsi_kernels.proofs.PlaceBitmaps.{count_moved}
use Rattle.bsi_components.proofs.component.push_marked.Goals as goal

pub mark_block-requires-clause-count : goal.mark_block-requires-clause-count
mark_block-requires-clause-count g c =
    let first = g.M.Marking.first c.args.base in
    count_moved c.args.base first (c.args.base - first) (length c.args.bitmaps.now.vectors) (length c.args.words.now)
    (omega (arith, g.met.M.Marking.sound.low c.args.base, c.requires.base.0)) c.requires.long c.requires.places

-- the words that are pushed mark the digits from the first with a bitmap on, and then the binary places
pub push_words-requires-clause-clear : goal.push_words-requires-clause-clear
push_words-requires-clause-clear g c =
    (stored_marks g.M.Marking.marks c.args.base c.first_stored-first.result c.args.block.now c.mark_block.new.words
    (omega (arith, g.met.M.Marking.sound.low c.args.base, c.first_stored-first.ensures, c.requires.base.0)) c.requires.few c.mark_block.ensures.marks).clear

pub returns-clause-bits : goal.returns-clause-bits
returns-clause-bits g c = λ j within.
    let words = c.mark_block.new.words in
    let first = c.first_stored-first.result in
    let long = length-take (length words - first) (drop first words) in
    let rest = length-drop first words in
    let low : first ≤ c.args.base = omega (arith, g.met.M.Marking.sound.low c.args.base, c.first_stored-first.ensures, c.requires.base.0) in
    let marked = stored_marks g.M.Marking.marks c.args.base first c.args.block.now words low c.requires.few c.mark_block.ensures.marks in
    c.push_words.ensures.bits j within
    ∙ ap (λ bits. bits_at c.args.bitmaps.now.vectors j ++ bits)
    (marked.each j (omega (arith, within, long, rest, c.requires.long, c.mark_block.ensures.long, c.first_stored-first.ensures))
    ∙ ap (λ f. map (then_places (c.args.base - f) (λ i v. g.M.Marking.marks (f + i) v) j) c.args.block.now) c.first_stored-first.ensures)
