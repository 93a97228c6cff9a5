use Rattle.std.proofs.Common.{◌≡◌, ◌<◌, ℕ, false, length, map, get_or, sym, ◌∙◌, arith, ap}
use Rattle.std.proofs.lemmas.List.{length-map}
use Rattle.bsi_bits.specs.Packed.{bit_of}
use Rattle.bsi_bits.proofs.Reading.{bits_are}
use Rattle.bsi_slices.specs.Decisions.{relates}
use Rattle.bsi_columns.specs.DigitTests.{answers}
use Rattle.bsi_columns.specs.Decomposed.{entries_of}
use Rattle.bsi_bits.specs.BitList.{BitList, word_count}
use Rattle.bsi_columns.proofs.EntriesFrom.{rows_of}
use Rattle.bsi_columns.proofs.decomposed.Decomposed.select.Goals as goal

pub returns-in_ok-words : goal.returns-in_ok-words
returns-in_ok-words g c =
    let inside = c.self.inside in
    let bs = inside.bases in
    let not_null = inside.not_null.bits in
    let ds = map g.E.Encoding.digits inside.components.items in
    let entries = entries_of bs not_null ds in
    let chosen = map (answers (λ x. relates c.args.test.relation x c.args.test.constant) c.args.test.expected) entries in
    let bits : (p : ℕ) → p < length entries → bit_of c.in_ok-words.words.items p ≡ get_or chosen p false = rw (← c.self.view_is) at c.in_ok-words.ensures.bits in
    let rows : c.len.result ≡ length entries = c.len.ensures.len ∙ rows_of bs not_null ds entries c.self.invariant.0 in
    let long : length chosen ≡ c.len.result = length-map entries _ ∙ sym rows in
    rw (← c.self.view_is)
    (c.from_words.ensures ∙ sym (bits_are c.len.result c.in_ok-words.words.items chosen long (λ i below. sym (bits i (omega (arith, rows))))))

pub from_words-requires-clause-few : goal.from_words-requires-clause-few
from_words-requires-clause-few g c =
    let inside = c.self.inside in
    let not_null = inside.not_null.bits in
    let ds = map g.E.Encoding.digits inside.components.items in
    let entries = entries_of inside.bases not_null ds in
    let few : length c.in_ok-words.words.items ≡ word_count (length entries) = rw (← c.self.view_is) at c.in_ok-words.ensures.few in
    few ∙ ap word_count (sym (c.len.ensures.len ∙ rows_of inside.bases not_null ds entries c.self.invariant.0))

pub select_vectors-requires-clause-same : goal.select_vectors-requires-clause-same
select_vectors-requires-clause-same g c =
    let inside = c.self.inside in
    let not_null = inside.not_null.bits in
    let ds = map g.E.Encoding.digits inside.components.items in
    let entries = entries_of inside.bases not_null ds in
    rw (← c.self.view_is)
    (sym (ap length c.in_ok-selection.ensures ∙ ap (λ (b : BitList). length b.bits) c.bits.ensures ∙ rows_of inside.bases not_null ds entries c.self.invariant.0))
