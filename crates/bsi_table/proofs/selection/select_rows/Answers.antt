use Rattle.std.proofs.Common.{◌≡◌, ◌+◌, ◌/◌, ◌++◌, true, false, drop, get_or, length, take, ap, ◌∙◌, arith, zero-add}
use Rattle.std.specs.Prelude.{◌&&◌}
use Rattle.std.proofs.lemmas.List.{get_or-replicate, length-replicate}
use Rattle.bsi_bits.specs.Packed.{bit_of, bits_of}
use Rattle.bsi_bits.proofs.Logic.{written}
use Rattle.bsi_rows.specs.Rows.{holds}
use Rattle.bsi_table.specs.Encoded.{row_in}
use Rattle.bsi_table.proofs.Selecting.{selected_rows}
use Rattle.bsi_table.proofs.selection.select_rows.Goals as goal

-- of all rows those are kept of which the predicate holds
pub returns : goal.returns
returns c =
    let columns = c.args.columns.now in
    let words = c.into_words-words.result in
    let new = c.narrow_each.new.words in
    let filled = c.in_ok-filled.ensures in
    let long : length words.items ≡ (c.args.rows + 63) / 64 =
    c.into_words-words.ensures.few ∙ ap (λ b. (length b + 63) / 64) filled ∙ ap (λ k. (k + 63) / 64) (length-replicate c.args.rows true) in
    let same : length new ≡ length words.items = omega (arith, c.narrow_each.auto.words, ap length c.deref_mut.ensures.value) in
    let stored : take words.len (new ++ drop (length new) words.items) ≡ new = written words.len new words.items (omega (arith, c.deref_mut.ensures.len)) (omega (arith, same)) in
    c.from_words.ensures ∙ ap (bits_of c.args.rows) stored
    ∙ selected_rows columns c.args.rows c.args.pred.now new
    (λ r below.
    c.in_ok-narrow_each.ensures r (omega (arith, below, long, ap length c.deref_mut.ensures.value)) (omega (arith, below))
    ∙ ap (λ b. b && holds c.args.pred.now (row_in columns (0 + r)))
    (ap (λ ws. bit_of ws r) c.deref_mut.ensures.value ∙ c.into_words-words.ensures.places r ∙ ap (λ b. get_or b r false) filled ∙ get_or-replicate c.args.rows r true false below)
    ∙ ap (λ q. holds c.args.pred.now (row_in columns q)) (zero-add r))
