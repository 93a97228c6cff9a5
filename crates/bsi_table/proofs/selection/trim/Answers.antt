use Rattle.std.proofs.Common.{◌/◌, ◌<◌, get_or, length, sym, arith}
use Rattle.std.proofs.lemmas.Grind.{get_or_default_zero}
use Rattle.bsi_bits.proofs.Places.{cut_by_mask, cut_packed, cut_bits}
use Rattle.bsi_table.proofs.selection.trim.Goals as goal

pub returns-then-used-ne0-clause-packed : goal.returns-then-used-ne0-clause-packed
returns-then-used-ne0-clause-packed c =
    let words = c.args.span.now in
    let n = c.args.rows in
    let x = get_or words (n / 64) 0 in
    let inside : n / 64 < length words = omega (arith, c.requires.few, c.if-used-ne0.true) in
    rw (cut_by_mask words n c.requires.few c.if-used-ne0.true x (sym (get_or_default_zero words (n / 64) x inside)))
    (cut_packed words n c.requires.few c.if-used-ne0.true (omega (arith, c.requires.within)))

pub returns-then-used-ne0-clause-bits : goal.returns-then-used-ne0-clause-bits
returns-then-used-ne0-clause-bits c =
    let words = c.args.span.now in
    let n = c.args.rows in
    let x = get_or words (n / 64) 0 in
    let inside : n / 64 < length words = omega (arith, c.requires.few, c.if-used-ne0.true) in
    rw (cut_by_mask words n c.requires.few c.if-used-ne0.true x (sym (get_or_default_zero words (n / 64) x inside)))
    (cut_bits words n c.requires.few c.if-used-ne0.true)
