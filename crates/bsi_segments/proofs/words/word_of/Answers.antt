use Rattle.std.proofs.Common.{sym, arith}
use Rattle.std.proofs.lemmas.Nat.{le_bytes_8}
use Rattle.bsi_segments.proofs.words.word_of.Goals as goal

pub returns : goal.returns
returns c =
    let bytes = c.args.bytes.now in
    sym (le_bytes_8 bytes c.from_le_bytes.result c.requires (λ i. omega (arith, c.type_inv.bytes i)) c.from_le_bytes.ensures)
