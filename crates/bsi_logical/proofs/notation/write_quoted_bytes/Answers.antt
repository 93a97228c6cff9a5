use Rattle.std.proofs.Common.{arith}
use Rattle.bsi_logical.specs.AnswerTexts.{quoted_byte}
use Rattle.bsi_logical.proofs.ValueTexts.{parts_all, parts_more}
use Rattle.bsi_logical.proofs.notation.write_quoted_bytes.Goals as goal

pub bytes-preserved : goal.bytes-preserved
bytes-preserved c =
    parts_more quoted_byte c.args.text.now c.bytes.byte-index _ c.args.line.now.items c.bytes.line.items c.write_quoted_byte.new.line.items (omega arith)
    c.in_ok-write_quoted_byte.ensures c.bytes.invariant

pub returns : goal.returns
returns c = parts_all quoted_byte c.args.text.now c.bytes.byte-index c.args.line.now.items c.bytes.line.items (omega arith) c.bytes.invariant
