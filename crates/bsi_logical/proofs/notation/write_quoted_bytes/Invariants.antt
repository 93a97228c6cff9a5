use Rattle.std.proofs.Common.{◌≡◌, ◌++◌, drop}
use Rattle.std.specs.List.{flat_map}
use Rattle.bsi_logical.specs.AnswerTexts.{quoted_byte}
use Rattle.bsi_logical.proofs.notation.write_quoted_bytes.Given as goal

-- the bytes that are left make up the text
abbrev pub invariant-bytes : goal.invariant-bytes
invariant-bytes l = l.line.items ++ flat_map quoted_byte (drop l.byte-index l.text) ≡ l.initial.line.items ++ flat_map quoted_byte l.text
