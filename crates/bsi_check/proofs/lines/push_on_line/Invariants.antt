use Rattle.std.proofs.Common.{◌≡◌, ◌++◌, take}
use Rattle.bsi_check.specs.Reasons.{one_line}
use Rattle.bsi_check.proofs.lines.push_on_line.Given as goal

-- the bytes so far were added
abbrev pub invariant-bytes : goal.invariant-bytes
invariant-bytes l = l.line.items ≡ l.initial.line.items ++ one_line (take l.byte-index l.bytes)
