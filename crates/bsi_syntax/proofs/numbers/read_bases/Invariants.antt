use Rattle.std.proofs.Common.{◌≡◌, ◌==◌, length, drop}
use Rattle.std.specs.List.{slice_split}
use Rattle.bsi_syntax.specs.Numbers.{u32s_of}
use Rattle.bsi_syntax.proofs.Values.{behind}
use Rattle.bsi_syntax.proofs.numbers.read_bases.Given as goal

-- the parts so far are the bases
abbrev pub invariant-bases : goal.invariant-bases
invariant-bases l = record {
  read : u32s_of (slice_split (λ byte. byte == 32) l.text) ≡ behind l.bases.items (u32s_of (drop (length l.yielded) (slice_split (λ byte. byte == 32) l.text)));
}
