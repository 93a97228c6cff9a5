use Rattle.std.proofs.Common.{◌≡◌, ◌∷◌, ◌++◌, length, take}
use Rattle.bsi_segments.proofs.columns.encode_bases.Given as goal

-- the bases so far
abbrev pub invariant-bases : goal.invariant-bases
invariant-bases l = l.out.items ≡ l.fn.out.items ++ (l.first ∷ length l.bases ∷ take l.i l.bases)
