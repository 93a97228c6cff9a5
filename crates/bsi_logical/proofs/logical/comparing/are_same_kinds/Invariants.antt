use Rattle.std.proofs.Common.{◌≡◌, ◌<◌, ℕ, get_or}
use Rattle.bsi_kinds.specs.declared.kind.Kind.TheVariants.{Decimal}
use Rattle.bsi_logical.proofs.logical.comparing.are_same_kinds.Given as goal

-- the kinds so far are the same
abbrev pub invariant-kinds : goal.invariant-kinds
invariant-kinds l = (j : ℕ) → j < l.k → get_or l.first j (Decimal 0) ≡ get_or l.second j (Decimal 0)
