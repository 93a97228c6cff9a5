use Rattle.std.proofs.Common.{◌≡◌, Vec, Global, ℕ, map, take}
use Rattle.bsi_logical.specs.Logical.{names_of}
use Rattle.bsi_logical.proofs.logical.making.list_names.Given as goal

-- the names so far
abbrev pub invariant-columns : goal.invariant-columns
invariant-columns l = map (λ (name : Vec ℕ Global). name.items) l.names.items ≡ take l.c (names_of l.schema)
