use Rattle.std.proofs.Common.{◌≡◌, ◌<◌, ℕ}
use Rattle.bsi_kinds.specs.Dictionaries.{text_at}
use Rattle.bsi_kinds.proofs.dictionary.Dictionary.is_same.Given as goal

-- the texts so far are the same
abbrev pub invariant-texts : goal.invariant-texts
invariant-texts l = (k : ℕ) → k < l.number → text_at l.self k ≡ text_at l.other k
