use Rattle.std.proofs.Common.{length, inl, inr, ap, arith}
use Rattle.std.proofs.lemmas.Bool.{cases_lt}
use Rattle.std.proofs.lemmas.List.{get_or_past}
use Rattle.bsi_bits.specs.BitLists.{no_bits}
use Rattle.bsi_bits.proofs.bitmaps.clear_each.Goals as goal

-- there is no vector past the last
pub returns-clause-empty : goal.returns-clause-empty
returns-clause-empty c = λ j. elim (cases_lt j (length c.vectors.vectors)) [
  | inl below ↦ c.vectors.invariant.empty j (omega arith)
  | inr past ↦ ap (λ b. b.bits) (get_or_past c.vectors.vectors j no_bits (omega arith))
]
