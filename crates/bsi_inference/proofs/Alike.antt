-- Parts of a column that began alike, for callers of `Candidates::join`.
use Rattle.std.proofs.Common.{ℕ, sym, ◌∙◌}
use Rattle.bsi_inference.specs.ColumnCandidates.{HaveSameForms, LooksFor}
use Rattle.bsi_inference.specs.declared.candidates.Candidates.{Candidates}

-- two parts that look for the same are alike
pub alike_from : (point : ℕ) (first second : Candidates) → LooksFor point first → LooksFor point second → HaveSameForms first second
alike_from point first second one two = record { point = one.decimals ∙ sym two.decimals; rounding = one.rounding ∙ sym two.rounding; forms = one.forms ∙ sym two.forms }

-- what is alike looks for the same
pub looks_still : (point : ℕ) (old new : Candidates) → LooksFor point old → HaveSameForms old new → LooksFor point new
looks_still point old new looks alike = record { decimals = sym alike.point ∙ looks.decimals; rounding = sym alike.rounding ∙ looks.rounding; forms = sym alike.forms ∙ looks.forms }
