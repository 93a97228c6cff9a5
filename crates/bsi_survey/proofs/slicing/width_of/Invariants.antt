use Rattle.std.proofs.Common.{ℕ, ◌<◌, ◌≤◌, ◌^◌}
use Rattle.bsi_survey.proofs.slicing.width_of.Given as goal

-- fewer places are too few
abbrev pub invariant-widths : goal.invariant-widths
invariant-widths l = (w : ℕ) → l.number < 2 ^ w → l.width ≤ w
