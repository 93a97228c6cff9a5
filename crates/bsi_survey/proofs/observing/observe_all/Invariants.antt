use Rattle.std.proofs.Common.{Vec, Global, ℕ, map}
use Rattle.bsi_survey.proofs.Readings.{HaveObservedSome}
use Rattle.bsi_survey.proofs.observing.observe_all.Given as goal

-- the columns have observed the records so far
abbrev pub invariant-records : goal.invariant-records
invariant-records g l =
    HaveObservedSome g.R.Read.remaining l.choice (map (λ (w : Vec ℕ Global). w.items) l.words) l.initial.input l.input l.initial.columns l.columns l.initial.counts l.counts
