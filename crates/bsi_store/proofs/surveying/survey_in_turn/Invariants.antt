use Rattle.bsi_store.specs.Surveyed.{AreSurveyed}
use Rattle.bsi_store.proofs.surveying.survey_in_turn.Given as goal

-- the files so far were seen
abbrev pub invariant-files : goal.invariant-files
invariant-files g l = AreSurveyed g.S.Read.remaining l.fn.options l.k l.survey
