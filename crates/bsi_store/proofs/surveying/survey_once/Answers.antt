use Rattle.bsi_store.proofs.Seen.{looks_of, surveyed}
use Rattle.bsi_store.proofs.surveying.survey_once.Goals as goal

pub returns : goal.returns
returns g c = surveyed g.S.Read.remaining _ c.in_ok-survey.survey c.in_ok-make_schema.field-0 c.in_ok-survey.ensures.seen c.in_ok-make_schema.ensures.fits

pub make_schema-requires : goal.make_schema-requires
make_schema-requires g c = looks_of g.S.Read.remaining _ _ c.in_ok-survey.survey c.in_ok-survey.ensures
