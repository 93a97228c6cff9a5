use Rattle.std.proofs.Common.{◌∙◌}
use Rattle.std.proofs.lemmas.Slice.Zip.{AllZip-long}
use Rattle.bsi_store.proofs.Seen.{all_right}
use Rattle.bsi_store.proofs.surveying.survey_all.Goals as goal

pub join_surveys-requires-clause-many : goal.join_surveys-requires-clause-many
join_surveys-requires-clause-many g c = AllZip-long _ c.in_ok-files.files.items c.in_ok-surveys.surveys.items c.in_ok-surveys.ensures ∙ c.in_ok-files.ensures.many

pub join_surveys-requires-clause-each : goal.join_surveys-requires-clause-each
join_surveys-requires-clause-each g c = λ k d within. all_right _ c.in_ok-files.files.items c.in_ok-surveys.surveys.items c.in_ok-surveys.ensures k d within
