use Rattle.bsi_store.proofs.Seen.{surveyed_first}
use Rattle.bsi_store.proofs.surveying.survey_file.Goals as goal

pub returns : goal.returns
returns g c = surveyed_first g.S.Read.remaining c.args.options.now c.args.file c.read.result c.read.ensures.sees c.read.ensures.dialect c.read.ensures.looked
