use Rattle.bsi_kinds.proofs.TimeTexts.{time_spells}
use Rattle.bsi_kinds.proofs.time_text.a_time_text_spells_its_number.Goals as goal

pub returns : goal.returns
returns c = time_spells
