use Rattle.bsi_storage.proofs.OneTable.{one_table}
use Rattle.bsi_storage.proofs.laws.a_file_has_one_table.Goals as goal

pub returns : goal.returns
returns c = λ bytes t u notes others kinds more valid other. one_table bytes t u notes others kinds more valid other
