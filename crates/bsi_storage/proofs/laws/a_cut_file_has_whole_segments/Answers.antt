use Rattle.bsi_storage.proofs.WholeSegments.{are_cut}
use Rattle.bsi_storage.proofs.laws.a_cut_file_has_whole_segments.Goals as goal

pub returns : goal.returns
returns c = λ bytes first rest t notes kinds file same some. are_cut bytes first rest t notes kinds file same some
