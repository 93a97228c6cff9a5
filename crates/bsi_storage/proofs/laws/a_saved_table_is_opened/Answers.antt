use Rattle.bsi_storage.proofs.Openings.{all_opened, first_opens, opened_cut, opened_of}
use Rattle.bsi_storage.proofs.laws.a_saved_table_is_opened.Goals as goal

pub returns-clause-whole : goal.returns-clause-whole
returns-clause-whole c = λ bytes t u notes kinds others more size after fault file opened. all_opened bytes t notes kinds file u others more size after fault opened

pub returns-clause-cut : goal.returns-clause-cut
returns-clause-cut c = λ bytes cut t u notes kinds others more size after fault file is opened. opened_cut bytes cut t u notes kinds others more size after fault file is opened

pub returns-clause-behind : goal.returns-clause-behind
returns-clause-behind c = λ bytes tail t u notes kinds others more size after fault file none opened. opened_of bytes tail t u notes kinds others more size after fault file none opened

pub returns-clause-first : goal.returns-clause-first
returns-clause-first c = λ bytes rest t notes kinds after fault file met. first_opens bytes t notes kinds file rest after fault met
