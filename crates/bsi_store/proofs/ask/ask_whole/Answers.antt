use Rattle.bsi_store.proofs.ask.ask_whole.Goals as goal
use Rattle.bsi_table.specs.Index.{table_of}

pub returns-clause-asked : goal.returns-clause-asked
returns-clause-asked g c = record {
  table = table_of c.in_ok-opened.opened.saved.index;
  schema = c.in_ok-opened.opened.schema;
  opened = c.in_ok-opened.ensures.opened;
  answered = c.in_ok-answer_asks.ensures.ok;
}
