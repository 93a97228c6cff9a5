use Rattle.bsi_syntax.proofs.SpellWords.{schema_names}
use Rattle.bsi_syntax.proofs.vocabulary.SchemaVocabulary.know_names.Goals as goal

pub returns : goal.returns
returns c = schema_names c.args.self.now c.columns.ensures.named
