use Rattle.std.proofs.Common.{ap}
use Rattle.bsi_logical.specs.Entries.{is_text}
use Rattle.bsi_survey.proofs.Saying.{adds_none, column_nulls, text_nulls}
use Rattle.bsi_survey.proofs.making.add_column_nulls.Goals as goal

pub returns-in-Text-clause-adds : goal.returns-in-Text-clause-adds
returns-in-Text-clause-adds c = adds_none c.args.logical.now

pub returns-in-Text-clause-nulls : goal.returns-in-Text-clause-nulls
returns-in-Text-clause-nulls c = text_nulls c.args.logical.now.nulls c.args.column.now (ap is_text c.in-Text.is)

pub returns-in_default-clause-nulls : goal.returns-in_default-clause-nulls
returns-in_default-clause-nulls c =
    column_nulls c.add_words.result c.add_words.new.logical.nulls c.args.column.now c.deref.result.now c.deref.ensures.value c.add_words.ensures.nulls
