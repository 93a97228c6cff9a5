-- What the schema of a table is for row files, questions and answers, whether it is of whole numbers or of kinds.
use Rattle.bsi_schema.specs.Columns.{Declared}
use Rattle.bsi_input.specs.Formats.{Format}
use Rattle.bsi_input.specs.RowFiles.{plain_format}
use Rattle.bsi_syntax.specs.Notations.{whole_texts, NumberTexts}
use Rattle.bsi_syntax.specs.Vocabularies.{schema_vocabulary, Words}
use Rattle.bsi_logical.specs.AnswerTexts.{logical_texts}
use Rattle.bsi_logical.specs.LogicalRows.{logical_format}
use Rattle.bsi_logical.specs.Meanings.{logical_vocabulary}
use Rattle.bsi_logical.specs.declared.table_schema.TableSchema.{TableSchema}
use Rattle.bsi_logical.specs.declared.table_schema.TableSchema.TheVariants.{Logical, Plain}

-- The columns of whole numbers.
abbrev pub columns_of : TableSchema → Declared
columns_of (Plain schema) = schema
columns_of (Logical logical) = logical.schema

-- How row files give rows.
abbrev pub format_of : TableSchema → Format
format_of (Plain schema) = plain_format schema
format_of (Logical logical) = logical_format logical

-- What the words of questions mean.
abbrev pub words_of : TableSchema → Words
words_of (Plain schema) = schema_vocabulary schema
words_of (Logical logical) = logical_vocabulary logical

-- Which texts answers have for numbers.
abbrev pub texts_of : TableSchema → NumberTexts
texts_of (Plain schema) = whole_texts
texts_of (Logical logical) = logical_texts logical
