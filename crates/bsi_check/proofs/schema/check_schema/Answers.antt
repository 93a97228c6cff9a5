use Rattle.std.proofs.Common.{None, Some, IfSome, inr, rules}
use Rattle.bsi_input.specs.declared.rows.SourceFault.TheVariants.{Read}
use Rattle.bsi_logical.specs.SchemaFiles.{IsSchemaFileFault}
use Rattle.bsi_logical.specs.declared.logical_text.LogicalFault.TheVariants.{NoColumns, Source}
use Rattle.bsi_check.proofs.schema.check_schema.Goals as goal
use Rattle.bsi_syntax.specs.Bytes.{KnownBytes}

-- a reader that fails says nothing of the text
unread : (known : KnownBytes) → IfSome known (λ text. IsSchemaFileFault text (Source Read))
unread None = tt
unread (Some text) = inr tt

pub returns-in-Err : goal.returns-in-Err
returns-in-Err g c =
    (Source Read, unread (g.S.Read.remaining c.args.file), (c.in_ok-add_unread.ensures.fault, c.in_ok-add_unread.ensures.reported))

pub returns-in-Err-NoColumns : goal.returns-in-Err-NoColumns
returns-in-Err-NoColumns g c = (NoColumns, search rules, c.in_ok-add_reason-in-Err-NoColumns.ensures)
