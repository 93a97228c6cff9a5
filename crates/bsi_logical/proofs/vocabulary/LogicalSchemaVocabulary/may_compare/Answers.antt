use Rattle.std.proofs.Common.{ap, arith, length}
use Rattle.bsi_schema.specs.Columns.{Declared}
use Rattle.bsi_logical.proofs.Alike.{columns_alike}
use Rattle.bsi_logical.proofs.vocabulary.LogicalSchemaVocabulary.may_compare.Goals as goal

pub returns-then-second-columns : goal.returns-then-second-columns
returns-then-second-columns c =
    let columns = ap (λ (s : Declared). length s.columns) c.schema.ensures.schema in
    columns_alike c.args.self.now c.args.first c.args.second c.are_alike.result (omega (arith, c.if-first-columns.false, c.columns-columns.ensures.columns, columns))
    (omega (arith, c.if-second-columns.true, c.columns-columns.ensures.columns, columns)) c.are_alike.ensures.alike
