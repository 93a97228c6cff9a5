use Rattle.std.proofs.Common.{◌≡◌, [], Some, get_or, sym, subst, rules}
use Rattle.csv.specs.Records.{fields_of}
use Rattle.bsi_logical.specs.Records.{word_of, Does}
use Rattle.bsi_logical.specs.declared.logical.declaring.Word.TheVariants.{Column}
use Rattle.bsi_logical.proofs.Building.{said_column}
use Rattle.bsi_logical.proofs.logical.LogicalSchema.declare.Goals as goal

pub returns-in-Some-Column : goal.returns-in-Some-Column
returns-in-Some-Column c =
    let is : word_of (get_or (fields_of c.args.fields.now) 0 []) ≡ Some Column = search rules in
    subst (λ said. Does said c.args.self.now c.declare_column.new.self c.declare_column.result) (sym (said_column c.args.self.now (fields_of c.args.fields.now) is)) c.declare_column.ensures
