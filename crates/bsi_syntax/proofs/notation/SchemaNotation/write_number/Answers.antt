use Rattle.std.proofs.Common.{refl, rules}
use Rattle.std.specs.Fmt.{signed_decimal}
use Rattle.bsi_syntax.proofs.Appended.{appends_it}
use Rattle.bsi_syntax.proofs.notation.SchemaNotation.write_number.Goals as goal

pub returns : goal.returns
returns c =
    appends_it _ c.extend_from_slice.result c.args.line.now.items (signed_decimal c.args.number) c.extend_from_slice.new.self.items refl
    (search rules)
