use Rattle.std.proofs.Common.{length, map, ap, sym, ◌∙◌}
use Rattle.std.specs.Prelude.{not, is_some}
use Rattle.std.proofs.lemmas.List.{length-map}
use Rattle.bsi_slices.proofs.SliceEntries.{nulls_are}
use Rattle.bsi_slices.proofs.column.Column.nulls_into.Goals as goal

pub copy_from-requires : goal.copy_from-requires
copy_from-requires g c = sym c.requires ∙ sym (ap length c.not_null.ensures ∙ length-map (g.Self.Column.entries c.args.self.now) is_some)

-- a row that has no number is null
pub returns-clause-bits : goal.returns-clause-bits
returns-clause-bits g c =
    c.flip.ensures.bits ∙ ap (map not) (c.copy_from.ensures.bits ∙ c.not_null.ensures) ∙ nulls_are (g.Self.Column.entries c.args.self.now)
