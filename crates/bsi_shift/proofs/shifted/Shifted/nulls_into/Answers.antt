use Rattle.std.proofs.Common.{length, map, is_none, ap, sym, ◌∙◌}
use Rattle.bsi_columns.specs.AnyColumns.{any_entries}
use Rattle.bsi_shift.proofs.Shifting.{length-shifted_entries, shifted_entries-is, nulls_from}
use Rattle.bsi_shift.proofs.shifted.Shifted.nulls_into.Goals as goal

pub nulls_into-requires : goal.nulls_into-requires
nulls_into-requires c = ap (λ v. length (any_entries v.stored)) c.self.view_is ∙ sym (length-shifted_entries c.args.self.now) ∙ c.requires

pub returns-clause-bits : goal.returns-clause-bits
returns-clause-bits c =
    let now = c.args.self.now in
    c.nulls_into.ensures.bits ∙ ap (λ v. map is_none (any_entries v.stored)) c.self.view_is
    ∙ sym (nulls_from now.offset (any_entries now.stored)) ∙ ap (map is_none) (sym (shifted_entries-is now))
