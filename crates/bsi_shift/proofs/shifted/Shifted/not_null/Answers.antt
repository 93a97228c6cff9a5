use Rattle.std.proofs.Common.{map, is_some, ap, sym, ◌∙◌}
use Rattle.bsi_columns.specs.AnyColumns.{any_entries}
use Rattle.bsi_shift.proofs.Shifting.{shifted_entries-is, not_null_from}
use Rattle.bsi_shift.proofs.shifted.Shifted.not_null.Goals as goal

pub returns : goal.returns
returns c =
    let now = c.args.self.now in
    c.not_null.ensures ∙ ap (λ v. map is_some (any_entries v.stored)) c.self.view_is
    ∙ sym (not_null_from now.offset (any_entries now.stored)) ∙ ap (map is_some) (sym (shifted_entries-is now))
