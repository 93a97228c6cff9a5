use Rattle.std.proofs.Common.{ap, sym, ◌∙◌, rules}
use mir.Syntax.{w64}
use Rattle.std.proofs.lemmas.Int.{to_z-of_z}
use Rattle.bsi_columns.specs.AnyColumns.{any_entries}
use Rattle.bsi_shift.proofs.Shifting.{entries_from, shifted_entries-is}
use Rattle.bsi_shift.proofs.shifted.Shifted.copy.Goals as goal

pub returns-clause-entries : goal.returns-clause-entries
returns-clause-entries c =
    let inside = c.self.inside in
    shifted_entries-is _ ∙ ap (λ o. entries_from o (any_entries c.in_ok-copy.field-0)) (to_z-of_z w64 inside.offset (search rules))
    ∙ ap (entries_from inside.offset) c.in_ok-copy.ensures.entries
    ∙ ap (λ v. entries_from v.offset (any_entries v.stored)) c.self.view_is ∙ sym (shifted_entries-is c.args.self.now)
