use Rattle.std.proofs.Common.{ap, sym, ◌∙◌, ◌++◌, ◌∷◌, [], rules}
use mir.Syntax.{w64}
use Rattle.std.specs.Option.{option_map}
use Rattle.std.proofs.lemmas.Int.{to_z-of_z}
use Rattle.bsi_digits.specs.Offsets.{number_of}
use Rattle.bsi_columns.specs.AnyColumns.{any_entries}
use Rattle.bsi_shift.proofs.Shifting.{entries_from, entries_from-push, shifted_entries-is}
use Rattle.bsi_shift.proofs.shifted.Shifted.push_reserved.Goals as goal

pub returns-clause-entries : goal.returns-clause-entries
returns-clause-entries c =
    let inside = c.self.inside in
    let entry_is = ap (λ o. option_map (number_of o) c.stored_from.result) (sym (to_z-of_z w64 inside.offset (search rules))) ∙ c.stored_from.ensures in
    shifted_entries-is _ ∙ ap (entries_from inside.offset) c.push_reserved.ensures.entries
    ∙ entries_from-push inside.offset (any_entries inside.stored) c.stored_from.result
    ∙ ap (λ entry. entries_from inside.offset (any_entries inside.stored) ++ entry ∷ []) entry_is
    ∙ ap (λ entries. entries ++ c.args.entry ∷ []) (ap (λ v. entries_from v.offset (any_entries v.stored)) c.self.view_is ∙ sym (shifted_entries-is c.args.self.now))
