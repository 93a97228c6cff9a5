use Rattle.std.proofs.Common.{length, ap, sym, ◌∙◌, subst, ◌<◌, ◌^◌}
use Rattle.bsi_columns.specs.AnyColumns.{any_entries}
use Rattle.bsi_shift.proofs.Shifting.{shifted_entries-is, length-shifted_entries, entries_from}
use Rattle.bsi_shift.proofs.shifted.Shifted.reserve_one.Goals as goal

pub reserve_one-requires : goal.reserve_one-requires
reserve_one-requires c =
    subst (λ n. n < 2 ^ 32) (length-shifted_entries c.args.self.now ∙ ap (λ v. length (any_entries v.stored)) (sym c.self.view_is)) c.requires

pub returns-clause-entries : goal.returns-clause-entries
returns-clause-entries c =
    shifted_entries-is _ ∙ ap (entries_from c.self.inside.offset) c.reserve_one.ensures.entries
    ∙ ap (λ v. entries_from v.offset (any_entries v.stored)) c.self.view_is ∙ sym (shifted_entries-is c.args.self.now)
