use Rattle.std.proofs.Common.{length, ap, sym, ◌∙◌}
use Rattle.bsi_columns.specs.AnyColumns.{any_entries}
use Rattle.bsi_shift.proofs.Shifting.{length-shifted_entries}
use Rattle.bsi_shift.proofs.shifted.Shifted.len.Goals as goal

pub returns-clause-len : goal.returns-clause-len
returns-clause-len c = c.len.ensures.len ∙ ap (λ v. length (any_entries v.stored)) c.self.view_is ∙ sym (length-shifted_entries c.args.self.now)
