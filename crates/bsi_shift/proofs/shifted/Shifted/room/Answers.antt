use Rattle.std.proofs.Common.{length, ap, arith}
use Rattle.bsi_columns.specs.AnyColumns.{any_entries}
use Rattle.bsi_shift.proofs.Shifting.{length-shifted_entries}
use Rattle.bsi_shift.proofs.shifted.Shifted.room.Goals as goal

pub returns-clause-within : goal.returns-clause-within
returns-clause-within c =
    omega (arith, c.room.ensures.within, length-shifted_entries c.args.self.now, ap (λ v. length (any_entries v.stored)) c.self.view_is)
