use Rattle.std.proofs.Common.{length, ap, ◌∙◌, arith}
use Rattle.bsi_columns.specs.AnyColumns.{any_entries, any_room}
use Rattle.bsi_shift.proofs.Shifting.{entries_from, length-shifted_entries, shifted_entries-is}
use Rattle.bsi_shift.proofs.shifted.Shifted.clear.Goals as goal

pub returns-clause-entries : goal.returns-clause-entries
returns-clause-entries c = shifted_entries-is _ ∙ ap (entries_from c.self.inside.offset) c.clear.ensures.entries

pub returns-clause-room : goal.returns-clause-room
returns-clause-room c =
    let rows = ap (λ v. length (any_entries v.stored)) c.self.view_is in
    let room = ap (λ v. any_room v.stored) c.self.view_is in
    omega (arith, rows, room, length-shifted_entries c.args.self.now, c.clear.ensures.room)
