use Rattle.std.proofs.Common.{◌++◌, length, ap, ap₂, sym, ◌∙◌, arith}
use Rattle.std.specs.Option.{option_map}
use Rattle.std.proofs.lemmas.List.{map-append}
use Rattle.bsi_digits.specs.Offsets.{number_of}
use Rattle.bsi_columns.specs.AnyColumns.{any_entries, any_room}
use Rattle.bsi_shift.proofs.Shifting.{entries_from, length-shifted_entries, shifted_entries-is}
use Rattle.bsi_shift.proofs.shifted.Shifted.push_all_reserved.Goals as goal

pub push_all_reserved-requires-clause-room : goal.push_all_reserved-requires-clause-room
push_all_reserved-requires-clause-room c =
    let rows = ap (λ v. length (any_entries v.stored)) c.other.view_is in
    let room = ap (λ v. any_room v.stored) c.self.view_is in
    omega (arith, rows, room, length-shifted_entries c.args.other.now, c.requires.room)

pub returns-clause-entries : goal.returns-clause-entries
returns-clause-entries c =
    let old = c.self.inside in
    let others = c.other.inside in
    let offsets = ap (λ v. v.offset) c.other.view_is ∙ c.requires.alike.offset ∙ ap (λ v. v.offset) (sym c.self.view_is) in
    shifted_entries-is _ ∙ ap (entries_from old.offset) c.push_all_reserved.ensures.entries
    ∙ map-append (option_map (number_of old.offset)) (any_entries old.stored) (any_entries others.stored)
    ∙ ap₂ (λ xs ys. xs ++ ys)
    (ap (λ v. entries_from v.offset (any_entries v.stored)) c.self.view_is ∙ sym (shifted_entries-is c.args.self.now))
    (ap (λ o. entries_from o (any_entries others.stored)) (sym offsets) ∙ ap (λ v. entries_from v.offset (any_entries v.stored)) c.other.view_is ∙ sym (shifted_entries-is c.args.other.now))

pub returns-clause-room : goal.returns-clause-room
returns-clause-room c =
    let rows = ap (λ v. length (any_entries v.stored)) c.other.view_is in
    let room = ap (λ v. any_room v.stored) c.self.view_is in
    omega (arith, rows, room, length-shifted_entries c.args.other.now, c.push_all_reserved.ensures.room)
