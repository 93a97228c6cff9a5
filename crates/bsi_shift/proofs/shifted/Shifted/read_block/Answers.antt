use Rattle.std.proofs.Common.{◌≡◌, ◌+◌, ◌*◌, ◌<◌, ◌^◌, pos, ◌<ℤ◌, None, false, is_some, length, get_or, ap, sym, subst, ◌∙◌, rules, arith}
use mir.Syntax.{w64}
use Rattle.std.proofs.lemmas.Int.{to_z-of_z}
use Rattle.std.proofs.lemmas.List.{length-map}
use Rattle.bsi_digits.specs.Offsets.{number_of}
use Rattle.bsi_columns.specs.AnyColumns.{any_entries}
use Rattle.bsi_shift.specs.Shifted.{shifted_entries}
use Rattle.bsi_shift.proofs.ColumnComparisons.{entry_read}
use Rattle.bsi_shift.proofs.Shifting.{entry_from, length-shifted_entries}
use Rattle.bsi_shift.proofs.shifted.Shifted.read_block.Goals as goal

pub numbers_into-requires : goal.numbers_into-requires
numbers_into-requires c =
    let long = ap (λ v. length (any_entries v.stored)) c.self.view_is ∙ sym (length-shifted_entries c.args.self.now) in
    omega (arith, c.requires, long)

pub bounds-words-at : goal.bounds-words-at
bounds-words-at c =
    let long = ap (λ v. length (any_entries v.stored)) c.self.view_is ∙ sym (length-shifted_entries c.args.self.now) in
    omega (arith, c.requires, long, c.words.ensures.few, ap length c.not_null.ensures, length-map (any_entries c.self.inside.stored) is_some)

pub offset_bounds-words-at : goal.offset_bounds-words-at
offset_bounds-words-at c =
    let long = ap (λ v. length (any_entries v.stored)) c.self.view_is ∙ sym (length-shifted_entries c.args.self.now) in
    let within : c.args.at < length c.words.result.now = omega (arith, c.requires, long, c.words.ensures.few, ap length c.not_null.ensures, length-map (any_entries c.self.inside.stored) is_some) in
    search rules

pub returns-clause-entries : goal.returns-clause-entries
returns-clause-entries c = λ r near.
    let inside = c.self.inside in
    let stored = any_entries inside.stored in
    let n = get_or c.numbers_into.new.numbers r 0 in
    entry_read inside.offset stored inside.size c.args.at r c.words.result.now c.numbers_into.new.numbers c.add_offset.new.numbers near
    (omega (arith, c.self.invariant.some)) c.self.invariant.small c.self.invariant.within c.self.invariant.below
    (λ i. c.words.ensures.places i ∙ ap (λ bits. get_or bits i false) c.not_null.ensures) (c.numbers_into.ensures.numbers r near)
    (subst (λ o. n < 2 ^ 63 → number_of o n <ℤ pos (2 ^ 63) → get_or c.add_offset.new.numbers r (pos 0) ≡ number_of o n) (to_z-of_z w64 inside.offset (search rules)) (c.add_offset.ensures.numbers r near))
    ∙ sym (entry_from (record { stored = inside.stored; offset = inside.offset }) (64 * c.args.at + r))
    ∙ ap (λ v. get_or (shifted_entries v) (64 * c.args.at + r) None) c.self.view_is
