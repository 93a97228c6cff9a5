use Rattle.std.proofs.Common.{◌++◌, length, ap, ap₂, sym, ◌∙◌, arith}
use Rattle.bsi_slices.proofs.SliceEntries.{length-entries_in}
use Rattle.bsi_slices.proofs.SliceGrowth.{entries_all, sliced_all}
use Rattle.bsi_slices.proofs.slices.SlicesColumn.push_all_reserved.Goals as goal

-- there are as many marks as entries, and as many bits in each slice
pub push_all_reserved-requires-clause-room : goal.push_all_reserved-requires-clause-room
push_all_reserved-requires-clause-room c =
    let others = c.other.inside in
    let rows = ap (λ e. length e.entries) c.other.view_is in
    let room = ap (λ e. e.room) c.self.view_is in
    omega (arith, rows, room, c.requires.room, length-entries_in others.not_null.bits others.slices.vectors, c.other.invariant.some, c.other.invariant.even 0 c.other.invariant.some)

pub push_all_reserved-requires-2 : goal.push_all_reserved-requires-2
push_all_reserved-requires-2 c =
    let others = c.other.inside in
    let rows = ap (λ e. length e.entries) c.other.view_is in
    let room = ap (λ e. e.room) c.self.view_is in
    omega (arith, rows, room, c.requires.room, length-entries_in others.not_null.bits others.slices.vectors)

pub invariant_of-self : goal.invariant_of-self
invariant_of-self c =
    let old = c.self.inside in
    let others = c.other.inside in
    let width = ap (λ e. e.width) c.other.view_is ∙ c.requires.form ∙ ap (λ e. e.width) (sym c.self.view_is) in
    sliced_all old.not_null.bits others.not_null.bits c.push_all_reserved-2.new.self.bits old.slices.vectors others.slices.vectors c.push_all_reserved.new.self.vectors
    c.self.invariant c.other.invariant width c.push_all_reserved-2.ensures.bits c.push_all_reserved.ensures.count c.push_all_reserved.ensures.bits (omega (arith, c.len.ensures))

pub returns-clause-entries : goal.returns-clause-entries
returns-clause-entries c =
    let old = c.self.inside in
    let others = c.other.inside in
    let width = ap (λ e. e.width) c.other.view_is ∙ c.requires.form ∙ ap (λ e. e.width) (sym c.self.view_is) in
    entries_all old.not_null.bits others.not_null.bits c.push_all_reserved-2.new.self.bits old.slices.vectors others.slices.vectors c.push_all_reserved.new.self.vectors
    c.self.invariant c.other.invariant width c.push_all_reserved-2.ensures.bits c.push_all_reserved.ensures.count c.push_all_reserved.ensures.bits
    ∙ ap₂ (λ xs ys. xs ++ ys) (ap (λ e. e.entries) c.self.view_is) (ap (λ e. e.entries) c.other.view_is)

pub returns-clause-room : goal.returns-clause-room
returns-clause-room c =
    let others = c.other.inside in
    let rows = ap (λ e. length e.entries) c.other.view_is in
    let room = ap (λ e. e.room) c.self.view_is in
    omega (arith, rows, room, length-entries_in others.not_null.bits others.slices.vectors, c.other.invariant.some, c.other.invariant.even 0 c.other.invariant.some, c.push_all_reserved.ensures.room, c.push_all_reserved-2.ensures.room)
