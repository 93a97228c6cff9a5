use Rattle.std.proofs.Common.{◌≡◌, ◌<◌, [], length, map, ap, ◌∙◌, arith}
use Rattle.std.proofs.lemmas.List.{length-map}
use Rattle.std.proofs.lemmas.List.Elements.{All-nil}
use Rattle.bsi_digits.specs.Digits.{product}
use Rattle.bsi_digits.specs.Comparisons.{number_or_zero}
use Rattle.bsi_columns.specs.Decomposed.{entries_of, Decomposes}
use Rattle.bsi_columns.proofs.EntriesFrom.{digits_long, entries_from, decomposed_itself, rows_of}
use Rattle.bsi_columns.proofs.ComponentLists.{length-map_is}
use Rattle.bsi_columns.proofs.decomposed.DecomposedColumn.clear.Goals as goal

-- the bitmap and each component are empty, and have room for the rows that went out
pub invariant_of-self : goal.invariant_of-self
invariant_of-self g c =
    let old = c.self.inside in
    let bs = old.bases in
    let ds = map g.E.Encoding.digits old.components.items in
    let items = c.clear_each.new.components.items in
    let all = map g.E.Encoding.digits items in
    let bits = c.clear.new.self.bits in
    let entries = entries_of bs old.not_null.bits ds in
    let bases : map g.E.Encoding.base_of items ≡ bs = c.clear_each.ensures.bases ∙ c.self.invariant.1 in
    let count : length old.components.items ≡ length bs = length-map_is g.E.Encoding.base_of old.components.items bs c.self.invariant.1 in
    let long : length items ≡ length bs = length-map_is g.E.Encoding.base_of items bs bases in
    let none : Decomposes bs bits all [] = record {
      count = length-map items g.E.Encoding.digits ∙ long;
      not_null_is = c.clear.ensures.bits;
      digits_are = λ i below. c.clear_each.ensures.digits i (omega (arith, below, count));
      below = All-nil (λ e. number_or_zero e < product bs);
    } in (
      decomposed_itself bs bits all [] none,
      bases,
      record {
        within = omega (arith, ap length c.clear.ensures.bits, c.len.ensures.len, c.self.invariant.2.within);
        bitmap = omega (arith, c.clear.ensures.room, c.len.ensures.len, c.self.invariant.2.bitmap);
        each = λ i below.
            let here : i < length bs = omega (arith, below, long, length-map items g.E.Encoding.room_of) in
            omega (
              arith,
              c.clear_each.ensures.room i (omega (arith, here, count)),
              digits_long bs old.not_null.bits ds entries c.self.invariant.0 i here,
              c.len.ensures.len,
              c.self.invariant.2.each i (omega (arith, here, count, length-map old.components.items g.E.Encoding.room_of)),
            );
      },
    )

pub returns-clause-entries : goal.returns-clause-entries
returns-clause-entries g c =
    let old = c.self.inside in
    let bs = old.bases in
    let items = c.clear_each.new.components.items in
    let all = map g.E.Encoding.digits items in
    let bits = c.clear.new.self.bits in
    let bases : map g.E.Encoding.base_of items ≡ bs = c.clear_each.ensures.bases ∙ c.self.invariant.1 in
    let count : length old.components.items ≡ length bs = length-map_is g.E.Encoding.base_of old.components.items bs c.self.invariant.1 in
    let none : Decomposes bs bits all [] = record {
      count = length-map items g.E.Encoding.digits ∙ length-map_is g.E.Encoding.base_of items bs bases;
      not_null_is = c.clear.ensures.bits;
      digits_are = λ i below. c.clear_each.ensures.digits i (omega (arith, below, count));
      below = All-nil (λ e. number_or_zero e < product bs);
    } in
    entries_from bs bits all [] none

pub returns-clause-room : goal.returns-clause-room
returns-clause-room g c =
    let old = c.self.inside in
    let ds = map g.E.Encoding.digits old.components.items in
    let entries = entries_of old.bases old.not_null.bits ds in
    rw (← c.self.view_is) (omega (arith, c.len.ensures.len, rows_of old.bases old.not_null.bits ds entries c.self.invariant.0))
