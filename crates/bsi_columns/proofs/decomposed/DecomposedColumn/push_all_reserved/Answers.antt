use Rattle.std.proofs.Common.{◌≡◌, ◌+◌, ◌≤◌, ◌++◌, [], length, map, get_or, ap, ap₂, ◌∙◌, sym, arith, length-append}
use Rattle.std.proofs.lemmas.List.{length-map}
use Rattle.bsi_columns.specs.Decomposed.{entries_of, Decomposes}
use Rattle.bsi_columns.proofs.EntriesFrom.{all_entries, digits_at_most, entries_from, decomposed_itself, roomy_less, rows_of}
use Rattle.bsi_columns.proofs.ComponentLists.{length-map_is}
use Rattle.bsi_columns.proofs.decomposed.DecomposedColumn.push_all_reserved.Goals as goal

pub invariant_of-self : goal.invariant_of-self
invariant_of-self g c =
    let old = c.self.inside in
    let others = c.other.inside in
    let bs = old.bases in
    let ds = map g.E.Encoding.digits old.components.items in
    let more = map g.E.Encoding.digits others.components.items in
    let items = c.push_all_digits.new.components.items in
    let all = map g.E.Encoding.digits items in
    let bits = c.push_all_reserved.new.self.bits in
    let entries = entries_of bs old.not_null.bits ds in
    let added = entries_of others.bases others.not_null.bits more in
    let same_bases = ap (λ v. v.bases) c.other.view_is ∙ c.requires.form ∙ ap (λ v. v.bases) (sym c.self.view_is) in
    let bases : map g.E.Encoding.base_of items ≡ bs = c.push_all_digits.ensures.bases ∙ c.self.invariant.1 in
    let count : length old.components.items ≡ length bs = length-map_is g.E.Encoding.base_of old.components.items bs c.self.invariant.1 in
    let long : length items ≡ length bs = length-map_is g.E.Encoding.base_of items bs bases in
    let decomposes : Decomposes bs bits all (entries ++ added) = all_entries bs others.bases old.not_null.bits others.not_null.bits bits ds more all entries added c.self.invariant.0 c.other.invariant.0
    same_bases c.push_all_reserved.ensures.bits (length-map items g.E.Encoding.digits ∙ long)
    (λ i below. c.push_all_digits.ensures.digits i (omega (arith, below, count)) ∙ ap (λ xs. get_or ds i [] ++ get_or (map g.E.Encoding.digits xs) i []) c.deref.ensures.value) in
    let rows : length added ≡ c.len.result = ap (λ v. length v.entries) c.other.view_is ∙ sym c.len.ensures.len in
    let marks : length others.not_null.bits ≡ length added = rows_of others.bases others.not_null.bits more added c.other.invariant.0 in
    let rooms = map g.E.Encoding.room_of old.components.items in
    let rooms' = map g.E.Encoding.room_of items in
    let same : length rooms' ≡ length rooms = length-map items g.E.Encoding.room_of ∙ long ∙ sym count ∙ sym (length-map old.components.items g.E.Encoding.room_of) in
    let enough : c.len.result ≤ old.room = omega (arith, c.len.ensures.len, ap (λ v. v.room) c.self.view_is, c.requires.room) in
    let longer : length bits ≡ length old.not_null.bits + c.len.result = omega (arith, ap length c.push_all_reserved.ensures.bits, length-append old.not_null.bits others.not_null.bits, marks, rows) in (
      decomposed_itself bs bits all (entries ++ added) decomposes,
      bases,
      roomy_less (length old.not_null.bits) old.room old.not_null.room c.len.result (length bits) c.push_all_reserved.new.self.room rooms rooms' c.self.invariant.2 enough longer
          (omega (arith, c.push_all_reserved.ensures.room, marks, rows)) same
          (λ k. omega (
            arith,
            c.push_all_digits.ensures.room k,
            ap (λ xs. length (get_or (map g.E.Encoding.digits xs) k [])) c.deref.ensures.value,
            digits_at_most others.bases others.not_null.bits more added c.other.invariant.0 k,
            rows,
          )),
    )

pub returns-clause-entries : goal.returns-clause-entries
returns-clause-entries g c =
    let old = c.self.inside in
    let others = c.other.inside in
    let bs = old.bases in
    let ds = map g.E.Encoding.digits old.components.items in
    let more = map g.E.Encoding.digits others.components.items in
    let items = c.push_all_digits.new.components.items in
    let all = map g.E.Encoding.digits items in
    let bits = c.push_all_reserved.new.self.bits in
    let entries = entries_of bs old.not_null.bits ds in
    let added = entries_of others.bases others.not_null.bits more in
    let same_bases = ap (λ v. v.bases) c.other.view_is ∙ c.requires.form ∙ ap (λ v. v.bases) (sym c.self.view_is) in
    let bases : map g.E.Encoding.base_of items ≡ bs = c.push_all_digits.ensures.bases ∙ c.self.invariant.1 in
    let count : length old.components.items ≡ length bs = length-map_is g.E.Encoding.base_of old.components.items bs c.self.invariant.1 in
    let long : length items ≡ length bs = length-map_is g.E.Encoding.base_of items bs bases in
    let decomposes : Decomposes bs bits all (entries ++ added) = all_entries bs others.bases old.not_null.bits others.not_null.bits bits ds more all entries added c.self.invariant.0 c.other.invariant.0
    same_bases c.push_all_reserved.ensures.bits (length-map items g.E.Encoding.digits ∙ long)
    (λ i below. c.push_all_digits.ensures.digits i (omega (arith, below, count)) ∙ ap (λ xs. get_or ds i [] ++ get_or (map g.E.Encoding.digits xs) i []) c.deref.ensures.value) in
    entries_from bs bits all (entries ++ added) decomposes
    ∙ ap₂ (λ xs ys. xs ++ ys) (ap (λ v. v.entries) c.self.view_is) (ap (λ v. v.entries) c.other.view_is)
