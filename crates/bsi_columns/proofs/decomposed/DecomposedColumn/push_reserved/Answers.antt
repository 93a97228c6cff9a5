use Rattle.std.proofs.Common.{◌≡◌, ◌+◌, ◌<◌, ◌≤◌, ◌∷◌, ◌++◌, [], ℕ, length, map, get_or, is_some, ap, ◌∙◌, sym, arith, length-append}
use Rattle.std.specs.Prelude.{All}
use Rattle.std.proofs.lemmas.List.{length-map}
use Rattle.std.proofs.lemmas.List.Elements.{All-nil, All-push}
use Rattle.bsi_digits.specs.Digits.{digit_of, product}
use Rattle.bsi_digits.specs.Comparisons.{number_or_zero}
use Rattle.bsi_columns.specs.Decomposed.{entries_of, Decomposes}
use Rattle.bsi_columns.proofs.EntriesFrom.{more_entries, entries_from, decomposed_itself, roomy_less}
use Rattle.bsi_columns.proofs.ComponentLists.{length-map_is}
use Rattle.bsi_columns.proofs.decomposed.DecomposedColumn.push_reserved.Goals as goal

pub invariant_of-self : goal.invariant_of-self
invariant_of-self g c =
    let bs = c.self.inside.bases in
    let not_null = c.self.inside.not_null.bits in
    let old = c.self.inside.components.items in
    let ds = map g.E.Encoding.digits old in
    let entries = entries_of bs not_null ds in
    let items = c.push_digits.new.components.items in
    let more = map g.E.Encoding.digits items in
    let bits = c.push_reserved.new.self.bits in
    let long : length more ≡ length bs = length-map items g.E.Encoding.digits ∙ length-map_is g.E.Encoding.base_of items bs c.push_digits.ensures.bases in
    let small : All (λ e. number_or_zero e < product bs) (c.args.entry ∷ []) = All-push (λ e. number_or_zero e < product bs) [] c.args.entry (All-nil (λ e. number_or_zero e < product bs)) (rw (← c.self.view_is) at c.requires.below) in
    let bits_are : bits ≡ not_null ++ map is_some (c.args.entry ∷ []) = c.push_reserved.ensures.bits ∙ ap (λ b. not_null ++ b ∷ []) c.is_some.ensures in
    let each : (i : ℕ) → i < length bs → get_or more i [] ≡ get_or ds i [] ++ map (λ e. digit_of bs (number_or_zero e) i) (c.args.entry ∷ []) = λ i below. c.push_digits.ensures.digits i below ∙ ap (λ n. get_or ds i [] ++ digit_of bs n i ∷ []) c.unwrap_or.ensures in
    let decomposes : Decomposes bs bits more (entries ++ c.args.entry ∷ []) = more_entries bs not_null ds entries (c.args.entry ∷ []) bits more c.self.invariant.0 bits_are long each small in
    let rooms = map g.E.Encoding.room_of old in
    let rooms' = map g.E.Encoding.room_of items in
    let same : length rooms' ≡ length rooms = length-map items g.E.Encoding.room_of ∙ length-map_is g.E.Encoding.base_of items bs c.push_digits.ensures.bases
    ∙ sym (length-map_is g.E.Encoding.base_of old bs c.self.invariant.1) ∙ sym (length-map old g.E.Encoding.room_of) in
    let enough : 1 ≤ c.self.inside.room = rw (← c.self.view_is) at c.requires.room in
    let rows : length bits ≡ length not_null + 1 = ap length bits_are ∙ length-append not_null (map is_some (c.args.entry ∷ [])) ∙ ap (λ n. length not_null + n) (length-map (c.args.entry ∷ []) is_some) in (
      decomposed_itself bs bits more (entries ++ c.args.entry ∷ []) decomposes,
      c.push_digits.ensures.bases,
      roomy_less (length not_null) c.self.inside.room c.self.inside.not_null.room (1) (length bits) c.push_reserved.new.self.room rooms rooms' c.self.invariant.2 enough rows (omega (arith, c.push_reserved.ensures.room)) same c.push_digits.ensures.room,
    )

pub returns-clause-entries : goal.returns-clause-entries
returns-clause-entries g c =
    let bs = c.self.inside.bases in
    let not_null = c.self.inside.not_null.bits in
    let ds = map g.E.Encoding.digits c.self.inside.components.items in
    let entries = entries_of bs not_null ds in
    let items = c.push_digits.new.components.items in
    let more = map g.E.Encoding.digits items in
    let bits = c.push_reserved.new.self.bits in
    let long : length more ≡ length bs = length-map items g.E.Encoding.digits ∙ length-map_is g.E.Encoding.base_of items bs c.push_digits.ensures.bases in
    let small : All (λ e. number_or_zero e < product bs) (c.args.entry ∷ []) = All-push (λ e. number_or_zero e < product bs) [] c.args.entry (All-nil (λ e. number_or_zero e < product bs)) (rw (← c.self.view_is) at c.requires.below) in
    let bits_are : bits ≡ not_null ++ map is_some (c.args.entry ∷ []) = c.push_reserved.ensures.bits ∙ ap (λ b. not_null ++ b ∷ []) c.is_some.ensures in
    let each : (i : ℕ) → i < length bs → get_or more i [] ≡ get_or ds i [] ++ map (λ e. digit_of bs (number_or_zero e) i) (c.args.entry ∷ []) = λ i below. c.push_digits.ensures.digits i below ∙ ap (λ n. get_or ds i [] ++ digit_of bs n i ∷ []) c.unwrap_or.ensures in
    let decomposes : Decomposes bs bits more (entries ++ c.args.entry ∷ []) = more_entries bs not_null ds entries (c.args.entry ∷ []) bits more c.self.invariant.0 bits_are long each small in
    rw (← c.self.view_is) (entries_from bs bits more (entries ++ c.args.entry ∷ []) decomposes)
