use Rattle.std.proofs.Common.{◌≡◌, ◌+◌, ◌<◌, ◌≤◌, ◌++◌, [], ℕ, length, map, get_or, is_some, ap, ◌∙◌, sym, arith, length-append, subst}
use Rattle.std.specs.Prelude.{All}
use Rattle.std.proofs.lemmas.List.{length-map}
use Rattle.std.proofs.lemmas.List.Elements.{All-get_or}
use Rattle.bsi_digits.specs.Digits.{digit_of, product}
use Rattle.bsi_digits.specs.Blocks.{block_entries}
use Rattle.bsi_digits.specs.Comparisons.{number_or_zero}
use Rattle.bsi_digits.proofs.BlockEntries.{length-block_entries}
use Rattle.bsi_slices.proofs.BlockWords.{bits_are_some, small-block_entries}
use Rattle.bsi_columns.specs.Decomposed.{entries_of, Decomposes}
use Rattle.bsi_columns.proofs.EntriesFrom.{more_entries, entries_from, decomposed_itself, block_digits, roomy_less}
use Rattle.bsi_columns.proofs.ComponentLists.{length-map_is}
use Rattle.bsi_columns.proofs.decomposed.DecomposedColumn.push_block_reserved.Goals as goal

pub invariant_of-self : goal.invariant_of-self
invariant_of-self g c =
    let bs = c.self.inside.bases in
    let not_null = c.self.inside.not_null.bits in
    let old = c.self.inside.components.items in
    let ds = map g.E.Encoding.digits old in
    let entries = entries_of bs not_null ds in
    let items = c.push_blocks.new.components.items in
    let more = map g.E.Encoding.digits items in
    let bits = c.push_word_reserved.new.self.bits in
    let numbers = c.args.numbers.now in
    let block = block_entries numbers c.args.not_null in
    let long : length more ≡ length bs = length-map items g.E.Encoding.digits ∙ length-map_is g.E.Encoding.base_of items bs c.push_blocks.ensures.bases in
    let small : All (λ n. n < product bs) numbers = rw (← c.self.view_is) at c.requires.below in
    let bits_are : bits ≡ not_null ++ map is_some block = c.push_word_reserved.ensures.bits ∙ ap (λ b. not_null ++ b) (bits_are_some numbers c.args.not_null c.requires.block c.requires.few) in
    let each : (i : ℕ) → i < length bs → get_or more i [] ≡ get_or ds i [] ++ map (λ e. digit_of bs (number_or_zero e) i) block = λ i below.
    c.push_blocks.ensures.digits i below ∙ ap (λ xs. get_or ds i [] ++ xs) (block_digits (λ n. digit_of bs n i) numbers c.args.not_null c.requires.block) in
    let decomposes : Decomposes bs bits more (entries ++ block) = more_entries bs not_null ds entries block bits more c.self.invariant.0 bits_are long each (small-block_entries numbers c.args.not_null c.requires.block (product bs) small) in
    let rooms = map g.E.Encoding.room_of old in
    let rooms' = map g.E.Encoding.room_of items in
    let same : length rooms' ≡ length rooms = length-map items g.E.Encoding.room_of ∙ length-map_is g.E.Encoding.base_of items bs c.push_blocks.ensures.bases
    ∙ sym (length-map_is g.E.Encoding.base_of old bs c.self.invariant.1) ∙ sym (length-map old g.E.Encoding.room_of) in
    let enough : length numbers ≤ c.self.inside.room = rw (← c.self.view_is) at c.requires.room in
    let rows : length bits ≡ length not_null + length numbers = ap length bits_are ∙ length-append not_null (map is_some block) ∙ ap (λ n. length not_null + n) (length-map block is_some ∙ length-block_entries numbers c.args.not_null) in (
      decomposed_itself bs bits more (entries ++ block) decomposes,
      c.push_blocks.ensures.bases,
      roomy_less (length not_null) c.self.inside.room c.self.inside.not_null.room (length numbers) (length bits) c.push_word_reserved.new.self.room rooms rooms' c.self.invariant.2 enough rows (omega (arith, c.push_word_reserved.ensures.room)) same
          c.push_blocks.ensures.room,
    )

pub returns-clause-entries : goal.returns-clause-entries
returns-clause-entries g c =
    let bs = c.self.inside.bases in
    let not_null = c.self.inside.not_null.bits in
    let old = c.self.inside.components.items in
    let ds = map g.E.Encoding.digits old in
    let entries = entries_of bs not_null ds in
    let items = c.push_blocks.new.components.items in
    let more = map g.E.Encoding.digits items in
    let bits = c.push_word_reserved.new.self.bits in
    let numbers = c.args.numbers.now in
    let block = block_entries numbers c.args.not_null in
    let long : length more ≡ length bs = length-map items g.E.Encoding.digits ∙ length-map_is g.E.Encoding.base_of items bs c.push_blocks.ensures.bases in
    let small : All (λ n. n < product bs) numbers = rw (← c.self.view_is) at c.requires.below in
    let bits_are : bits ≡ not_null ++ map is_some block = c.push_word_reserved.ensures.bits ∙ ap (λ b. not_null ++ b) (bits_are_some numbers c.args.not_null c.requires.block c.requires.few) in
    let each : (i : ℕ) → i < length bs → get_or more i [] ≡ get_or ds i [] ++ map (λ e. digit_of bs (number_or_zero e) i) block = λ i below.
    c.push_blocks.ensures.digits i below ∙ ap (λ xs. get_or ds i [] ++ xs) (block_digits (λ n. digit_of bs n i) numbers c.args.not_null c.requires.block) in
    let decomposes : Decomposes bs bits more (entries ++ block) = more_entries bs not_null ds entries block bits more c.self.invariant.0 bits_are long each (small-block_entries numbers c.args.not_null c.requires.block (product bs) small) in
    rw (← c.self.view_is) (entries_from bs bits more (entries ++ block) decomposes)

pub push_blocks-requires-clause-room : goal.push_blocks-requires-clause-room
push_blocks-requires-clause-room g c = λ i within.
    let items = c.self.inside.components.items in
    let enough : length c.args.numbers.now ≤ c.self.inside.room = rw (← c.self.view_is) at c.requires.room in
    let there : c.self.inside.room ≤ get_or (map g.E.Encoding.room_of items) i 0 = c.self.invariant.2.each i (subst (λ (n : ℕ). i < n) (sym (length-map items g.E.Encoding.room_of)) within) in
    omega (arith, enough, there)

-- the numbers are those of the entries
pub push_blocks-requires-clause-below : goal.push_blocks-requires-clause-below
push_blocks-requires-clause-below g c = λ r below.
    let bs = c.self.inside.bases in
    let small : All (λ n. n < product bs) c.args.numbers.now = rw (← c.self.view_is) at c.requires.below in
    All-get_or (λ n. n < product bs) c.args.numbers.now r 0 below small
