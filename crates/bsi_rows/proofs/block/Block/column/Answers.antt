use Rattle.std.proofs.Common.{◌≡◌, ◌+◌, ◌*◌, ◌-◌, ◌<◌, ℕ, List, ℤ, get_or, length, take, drop, of_z, to_z, to_z-of_z, w64, rules, arith, ap, ap₂, subst, sym, ◌∙◌}
use Rattle.std.proofs.lemmas.List.{get_or_default}
use Rattle.bsi_digits.specs.Blocks.{offset_entries, IsNumberBlock}
use Rattle.bsi_schema.proofs.Fitting.{limits_long}
use Rattle.bsi_rows.specs.Rows.{column_of}
use Rattle.bsi_rows.specs.RowBlocks.{least_at, cell_entry}
use Rattle.bsi_rows.proofs.BlockCells.{lent_block, lent_entries, lent_long}
use Rattle.bsi_rows.proofs.BlockRows.{length-rows_of_cells}
use Rattle.bsi_rows.proofs.block.Block.column.Goals as goal

pub overflow_mul-first : goal.overflow_mul-first
overflow_mul-first c =
    let i = c.self.inside in
    let within : c.args.c < length i.schema.value.columns = omega (arith, c.requires, ap (λ b. length b.schema.columns) c.self.view_is) in
    omega (arith, within, c.self.invariant.0.long)

-- the numbers that are lent
numbers_lent : (from n rows : ℕ) (numbers inside : List ℕ) → rows ≡ n → numbers ≡ inside → take (from + rows - from) (drop from numbers) ≡ take n (drop from inside)
numbers_lent from n rows numbers inside many same = let count : from + rows - from ≡ n = omega (arith, many) in ap₂ (λ n xs. take n (drop from xs)) count same

pub returns-clause-long : goal.returns-clause-long
returns-clause-long c =
    let i = c.self.inside in
    let within : c.args.c < length i.schema.value.columns = omega (arith, c.requires, ap (λ b. length b.schema.columns) c.self.view_is) in
    ap length (numbers_lent (64 * c.args.c) (length i.row_feeders.items) c.len-rows.result c.deref.result.now i.numbers.items (omega (arith, c.len-rows.ensures)) c.deref.ensures.value)
    ∙ lent_long i.schema.value.columns i.limits.items i.feeders i.row_feeders.items i.numbers.items i.not_null.items c.self.invariant.0 c.args.c within
    ∙ sym (length-rows_of_cells (length i.schema.value.columns) i.row_feeders.items (cell_entry i.limits.items i.numbers.items i.not_null.items))
    ∙ ap (λ b. length b.rows) c.self.view_is

pub returns-clause-entries : goal.returns-clause-entries
returns-clause-entries c =
    let i = c.self.inside in
    let s = c.self.invariant.0 in
    let within : c.args.c < length i.schema.value.columns = omega (arith, c.requires, ap (λ b. length b.schema.columns) c.self.view_is) in
    let lent = numbers_lent (64 * c.args.c) (length i.row_feeders.items) c.len-rows.result c.deref.result.now i.numbers.items (omega (arith, c.len-rows.ensures)) c.deref.ensures.value in
    let word : c.index-2.result.now ≡ get_or i.not_null.items c.args.c 0 = c.index-2.ensures ∙ get_or_default i.not_null.items c.args.c _ 0 (omega (arith, within, s.words)) in
    let least : to_z w64 (of_z w64 c.least.result) ≡ least_at i.limits.items c.args.c =
    to_z-of_z {w = w64} (search rules) ∙ c.least.ensures ∙ ap (λ l. l.least) (c.index.ensures ∙ get_or_default i.limits.items c.args.c _ _ (omega (arith, within, limits_long i.schema.value.columns i.limits.items s.limits_are))) in
    ap (λ (offset : ℤ). offset_entries offset (take (64 * c.args.c + c.len-rows.result - 64 * c.args.c) (drop (64 * c.args.c) c.deref.result.now)) c.index-2.result.now) least
    ∙ ap₂ (offset_entries (least_at i.limits.items c.args.c)) lent word
    ∙ lent_entries i.schema.value.columns i.limits.items i.feeders i.row_feeders.items i.numbers.items i.not_null.items s c.args.c within
    ∙ ap (λ b. column_of b.rows c.args.c) c.self.view_is

pub returns-clause-block : goal.returns-clause-block
returns-clause-block c =
    let i = c.self.inside in
    let s = c.self.invariant.0 in
    let within : c.args.c < length i.schema.value.columns = omega (arith, c.requires, ap (λ b. length b.schema.columns) c.self.view_is) in
    let lent = numbers_lent (64 * c.args.c) (length i.row_feeders.items) c.len-rows.result c.deref.result.now i.numbers.items (omega (arith, c.len-rows.ensures)) c.deref.ensures.value in
    let word : c.index-2.result.now ≡ get_or i.not_null.items c.args.c 0 = c.index-2.ensures ∙ get_or_default i.not_null.items c.args.c _ 0 (omega (arith, within, s.words)) in
    subst (λ numbers. IsNumberBlock numbers c.index-2.result.now) (sym lent)
    (subst (IsNumberBlock (take (length i.row_feeders.items) (drop (64 * c.args.c) i.numbers.items))) (sym word)
    (lent_block i.schema.value.columns i.limits.items i.feeders i.row_feeders.items i.numbers.items i.not_null.items s c.args.c within))
