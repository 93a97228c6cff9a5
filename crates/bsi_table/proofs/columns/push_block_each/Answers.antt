use Rattle.std.proofs.Common.{◌≡◌, ℕ, ◌<◌, List, All, Option, ℤ, get_or, length, sym, subst, arith, ◌∙◌}
use Rattle.std.proofs.lemmas.List.Elements.{All-map, All-weaker}
use Rattle.bsi_digits.specs.Offsets.{IsInRange}
use Rattle.bsi_shift.specs.Shifted.{shifted_size, OffsetColumn}
use Rattle.bsi_rows.specs.Rows.{column_of, entry_at, SourcedRow}
use Rattle.bsi_table.specs.Encoded.{encoded_at, AcceptsRow}
use Rattle.bsi_table.proofs.TableRows.{encoded_read}
use Rattle.bsi_table.proofs.columns.push_block_each.Goals as goal

-- the entries of a column are in its range
column_in_range : (encoded : List OffsetColumn) (rows : List SourcedRow) (c : ℕ) → c < length encoded → All (λ row. AcceptsRow encoded row.1) rows
    → All (IsInRange (encoded_at encoded c).offset (shifted_size (encoded_at encoded c))) (column_of rows c)
column_in_range encoded rows c within accepted =
    let InRange : Option ℤ → Type 0 = IsInRange (encoded_at encoded c).offset (shifted_size (encoded_at encoded c)) in
    All-map InRange (λ row. entry_at row.1 c) rows (All-weaker (λ row. AcceptsRow encoded row.1) (λ row. InRange (entry_at row.1 c)) (λ row accepts. accepts.range c within) rows accepted)

pub push_column-requires-clause-range : goal.push_column-requires-clause-range
push_column-requires-clause-range c =
    let now = c.columns.columns in
    let at = c.columns.c in
    let old = c.args.columns.now in
    let rows = c.args.block.now.rows in
    let within : at < length now = omega (arith, c.columns-test.true, c.columns.auto.columns) in
    let column = get_or now at c.index-columns-c.result in
    let read : column ≡ encoded_at old at = sym c.index-columns-c.is ∙ sym (encoded_read now at c.index-columns-c.result within c.index-columns-c.is) ∙ c.columns.invariant.others at (omega arith) in
    subst (λ (column : OffsetColumn). All (IsInRange column.offset (shifted_size column)) (column_of rows at)) (sym read) (column_in_range old rows at c.columns-test.true c.requires.accepted)
