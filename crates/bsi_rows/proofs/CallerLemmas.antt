-- Rows that are appended to a table one after another, and schemas that take the same rows, for callers.
use Rattle.std.proofs.Common.{◌≡◌, List, [], ◌∷◌, length, sym, ap, ◌∙◌}
use Rattle.std.specs.Prelude.{fold, IsTrue}
use Rattle.std.proofs.lemmas.List.{append-nil, append_assoc, length-map}
use Rattle.std.proofs.lemmas.List.Elements.{All-weaker}
use Rattle.bsi_schema.specs.Columns.{fits, Declared}
use Rattle.bsi_schema.specs.Limits.{limits_of}
use Rattle.bsi_schema.proofs.Fitting.{fits-alike}
use Rattle.bsi_rows.specs.RowBlocks.{HaveSameLimits}
use Rattle.bsi_rows.specs.Rows.{SourcedRow}
use Rattle.bsi_rows.specs.Table.{with_row, with_rows, AreFitting, Table}

-- one row more
abbrev pub with_fed_row : Table → SourcedRow → Table
with_fed_row table row = with_row table row.0 row.1

-- they stand last in their order, and the schema, the feeders and the limit stay
pub fold-with_row : (table : Table) (rows : List SourcedRow) → fold with_fed_row table rows ≡ with_rows table rows
fold-with_row table [] = ap (λ xs. record table { rows = xs }) (sym (append-nil table.rows))
fold-with_row table (row ∷ rows) =
    fold-with_row (with_fed_row table row) rows ∙ ap (λ xs. record table { rows = xs }) (append_assoc table.rows (row ∷ []) rows)

-- two schemas whose columns take the same numbers
module _ (first second : Declared) (alike : HaveSameLimits first second) where
  -- have as many columns
  pub wide-alike : length first.columns ≡ length second.columns
  wide-alike = sym (length-map first.columns limits_of) ∙ ap length alike ∙ length-map second.columns limits_of

  -- and the rows that fit one fit the other
  pub fitting-alike : (rows : List SourcedRow) → AreFitting first.columns rows → AreFitting second.columns rows
  fitting-alike rows fitting =
      All-weaker (λ row. IsTrue (fits first.columns row.1)) (λ row. IsTrue (fits second.columns row.1))
      (λ row fit. sym (fits-alike first.columns second.columns alike row.1) ∙ fit) rows fitting
