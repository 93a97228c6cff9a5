-- An index whose columns and origins grew by rows that it takes.
use Rattle.std.proofs.Common.{◌≡◌, ℕ, ◌+◌, ◌-◌, ◌<◌, ◌≤◌, List, ◌++◌, All, length, ap, ap₂, sym, subst, ◌∙◌, arith}
use Rattle.std.proofs.lemmas.List.{length-append, length-map}
use Rattle.std.proofs.lemmas.List.Elements.{All-append, All-map, All-weaker}
use Rattle.bsi_origins.specs.Origins.{OriginList}
use Rattle.bsi_schema.specs.Columns.{entry_at, Declared}
use Rattle.bsi_shift.specs.Shifted.{OffsetColumn}
use Rattle.bsi_table.specs.Index.{AreRoomy}
use Rattle.bsi_rows.specs.Rows.{feeders_of, SourcedRow}
use Rattle.bsi_table.specs.Encoded.{sourced_rows, AreInRange, AreEncoded, HaveMore, IsTable, AcceptsRow}
use Rattle.bsi_rows.specs.Table.{table, with_rows, AreFitting, AreFrom, Table}
use Rattle.bsi_table.proofs.Keeping.{are_encoded_more, rows_accepted}
use Rattle.bsi_table.proofs.TableRows.{sourced_rows-more}

module _ (schema : Declared) (limit : ℕ) (old : OriginList) (encoded : List OffsetColumn) (is : IsTable schema.columns old.feeders limit old.rows encoded)
    (rows : List SourcedRow) (fit : AreFitting schema.columns rows) (from : AreFrom old.feeders rows) where
  pub accepted : All (λ row. AcceptsRow encoded row.1) rows
  accepted = rows_accepted schema.columns encoded (length old.rows) is.columns_are rows fit

  module _ (grown : List OffsetColumn) (long : length grown ≡ length encoded) (more : HaveMore encoded grown rows)
      (new : OriginList) (rows_are : new.rows ≡ old.rows ++ feeders_of rows) (feeders_are : new.feeders ≡ old.feeders) where
    length-new : length new.rows ≡ length old.rows + length rows
    length-new = ap length rows_are ∙ length-append old.rows (feeders_of rows) ∙ ap (λ n. length old.rows + n) (length-map rows (λ row. row.0))

    pub grown_table : length old.rows + length rows ≤ limit → IsTable schema.columns new.feeders limit new.rows grown
    grown_table room = record {
      columns_are = subst (AreEncoded schema.columns grown) (sym length-new)
          (are_encoded_more schema.columns encoded (length old.rows) is.columns_are grown long rows
          (All-weaker (λ row. AcceptsRow encoded row.1) (λ row. AreInRange encoded row.1) (λ row accepts. accepts.range) rows accepted) more);
      some = is.some;
      few = omega (arith, feeders_are, is.few);
      from = subst (λ n. All (λ feeder. feeder < n) new.rows) (sym feeders_are)
          (subst (All (λ feeder. feeder < old.feeders)) (sym rows_are)
          (All-append (λ feeder. feeder < old.feeders) old.rows (feeders_of rows) is.from (All-map (λ feeder. feeder < old.feeders) (λ row. row.0) rows from)));
      within = omega (arith, room, length-new);
      least = is.least;
      small = is.small;
    }

    -- it holds these rows after its own
    pub grown_rows : (before : Table) → table schema old.feeders limit (sourced_rows old.rows encoded) ≡ before → table schema new.feeders limit (sourced_rows new.rows grown) ≡ with_rows before rows
    grown_rows before was =
        let more_rows = sourced_rows-more old.rows encoded grown rows long
        (All-weaker (λ row. AcceptsRow encoded row.1) (λ row. length row.1 ≡ length encoded) (λ row accepts. accepts.wide) rows accepted)
        (λ k within. (is.columns_are.each k (omega (arith, within, is.columns_are.long))).rows) more in
        ap₂ (λ n (fed : List SourcedRow). table schema n limit fed) feeders_are (ap (λ xs. sourced_rows xs grown) rows_are ∙ more_rows)
        ∙ ap (λ t. with_rows t rows) was

    -- and has less room by as many
    pub grown_room : (room : ℕ) → AreRoomy encoded old room → length rows ≤ room → new.room + length rows ≡ old.room → AreRoomy grown new (room - length rows)
    grown_room room roomy enough left = record {
      within = omega (arith, roomy.within, enough, length-new);
      columns = λ k within.
          let here : k < length encoded = omega (arith, within, long) in
          omega (arith, (more k here).room, length-map rows (λ row. entry_at row.1 k), roomy.columns k here, enough);
      origins = omega (arith, roomy.origins, left, enough);
    }
