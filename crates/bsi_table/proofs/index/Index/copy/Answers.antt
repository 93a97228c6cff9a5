use Rattle.std.proofs.Common.{◌<◌, ℕ, List, length, ap, ap₂, sym, subst, arith, ◌∙◌}
use Rattle.bsi_shift.specs.Shifted.{OffsetColumn}
use Rattle.bsi_schema.specs.Columns.{Declared}
use Rattle.bsi_rows.specs.Rows.{SourcedRow}
use Rattle.bsi_table.specs.Index.{table_of}
use Rattle.bsi_table.specs.Encoded.{sourced_rows, encoded_at, IsSameColumn, IsTable}
use Rattle.bsi_rows.specs.Table.{Table}
use Rattle.bsi_table.proofs.Keeping.{are_encoded_same}
use Rattle.bsi_table.proofs.TableRows.{sourced_rows-same}
use Rattle.bsi_table.proofs.index.Index.copy.Goals as goal

pub invariant_of-result : goal.invariant_of-result
invariant_of-result c =
    let i = c.self.inside in
    let old = i.columns.items in
    let new = c.in_ok-columns.columns.items in
    let row_feeders = c.in_ok-origins.ensures.rows in
    let feeders = c.in_ok-origins.ensures.feeders in
    let long = c.in_ok-columns.ensures.long ∙ ap length c.deref.ensures.value in
    let same : (k : ℕ) → k < length old → IsSameColumn (encoded_at old k) (encoded_at new k) =
    subst (λ (columns : List OffsetColumn). (k : ℕ) → k < length columns → IsSameColumn (encoded_at columns k) (encoded_at new k)) c.deref.ensures.value c.in_ok-columns.ensures.same in
    let table : IsTable i.schema.value.columns i.origins.feeders i.limit i.origins.rows new = record {
      columns_are = are_encoded_same i.schema.value.columns old (length i.origins.rows) c.self.invariant.0.columns_are new long same;
      some = c.self.invariant.0.some;
      few = c.self.invariant.0.few;
      from = c.self.invariant.0.from;
      within = c.self.invariant.0.within;
      least = c.self.invariant.0.least;
      small = c.self.invariant.0.small;
    } in
    let mine = subst (λ (schema : Declared). IsTable schema.columns c.in_ok-origins.origins.feeders i.limit c.in_ok-origins.origins.rows new) (sym c.in_ok-schema.ensures)
    (subst (λ n. IsTable i.schema.value.columns n i.limit c.in_ok-origins.origins.rows new) (sym feeders)
    (subst (λ xs. IsTable i.schema.value.columns i.origins.feeders i.limit xs new) (sym row_feeders) table)) in (
      mine,
      record { within = omega (arith, mine.within, mine.small); columns = λ k within. omega arith; origins = omega arith },
    )

pub returns : goal.returns
returns c =
    let i = c.self.inside in
    let old = i.columns.items in
    let new = c.in_ok-columns.columns.items in
    let row_feeders = c.in_ok-origins.ensures.rows in
    let feeders = c.in_ok-origins.ensures.feeders in
    let long = c.in_ok-columns.ensures.long ∙ ap length c.deref.ensures.value in
    let same : (k : ℕ) → k < length old → IsSameColumn (encoded_at old k) (encoded_at new k) =
    subst (λ (columns : List OffsetColumn). (k : ℕ) → k < length columns → IsSameColumn (encoded_at columns k) (encoded_at new k)) c.deref.ensures.value c.in_ok-columns.ensures.same in
    let rows = ap (λ xs. sourced_rows xs new) row_feeders ∙ sourced_rows-same i.origins.rows old new long (λ k within. (same k within).entries) in
    let table : Declared → ℕ → List SourcedRow → Table = λ schema n rows. record { schema = schema; feeders = n; limit = i.limit; rows = rows } in
    ap (λ n. table c.in_ok-schema.schema.value n (sourced_rows c.in_ok-origins.origins.rows new)) feeders ∙ ap₂ (λ schema rows. table schema i.origins.feeders rows) c.in_ok-schema.ensures rows ∙ ap table_of c.self.view_is
