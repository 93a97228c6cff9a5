-- Two tables whose columns are kept alike.
use Rattle.std.proofs.Common.{◌≡◌, ℕ, ◌<◌, ◌≤◌, List, [], ◌∷◌, Option, length, map, true, ℤ, refl, ap, ap₂, sym, subst, ◌∙◌, arith}
use Rattle.std.specs.Prelude.{slice_index_or}
use Rattle.std.proofs.lemmas.List.{ext_get_or, get_or-map, length-map}
use Rattle.std.proofs.lemmas.List.Elements.{All-get_or}
use Rattle.bsi_columns.specs.AnyColumns.{equality_under, range_under, slices_of, AnyForm}
use Rattle.bsi_schema.specs.declared.form.Form.{Form}
use Rattle.bsi_schema.specs.declared.form.Form.TheVariants.{Slices, Equality, Range}
use Rattle.bsi_schema.specs.Columns.{column_at, fits, no_column, size_in, Declared, NamedColumn}
use Rattle.bsi_schema.specs.Limits.{limits_of}
use Rattle.bsi_schema.specs.declared.limits.Limits.{Limits}
use Rattle.bsi_shift.specs.Shifted.{shifted_entries, OffsetColumn}
use Rattle.bsi_rows.specs.RowBlocks.{HaveSameLimits}
use Rattle.bsi_rows.specs.Rows.{feeders_of, SourcedRow}
use Rattle.bsi_origins.specs.Origins.{OriginList}
use Rattle.bsi_table.specs.Joined.{feeders_as, rows_as, AreEnough}
use Rattle.bsi_table.specs.Encoded.{sourced_rows, encoded_at, encoded_form, AreAlikeColumns, AreEncoded, HasMore, HaveMore, HaveRows, IsTable}
use Rattle.bsi_rows.specs.Table.{encoded_as, AreFitting, AreFrom, AreEncodedAlike}
use Rattle.bsi_rows.proofs.CallerLemmas.{fitting-alike}
use Rattle.bsi_table.proofs.Keeping.{row_in-fits}
use Rattle.bsi_table.proofs.Fed.{feeders-as, fitting-as, from-as, have_more-as, length-as}
use Rattle.bsi_table.proofs.TableRows.{All-sourced_rows, column-sourced_rows, feeders-sourced_rows, length-sourced_rows}

-- columns that are kept in one form were declared in one
abbrev declared_form : AnyForm → Form
declared_form (slices_of w) = Slices w
declared_form (equality_under bs) = Equality bs
declared_form (range_under bs) = Range bs

declared_form-encoded : (form : Form) → declared_form (encoded_form form) ≡ form
declared_form-encoded (Slices w) = refl
declared_form-encoded (Equality bs) = refl
declared_form-encoded (Range bs) = refl

one_form : (first second : Form) → encoded_form first ≡ encoded_form second → first ≡ second
one_form first second same = sym (declared_form-encoded first) ∙ ap declared_form same ∙ declared_form-encoded second

-- two lists of columns that are kept alike
module _ (columns others : List NamedColumn) (encoded other_encoded : List OffsetColumn) (n m : ℕ) (are : AreEncoded columns encoded n) (other_are : AreEncoded others other_encoded m) where
  -- each column has the form and the offset of the other list's
  pub alike_columns : map encoded_as columns ≡ map encoded_as others → AreAlikeColumns encoded other_encoded
  alike_columns alike k within =
      let here : k < length columns = omega (arith, within, are.long) in
      let there : k < length others = omega (arith, here, ap length alike, length-map columns encoded_as, length-map others encoded_as) in
      let same : encoded_as (column_at columns k) ≡ encoded_as (column_at others k) =
      sym (get_or-map encoded_as columns k no_column (encoded_as no_column) here)
      ∙ ap (λ xs. slice_index_or xs k (encoded_as no_column)) alike
      ∙ get_or-map encoded_as others k no_column (encoded_as no_column) there in
      record {
        offset = (other_are.each k there).offset ∙ sym (ap (λ p. p.1) same) ∙ sym (are.each k here).offset;
        form = (other_are.each k there).form ∙ sym (ap (λ p. encoded_form p.0) same) ∙ sym (are.each k here).form;
      }

  -- and so are the columns of their schemas
  pub alike_schemas : length other_encoded ≡ length encoded → AreAlikeColumns encoded other_encoded → map encoded_as columns ≡ map encoded_as others
  alike_schemas long alike =
      ext_get_or (encoded_as no_column) (map encoded_as columns) (map encoded_as others)
      (length-map columns encoded_as ∙ sym are.long ∙ sym long ∙ other_are.long ∙ sym (length-map others encoded_as))
      (λ k below.
      let here : k < length columns = omega (arith, below, length-map columns encoded_as) in
      let there : k < length others = omega (arith, here, long, are.long, other_are.long) in
      let same = alike k (omega (arith, here, are.long)) in
      get_or-map encoded_as columns k no_column (encoded_as no_column) here
      ∙ ap₂ (λ (form : Form) (offset : ℤ). (form, offset))
      (one_form (column_at columns k).form (column_at others k).form (sym (are.each k here).form ∙ sym same.form ∙ (other_are.each k there).form))
      (sym (are.each k here).offset ∙ sym same.offset ∙ (other_are.each k there).offset)
      ∙ sym (get_or-map encoded_as others k no_column (encoded_as no_column) there))

-- columns that are kept alike take the same numbers
abbrev limits_encoded : Form × ℤ → Limits
limits_encoded encoded = record { least = encoded.1; size = size_in encoded.0 }

limits-columns : (columns : List NamedColumn) → map limits_of columns ≡ map limits_encoded (map encoded_as columns)
limits-columns [] = refl
limits-columns (column ∷ columns) = ap (λ (xs : List Limits). limits_of column ∷ xs) (limits-columns columns)

pub alike-encoded : (first second : Declared) → AreEncodedAlike first second → HaveSameLimits first second
alike-encoded first second alike = limits-columns first.columns ∙ ap (map limits_encoded) alike ∙ sym (limits-columns second.columns)

-- the rows of a table fit its columns
pub fitting_rows : (columns : List NamedColumn) (feeders limit : ℕ) (row_feeders : List ℕ) (encoded : List OffsetColumn) → IsTable columns feeders limit row_feeders encoded
    → AreFitting columns (sourced_rows row_feeders encoded)
fitting_rows columns feeders limit row_feeders encoded is =
    All-sourced_rows row_feeders encoded (λ row. fits columns row.1 ≡ true) (λ r below. row_in-fits columns encoded (length row_feeders) is.columns_are r below)

-- and those of one that is kept alike
pub fitting_others : (first second : Declared) → AreEncodedAlike first second → (rows : List SourcedRow) → AreFitting second.columns rows → AreFitting first.columns rows
fitting_others first second alike rows fitting = fitting-alike second first (sym (alike-encoded first second alike)) rows fitting

-- they came from its feeders
pub from_feeders : (columns : List NamedColumn) (feeders limit more : ℕ) (row_feeders : List ℕ) (encoded : List OffsetColumn) → IsTable columns feeders limit row_feeders encoded
    → feeders ≤ more → AreFrom more (sourced_rows row_feeders encoded)
from_feeders columns feeders limit more row_feeders encoded is few =
    All-sourced_rows row_feeders encoded (λ row. row.0 < more)
    (λ r below. omega (arith, few, All-get_or (λ feeder. feeder < feeders) row_feeders r 0 below is.from))

-- columns that got the entries of others have their rows more
pub have_more : (old new others : List OffsetColumn) (row_feeders : List ℕ) → length others ≡ length old → HaveRows others (length row_feeders)
    → ((k : ℕ) → k < length old → HasMore (encoded_at old k) (encoded_at new k) (shifted_entries (encoded_at others k))) → HaveMore old new (sourced_rows row_feeders others)
have_more old new others row_feeders long even each = λ k within.
    let there : k < length others = omega (arith, within, long) in
    subst (HasMore (encoded_at old k) (encoded_at new k)) (sym (column-sourced_rows row_feeders others k there (even k there))) (each k within)

-- an index that takes all rows of another one, which is kept alike
module _ (schema other : Declared) (limit other_limit : ℕ) (own others : OriginList) (encoded other_encoded : List OffsetColumn)
    (is : IsTable schema.columns own.feeders limit own.rows encoded) (other_is : IsTable other.columns others.feeders other_limit others.rows other_encoded)
    (alike : AreEncodedAlike schema other) where
  pub long_others : length other_encoded ≡ length encoded
  long_others = omega (arith, is.columns_are.long, other_is.columns_are.long, ap length alike, length-map schema.columns encoded_as, length-map other.columns encoded_as)

  pub alike_others : AreAlikeColumns encoded other_encoded
  alike_others = alike_columns schema.columns other.columns encoded other_encoded (length own.rows) (length others.rows) is.columns_are other_is.columns_are alike

  pub even_others : HaveRows other_encoded (length others.rows)
  even_others = λ k within. (other_is.columns_are.each k (omega (arith, within, other_is.columns_are.long))).rows

  -- as rows of one feeder, or each of its own
  module _ (feeder : Option ℕ) (enough : AreEnough own.feeders feeder others.feeders) where
    abbrev pub joined : List SourcedRow
    joined = rows_as feeder (sourced_rows others.rows other_encoded)

    pub joined_fit : AreFitting schema.columns joined
    joined_fit = fitting-as feeder schema.columns (sourced_rows others.rows other_encoded)
        (fitting_others schema other alike (sourced_rows others.rows other_encoded) (fitting_rows other.columns others.feeders other_limit others.rows other_encoded other_is))

    pub joined_from : AreFrom own.feeders joined
    joined_from = from-as feeder own.feeders others.feeders (sourced_rows others.rows other_encoded) enough
        (from_feeders other.columns others.feeders other_limit own.feeders others.rows other_encoded other_is)

    pub joined_more : (grown : List OffsetColumn)
        → ((k : ℕ) → k < length encoded → HasMore (encoded_at encoded k) (encoded_at grown k) (shifted_entries (encoded_at other_encoded k))) → HaveMore encoded grown joined
    joined_more grown each = have_more-as feeder encoded grown (sourced_rows others.rows other_encoded) (have_more encoded grown other_encoded others.rows long_others even_others each)

    pub feeders-joined : feeders_as feeder others.rows ≡ feeders_of joined
    feeders-joined = ap (feeders_as feeder) (sym (feeders-sourced_rows others.rows other_encoded)) ∙ sym (feeders-as feeder (sourced_rows others.rows other_encoded))

    pub length-joined : length joined ≡ length others.rows
    length-joined = length-as feeder (sourced_rows others.rows other_encoded) ∙ length-sourced_rows others.rows other_encoded
