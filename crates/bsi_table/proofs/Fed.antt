-- Rows that are taken as those of one feeder, or as they are.
use Rattle.std.proofs.Common.{◌≡◌, ◌<◌, ◌≤◌, ℕ, List, [], ◌∷◌, Option, None, Some, length, refl, ap, subst, sym, ◌∙◌}
use Rattle.std.specs.Prelude.{IsTrue}
use Rattle.std.proofs.lemmas.List.{length-map}
use Rattle.std.proofs.lemmas.List.Elements.{All-map}
use Rattle.bsi_schema.specs.Columns.{entry_at, fits, NamedColumn}
use Rattle.bsi_shift.specs.Shifted.{OffsetColumn}
use Rattle.bsi_rows.specs.RowBlocks.{entries_of}
use Rattle.bsi_rows.specs.Rows.{column_of, feeders_of, Entries, SourcedRow}
use Rattle.bsi_table.specs.Joined.{feeders_as, rows_as, AreEnough}
use Rattle.bsi_table.specs.Encoded.{encoded_at, HasMore, HaveMore}
use Rattle.bsi_rows.specs.Table.{AreFitting, AreFrom}

-- are as many
pub length-as : (feeder : Option ℕ) (rows : List SourcedRow) → length (rows_as feeder rows) ≡ length rows
length-as None rows = refl
length-as (Some f) rows = length-map (entries_of rows) _ ∙ length-map rows _

-- have the entries that they had
column-as : (feeder : Option ℕ) (c : ℕ) (rows : List SourcedRow) → column_of (rows_as feeder rows) c ≡ column_of rows c
column-as None c rows = refl
column-as (Some f) c [] = refl
column-as (Some f) c (row ∷ rows) = ap (λ xs. entry_at row.1 c ∷ xs) (column-as (Some f) c rows)

-- and come from it
pub feeders-as : (feeder : Option ℕ) (rows : List SourcedRow) → feeders_of (rows_as feeder rows) ≡ feeders_as feeder (feeders_of rows)
feeders-as None rows = refl
feeders-as (Some f) [] = refl
feeders-as (Some f) (row ∷ rows) = ap (λ xs. f ∷ xs) (feeders-as (Some f) rows)

pub from-as : (feeder : Option ℕ) (n others : ℕ) (rows : List SourcedRow) → AreEnough n feeder others → (others ≤ n → AreFrom n rows) → AreFrom n (rows_as feeder rows)
from-as None n others rows enough from = from enough
from-as (Some f) n others rows below from = All-map (λ (row : SourcedRow). row.0 < n) (λ (row : Entries). (f, row)) (entries_of rows) (λ k d within. below)

pub fitting-as : (feeder : Option ℕ) (columns : List NamedColumn) (rows : List SourcedRow) → AreFitting columns rows → AreFitting columns (rows_as feeder rows)
fitting-as None columns rows fitting = fitting
fitting-as (Some f) columns rows fitting =
    All-map (λ (row : SourcedRow). IsTrue (fits columns row.1)) (λ (row : Entries). (f, row)) (entries_of rows)
    (All-map (λ (row : Entries). IsTrue (fits columns row)) (λ (row : SourcedRow). row.1) rows fitting)

pub have_more-as : (feeder : Option ℕ) (old new : List OffsetColumn) (rows : List SourcedRow) → HaveMore old new rows → HaveMore old new (rows_as feeder rows)
have_more-as feeder old new rows more = λ k within. subst (HasMore (encoded_at old k) (encoded_at new k)) (sym (column-as feeder k rows)) (more k within)
