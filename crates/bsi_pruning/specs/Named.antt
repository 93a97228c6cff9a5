-- Columns of a file that are open (`IsOpenOf`), and the faults of answers over them.
use Rattle.std.specs.Prelude.{◌≡◌, ℕ, ◌<◌, ◌^◌, ◌++◌, List, All, length}
use Rattle.bsi_answers.specs.declared.faults.FilesFault.{FilesFault}
use Rattle.bsi_answers.specs.declared.faults.FilesFault.TheVariants.{NoMemory}
use Rattle.bsi_projection.specs.Chosen.{chosen_table}
use Rattle.bsi_pruning.specs.declared.open_columns.OpenColumns.{OpenColumns}
use Rattle.bsi_pruning.specs.declared.fault.NamedFault.{NamedFault}
use Rattle.bsi_pruning.specs.declared.fault.NamedFault.TheVariants.{Columns, Run}
use Rattle.bsi_rows.specs.Table.{Table}
use Rattle.bsi_storage.specs.ChosenFiles.{AreFileHeads}
use Rattle.bsi_storage.specs.Opens.{IsReadOrNoMemory}
use Rattle.bsi_storage.specs.declared.segment_head.SegmentHead.{SegmentHead}
use Rattle.bsi_syntax.specs.Bytes.{Bytes, KnownBytes}
use Rattle.bsi_table.specs.Index.{table_of}

-- The list has more numbers behind those that it had.
pub record HasMore (old new : List ℕ) : Type 0 where
  pub more : List ℕ
  pub new_is : new ≡ old ++ more

-- The index has the chosen columns of the table that the heads are of.
pub record IsOpenOf (known : KnownBytes) (heads : List SegmentHead) (open_now : OpenColumns) : Type 0 where
  pub few : length open_now.chosen.items < 2 ^ 32
  pub is : (t : Table) → (notes kinds : Bytes) → AreFileHeads known heads t notes kinds → table_of open_now.index ≡ chosen_table open_now.chosen.items t
  pub there : (t : Table) → (notes kinds : Bytes) → AreFileHeads known heads t notes kinds
      → All (λ c. c < length t.schema.columns) open_now.chosen.items

-- Where columns could not be read, the lines so far stand as before a refusal of memory.
abbrev pub output_fault : NamedFault → FilesFault
output_fault (Run fault) = fault
output_fault (Columns fault) = NoMemory

-- Where the heads are of a table, a fault of the columns says nothing of the bytes.
abbrev pub IsNoDamage : NamedFault → Type 0
IsNoDamage (Run fault) = Unit {0}
IsNoDamage (Columns fault) = IsReadOrNoMemory fault
