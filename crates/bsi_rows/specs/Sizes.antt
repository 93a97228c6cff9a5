-- Which sizes of a step machine are refused: how many feeders it has, their capacities, or its limit of rows; and
-- what a new machine is (`new_machine`).
use Rattle.std.specs.Prelude.{ℕ, Bool, false, ◌||◌, List, [], Option, Some, length, map, position, nat_eq, nat_lt, option_map, if◌then◌else◌}
use Rattle.std.specs.Option.{option_or}
use Rattle.bsi_rows.specs.declared.errors.IndexError.{IndexError}
use Rattle.bsi_rows.specs.declared.errors.IndexError.TheVariants as index
use Rattle.bsi_schema.specs.Columns.{Declared}
use Rattle.bsi_rows.specs.Refusals.{index_refusal}
use Rattle.bsi_rows.specs.Table.{max_feeders, no_rows}
use Rattle.bsi_rows.specs.declared.sizes.MakeError.{MakeError}
use Rattle.bsi_rows.specs.declared.sizes.MakeError.TheVariants.{NoFeeders, TooManyFeeders, CapacityOutOfRange, Index, NoMemory}
use Rattle.bsi_rows.specs.Shown.{max_waiting, Shown, Waiting}

-- a capacity that is not from 1 to 65,536
abbrev pub is_out_of_range : ℕ → Bool
is_out_of_range capacity = nat_eq capacity 0 || nat_lt max_waiting capacity

-- the first of the capacities that is out of range
abbrev pub capacities_refusal : List ℕ → Option MakeError
capacities_refusal capacities = option_map CapacityOutOfRange (position is_out_of_range capacities)

-- the first refusal of a machine, leaving aside memory
abbrev pub sizes_refusal : Declared → List ℕ → ℕ → Option MakeError
sizes_refusal schema capacities limit =
    if nat_eq (length capacities) 0 then Some NoFeeders
    else (if nat_lt max_feeders (length capacities) then Some TooManyFeeders
    else option_or (capacities_refusal capacities) (option_map Index (index_refusal schema limit)))

-- the refusal of a machine whose index is refused
abbrev pub refusal_of_index : IndexError → MakeError
refusal_of_index index.NoColumns = Index index.NoColumns
refusal_of_index index.LimitOutOfRange = Index index.LimitOutOfRange
refusal_of_index index.NoMemory = NoMemory

-- an open feeder of which no row waits
abbrev pub new_feeder : ℕ → Waiting
new_feeder capacity = record { rows = []; closed = false; capacity = capacity }

-- a machine with no row, whose feeders are open
abbrev pub new_machine : Declared → List ℕ → ℕ → Shown
new_machine schema capacities limit = record {
  index = no_rows schema (length capacities) limit;
  feeders = map new_feeder capacities;
}
