-- Which index the state of a handle has, if any (`opened_in`), and whether several handles share it.
use Rattle.std.specs.Prelude.{Bool, true, false, Option, Some, None}
use Rattle.bsi_ffi.specs.declared.state.HandleState.{HandleState}
use Rattle.bsi_ffi.specs.declared.state.HandleState.TheVariants.{Moved, Owned, Shared}
use Rattle.bsi_ffi.specs.OpenIndex.{OpenIndex}

-- The index of a handle. A closed handle has none.
abbrev pub opened_in : Option HandleState → Option OpenIndex
opened_in None = None
opened_in (Some (Owned opened)) = Some opened
opened_in (Some (Shared opened)) = Some opened.value
opened_in (Some Moved) = None

-- Several handles share the index.
abbrev pub is_shared : Option HandleState → Bool
is_shared None = false
is_shared (Some (Owned opened)) = false
is_shared (Some (Shared opened)) = true
is_shared (Some Moved) = false
