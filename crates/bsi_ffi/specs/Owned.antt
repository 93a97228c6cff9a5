-- What the pointer of a handle owns: nothing, or a box with its value.
use Rattle.std.specs.Prelude.{Option, None, Some}
use Rattle.std.specs.Coded.{coded_option}
use base.Fml.{Fml, ftrue}
use base.Stored.{Coded}
use denote.RawPtr.{Ptr}
use Rattle.std.specs.Box.Ownership.{box_owns}
use Rattle.std.specs.Global.{Global}
use Rattle.std.below.std_heap.specs.contracts.GlobalAllocator.TheImpl.{ghosts}
use Rattle.bsi_ffi.specs.contracts.state.HandleState.{the_row}

abbrev pub PointerValue : Type 0
PointerValue = Option the_row.Denot

abbrev pub pointer_owns : Global → Ptr → Option the_row.Denot → Fml
pointer_owns alloc p None = ftrue
pointer_owns alloc p (Some x) = box_owns (ghosts.dealloc_token alloc) the_row p x

abbrev pub pointer_coded : Coded (Option the_row.Denot)
pointer_coded = coded_option the_row.coded
