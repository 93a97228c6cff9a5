-- A handle may go to another thread where what it holds may.
use mir.Raw.{raw}
use denote.Memory.{lone}
use denote.RawPtr.{Ptr}
use denote.Struct.Struct.{exits_of}
use denote.Struct.Owning.{shape, fields, to}
use denote.Param.Send.{IsSend, AllSend, owning_send, struct_send, sendable}
use base.Shift.{Keyless}
use Rattle.std.specs.Prelude.{Option, None, Some}
use Rattle.std.specs.Global.{Global}
use Rattle.std.proofs.Crossing as heap
use Rattle.std_alloc.proofs.SendSync.{quiet, lies}
use Rattle.std.below.std_heap.proofs.Global.TheSendSync as handle
use Rattle.bsi_ffi.specs.Owned.{pointer_owns}
use Rattle.bsi_ffi.specs.contracts.state.HandleState as HandleState
use Rattle.bsi_ffi.proofs.state.HandleState.TheSendSync.{the_send as state}
use Rattle.bsi_ffi.specs.contracts.handle.OwnedPointer.{the_row, the_type}

keyless : (alloc : Global) (p : Ptr) (pointer : Option HandleState.the_row.Denot) → Keyless (pointer_owns alloc p pointer)
keyless alloc p None = tt
keyless alloc p (Some x) = (lies HandleState.the_row state p x, heap.frees.frees alloc (raw (lone HandleState.the_row.mir)) p)

pub send : IsSend the_row
send =
    let all : AllSend (fields the_type) = (search sendable, (handle.the_field_send, tt)) in
    owning_send the_type all (λ d. keyless d.alloc d.ptr d.value)
    (λ k. quiet (to the_type) (exits_of k (fields the_type)) ((struct_send (shape the_type) all).leaving k))
