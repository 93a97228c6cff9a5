-- What a handle holds, its parts and a box at the same types own the same.
use mir.Syntax.{impl, tnil, dnil}
use mathlib.Core.Bool.{true}
use mathlib.Core.List.{[]}
use mathlib.Core.Path.{◌≡◌, refl, sym, subst}
use lib.Dec.{T}
use Rattle.std.specs.Prelude.{Option, None, Some, is_some}
use denote.Signature.{Slot, plain}
use Rattle.std.proofs.BoxSteps.Form.{Bx}
use Rattle.std.specs.contracts.alloc.Global as Heap
use Rattle.std.below.std_heap.specs.contracts.GlobalAllocator.TheImpl.{ghosts, dict}
use Rattle.std.proofs.alloc.Global.TheLaws as heap
use Rattle.bsi_ffi.specs.contracts.state.HandleState as Inner
use Rattle.bsi_ffi.proofs.state.HandleState.TheLaws as inner
use Rattle.bsi_ffi.specs.contracts.handle.raw.RawParts as RawParts
use Rattle.bsi_ffi.specs.contracts.handle.OwnedPointer as OwnedPointer

abbrev pub E : Bx
E = record { row = Inner.the_row; laws = inner.the_row_laws; al = record { row = Heap.the_row; laws = heap.the_row_laws; g = ghosts; d = dict; drops = impl [] tnil dnil } }

abbrev pub FromRawParts : Slot 0
FromRawParts = plain (λ _. RawParts.the_row Inner.the_row Heap.the_row ghosts)

abbrev pub FromPointer : Slot 0
FromPointer = plain (λ _. OwnedPointer.the_row)

-- what is there is some value
pub some_of : {X : Type 0} (pointer : Option X) → is_some pointer ≡ true → (x : X) × (pointer ≡ Some x)
some_of None wrong = absurd (subst T (sym wrong) tt)
some_of (Some x) full = (x, refl)
