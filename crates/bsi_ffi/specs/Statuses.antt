-- The numbers by which C knows how a call ended.
use Rattle.std.specs.Prelude.{◌≡◌, ℕ, Result, Ok, Err}
use Rattle.bsi_ffi.specs.declared.refusal.Refusal.{Refusal}
use Rattle.bsi_ffi.specs.declared.refusal.Refusal.TheVariants.{BadColumns, BadFeeder, BadKinds, BadQuery, BadRow, BadSchema, BadText, BufferTooSmall, Closed, CutShort, Damaged, IndexFull, LongNotes, NoColumns, NoMemory, NotAnIndex, Open, OtherVersion, Shared}

-- How a call ended: it was done, or refused.
abbrev pub Ending : Type 0
Ending = Result (Unit {0}) Refusal

abbrev pub status_of : Ending → ℕ
status_of (Ok done) = 0
status_of (Err Closed) = 1
status_of (Err Open) = 2
status_of (Err NoMemory) = 3
status_of (Err BadSchema) = 4
status_of (Err NoColumns) = 5
status_of (Err BadFeeder) = 6
status_of (Err BadColumns) = 7
status_of (Err BadRow) = 8
status_of (Err IndexFull) = 9
status_of (Err Shared) = 10
status_of (Err BadQuery) = 11
status_of (Err BufferTooSmall) = 12
status_of (Err BadText) = 13
status_of (Err LongNotes) = 14
status_of (Err NotAnIndex) = 15
status_of (Err OtherVersion) = 16
status_of (Err CutShort) = 17
status_of (Err Damaged) = 18
status_of (Err BadKinds) = 19

-- The status is that of an ending which satisfies `Is`.
abbrev pub ReturnsStatus : ℕ → (Ending → Type 0) → Type 0
ReturnsStatus status Is = (ending : Ending) × (status ≡ status_of ending) × Is ending
