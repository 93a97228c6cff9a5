-- What a status tells.
use Rattle.std.proofs.Common.{◌≡◌, ◌≢◌, ◌<◌, ℕ, ap, ◌∙◌, arith}
use Rattle.std.specs.Prelude.{Ok, Err, IfErr, OnErr, OnOk}
use Rattle.bsi_ffi.specs.Statuses.{status_of, Ending}
use Rattle.bsi_ffi.specs.declared.refusal.Refusal.{Refusal}
use Rattle.bsi_ffi.specs.declared.refusal.Refusal.TheVariants.{BadColumns, BadFeeder, BadKinds, BadQuery, BadRow, BadSchema, BadText, BufferTooSmall, Closed, CutShort, Damaged, IndexFull, LongNotes, NoColumns, NoMemory, NotAnIndex, Open, OtherVersion, Shared}

-- where the status is not 0, the call was refused
pub where_refused : (P : Type 0) (ending : Ending) (status : ℕ) → status ≡ status_of ending → OnErr ending P → status ≢ 0 → P
where_refused P (Ok done) status is unchanged other = absurd (other is)
where_refused P (Err why) status is unchanged other = unchanged

-- and for another reason than this one, where it is not that one's number either
pub where_other : (one : Refusal) (P : Type 0) (ending : Ending) (status : ℕ) → status ≡ status_of ending
    → IfErr ending (λ why. why ≢ one → P) → status ≢ 0 → status ≢ status_of (Err one) → P
where_other one P (Ok done) status is unchanged other another = absurd (other is)
where_other one P (Err why) status is unchanged other another =
    unchanged (λ same. another (is ∙ ap (λ (w : Refusal). status_of (Err w)) same))

-- each refusal has another number than 0
not_done : (why : Refusal) → 0 < status_of (Err why)
not_done Closed = omega arith
not_done Open = omega arith
not_done NoMemory = omega arith
not_done BadSchema = omega arith
not_done NoColumns = omega arith
not_done BadFeeder = omega arith
not_done BadColumns = omega arith
not_done BadRow = omega arith
not_done IndexFull = omega arith
not_done Shared = omega arith
not_done BadQuery = omega arith
not_done BufferTooSmall = omega arith
not_done BadText = omega arith
not_done LongNotes = omega arith
not_done NotAnIndex = omega arith
not_done OtherVersion = omega arith
not_done CutShort = omega arith
not_done Damaged = omega arith
not_done BadKinds = omega arith

-- where the status is 0, the call was done
pub where_done : (P : Type 0) (ending : Ending) (status : ℕ) → status ≡ status_of ending → OnOk ending P → status ≡ 0 → P
where_done P (Ok done) status is holds zero = holds
where_done P (Err why) status is holds zero = absurd (omega (arith, is, zero, not_done why))
