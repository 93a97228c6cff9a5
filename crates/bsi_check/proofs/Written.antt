-- A report that was written.
use Rattle.std.proofs.Common.{◌≡◌, ℕ, Bool, List, Option, Result, Ok, Err}
use Rattle.std.specs.Prelude.{IfOk}
use Rattle.bsi_syntax.specs.Bytes.{KnownBytes}
use Rattle.bsi_check.specs.Reports.{HasReported, HasWritten, IsReport, IsWritten}
use Rattle.bsi_check.specs.declared.named.NamedFile.{NamedFile}

pub has_written : {E : Type 0} (r : Result Bool E) (Is : List ℕ → List ℕ → Type 0) (before after : KnownBytes) (reasons fed : List ℕ) → Is reasons fed
    → IfOk r (IsWritten before after reasons fed) → IfOk r (HasWritten Is before after)
has_written (Err e) Is before after reasons fed is written = tt
has_written (Ok good) Is before after reasons fed is written =
    record { reasons = reasons; fed = fed; report = is; good_is = written.good_is; written = written.written }

pub has_reported : {E S : Type 0} (r : Result Bool E) (rem : S → KnownBytes) (schema : NamedFile S) (rows : List (NamedFile S)) (asked : Option (NamedFile S))
    (before after : KnownBytes) (reasons fed : List ℕ) → IsReport rem schema rows asked reasons fed → IfOk r (IsWritten before after reasons fed)
    → IfOk r (HasReported rem schema rows asked before after)
has_reported (Err e) rem schema rows asked before after reasons fed is written = tt
has_reported (Ok good) rem schema rows asked before after reasons fed is written =
    record { reasons = reasons; fed = fed; report = is; good_is = written.good_is; written = written.written }
