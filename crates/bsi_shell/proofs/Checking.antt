-- A check of files that were opened under their paths.
use Rattle.std.proofs.Common.{◌≡◌, ◌++◌, Bool, List, Option, refl}
use Rattle.std.specs.Io.KnownBytes.{Keeps}
use Rattle.bsi_check.specs.Reports.{HasBegunReport, HasReported}
use Rattle.bsi_input.proofs.Waiting.{cut_all}
use Rattle.bsi_check.specs.declared.named.NamedFile.{NamedFile}
use Rattle.bsi_check.specs.declared.fault.CheckFault.{CheckFault}
use Rattle.bsi_check.specs.declared.fault.CheckFault.TheVariants.{NoMemory, Write}
use Rattle.bsi_shell.proofs.Runs.{flush_same}
use Rattle.bsi_shell.specs.Checks.{check_fault_of, IsOverOpened, LeavesCheck}
use Rattle.bsi_syntax.specs.Bytes.{KnownBytes}

module _ {S : Type 0} (rem : S → KnownBytes) (schema : NamedFile S) (asks : Option (NamedFile S)) (rows : List (NamedFile S)) where
  pub over_opened : (Is : NamedFile S → List (NamedFile S) → Option (NamedFile S) → KnownBytes → KnownBytes → Type 0)
      (before middle after : KnownBytes) → Is schema rows asks before middle → Keeps middle after → IsOverOpened Is before after
  over_opened Is before middle after is keeps = record {
    schema = schema;
    asks = asks;
    rows = rows;
    middle = middle;
    is = is;
    flushed = keeps;
  }

  -- a whole report is a first prefix too
  pub begun_all : (before after : KnownBytes) (good : Bool) → HasReported rem schema rows asks before after good
      → HasBegunReport rem schema rows asks before after
  begun_all before after good reported = record {
    reasons = reported.reasons;
    fed = reported.fed;
    report = reported.report;
    cut = cut_all before after (reported.reasons ++ reported.fed) reported.written;
  }

  -- where the check itself ended by a fault
  pub left_checked : (before after : KnownBytes) (fault : CheckFault)
      → (fault ≡ Write → HasBegunReport rem schema rows asks before after) → (fault ≡ NoMemory → after ≡ before)
      → LeavesCheck rem (check_fault_of fault) before after
  left_checked before after NoMemory prefix quiet = quiet refl
  left_checked before after Write prefix quiet = over_opened (HasBegunReport rem) before after after (prefix refl) (flush_same after after refl)
