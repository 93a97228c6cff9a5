-- The reason of a bad record, by the text that tells why it is bad.
use Rattle.std.proofs.Common.{◌≡◌, ℕ, List, [], ◌∷◌, Result, Ok, Err, subst}
use Rattle.std.specs.Prelude.{OnOk}
use Rattle.bsi_rows.specs.Fields.{Field}
use Rattle.bsi_input.specs.Formats.{Format}
use Rattle.bsi_check.specs.Judges.{IsReason, Judge}
use Rattle.bsi_check.specs.Reasons.{line_why, one_line, AddsReasons, AddsRecordReason}

pub record_told : {T E : Type 0} (r : Result T E) (format : Format) (judge : Judge) (header fields : List Field) (path : List ℕ) (line : ℕ) (text shown a b : List ℕ)
    → IsReason format judge header fields text → shown ≡ text → OnOk r (AddsReasons path (one_line (line_why line shown) ∷ []) a b)
    → OnOk r (AddsRecordReason format judge header fields path a b)
record_told (Err e) format judge header fields path line text shown a b tells is added = tt
record_told (Ok x) format judge header fields path line text shown a b tells is added = record {
  line = line;
  text = text;
  tells = tells;
  added = subst (λ (t : List ℕ). AddsReasons path (one_line (line_why line t) ∷ []) a b) is added;
}
