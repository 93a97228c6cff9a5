-- A line that was copied to a buffer, or had no room there.
use Rattle.std.proofs.Common.{◌≡◌, ◌∙◌, ◌++◌, ◌<◌, ◌≤◌, ℕ, List, [], ap, length, subst, sym, take}
use Rattle.std.specs.Prelude.{Ok, Err, IfErr, OnErr, OnOk}
use Rattle.bsi_rows.specs.Fields.{Field}
use Rattle.bsi_syntax.specs.Bytes.{Bytes}
use Rattle.bsi_syntax.specs.Notations.{AppendsText}
use Rattle.bsi_ffi.specs.Lines.{IsAnswerLine, IsLineReplied}
use Rattle.bsi_ffi.specs.OpenIndex.{OpenIndex}
use Rattle.bsi_ffi.specs.Statuses.{Ending}
use Rattle.bsi_ffi.specs.declared.refusal.Refusal.{Refusal}
use Rattle.bsi_ffi.specs.declared.refusal.Refusal.TheVariants.{BufferTooSmall}

module _ (opened : OpenIndex) (fields : List Field) where
  -- a text that was appended to nothing is itself the line
  line_alone : (old text : Bytes) → old ≡ [] → AppendsText (IsAnswerLine opened fields) old text → IsAnswerLine opened fields text
  line_alone old text none written =
      subst (λ (line : Bytes). IsAnswerLine opened fields line) (sym (written.written ∙ ap (λ (bytes : Bytes). bytes ++ written.text) none)) written.is

  pub copied_line : (ending : Ending) (old text from out : Bytes) (size : ℕ) → old ≡ [] → AppendsText (IsAnswerLine opened fields) old text → from ≡ text
      → size ≡ length from → OnOk ending (take size out ≡ from) → OnOk ending (size ≤ length out) → OnErr ending (length out < size)
      → IfErr ending (λ why. why ≡ BufferTooSmall) → IsLineReplied opened fields out size ending
  copied_line (Ok done) old text from out size none written is long copied within short refused = (
    subst (λ (line : Bytes). IsAnswerLine opened fields line) (sym (copied ∙ is)) (line_alone old text none written),
    within,
  )
  copied_line (Err why) old text from out size none written is long copied within short refused =
      subst (λ (w : Refusal). IsLineReplied opened fields out size (Err w)) (sym refused)
      (text, line_alone old text none written, long ∙ ap (λ (bytes : Bytes). length bytes) is, short)
