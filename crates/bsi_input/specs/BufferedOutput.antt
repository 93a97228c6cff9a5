-- Buffered output: bytes that are not written yet, and what the output is after some or all of them are.
use Rattle.std.specs.Prelude.{◌≡◌, ℕ, List, ◌++◌, take}
use Rattle.std.specs.Io.KnownBytes.{Appends}
use Rattle.bsi_syntax.specs.Bytes.{Bytes, KnownBytes}

-- A prefix of the text was appended to the output, and the rest of the text is in the buffer.
pub record AppendsAllBut (before after : KnownBytes) (waiting text : Bytes) : Type 0 where
  pub gone : List ℕ
  pub text_is : text ≡ gone ++ waiting
  pub written : Appends before after gone

-- A prefix of the text was appended to the output.
abbrev pub AppendsPrefix : KnownBytes → KnownBytes → List ℕ → Type 0
AppendsPrefix before after text = (n : ℕ) × Appends before after (take n text)

-- P holds of the output after the buffer is written.
abbrev pub HoldsAfterFlush : KnownBytes → List ℕ → (KnownBytes → Type 0) → Type 0
HoldsAfterFlush now waiting P = (after : KnownBytes) → Appends now after waiting → P after

-- P holds of the output after any prefix of the buffer is written.
abbrev pub HoldsAfterAnyPartialFlush : KnownBytes → List ℕ → (KnownBytes → Type 0) → Type 0
HoldsAfterAnyPartialFlush now waiting P = (after : KnownBytes) → AppendsPrefix now after waiting → P after
