-- Texts that are appended to a line.
use Rattle.std.proofs.Common.{◌≡◌, ◌++◌, Result, Ok, Err}
use Rattle.std.specs.Prelude.{OnOk}
use Rattle.bsi_syntax.specs.Bytes.{Bytes}
use Rattle.bsi_syntax.specs.Notations.{AppendsText}

-- a text that has the property
pub appends_it : {E : Type 0} (Is : Bytes → Type 0) (r : Result (Unit {0}) E) (old text new : Bytes) → Is text → OnOk r (new ≡ old ++ text) → OnOk r (AppendsText Is old new)
appends_it Is (Ok done) old text new is written = record { text = text; is = is; written = written }
appends_it Is (Err e) old text new is written = tt
