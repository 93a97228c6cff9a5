-- A line that was written whole, or in prefix.
use Rattle.std.proofs.Common.{ℕ, List, ◌++◌, Some, None, Result, Ok, Err, ap, append_assoc, ◌∙◌}
use Rattle.std.specs.Io.KnownBytes.{Appends}
use Rattle.std.specs.Prelude.{IsErr, OnErr, OnOk}
use Rattle.bsi_shell.specs.FaultLines.{IsLineWritten}
use Rattle.bsi_input.specs.BufferedOutput.{AppendsPrefix}
use Rattle.bsi_input.specs.declared.writing.WriteFault.{WriteFault}
use Rattle.bsi_syntax.specs.Bytes.{KnownBytes}

pub written_by : (r : Result Unit WriteFault) (before after : KnownBytes) (line : List ℕ) → OnOk r (Appends before after line) → OnErr r (AppendsPrefix before after line) → IsLineWritten r before after line
written_by (Ok x) before after line whole prefix = whole
written_by (Err e) before after line whole prefix = prefix

pub written_failed : (r : Result Unit WriteFault) (before after : KnownBytes) (line : List ℕ) → IsErr r → AppendsPrefix before after line → IsLineWritten r before after line
written_failed (Ok x) before after line failed prefix = cc failed
written_failed (Err e) before after line failed prefix = prefix

pub written_from : {P Q : Type 0} (r : Result Unit WriteFault) (before after : KnownBytes) (line : List ℕ) → OnOk r P → OnErr r Q → (P → Appends before after line) → (Q → AppendsPrefix before after line)
    → IsLineWritten r before after line
written_from (Ok x) before after line p q whole prefix = whole p
written_from (Err e) before after line p q whole prefix = prefix q

-- two texts that were written one after the other
pub appends_both : (before middle after : KnownBytes) (first last : List ℕ) → Appends before middle first → Appends middle after last → Appends before after (first ++ last)
appends_both None middle after first last p q = tt
appends_both (Some xs) None after first last p q = absurd p
appends_both (Some xs) (Some ys) None first last p q = absurd q
appends_both (Some xs) (Some ys) (Some zs) first last p q = q ∙ (ap (λ bytes. bytes ++ last) p ∙ append_assoc xs first last)
