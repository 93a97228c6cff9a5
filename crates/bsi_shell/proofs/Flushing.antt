-- What holds of a command that met no fault, and of one that did.
use Rattle.std.proofs.Common.{◌≡◌, ℕ, List, Result, Ok, Err, inl, inr, subst}
use Rattle.std.specs.Borrow.{Bor}
use Rattle.std.specs.Io.KnownBytes.{Keeps}
use Rattle.std.specs.Prelude.{◌⊎◌, IfErr, IfOk, IsOk, IsOkAnd, OnOk}
use Rattle.bsi_input.specs.declared.writing.WriteFault.{WriteFault}
use Rattle.bsi_shell.specs.FaultLines.{IsLineWritten}
use Rattle.bsi_shell.specs.StoreRuns.{bad_records_notice, EndedByFault, HasFailedStore, HasGivenRows, IsFlushed, OfSome}
use Rattle.bsi_store.specs.Faults.{NamesPath}
use Rattle.bsi_store.specs.declared.fault.StoreFault.{StoreFault}
use Rattle.bsi_store.specs.declared.fault.StoreFault.TheVariants.{BadRecords, CannotOpen, CannotWrite, Unusable, Run}
use Rattle.bsi_syntax.specs.Bytes.{KnownBytes}

on_ok_is : {T E P : Type 0} (r : Result T E) → OnOk r P → IsOk r → P
on_ok_is (Ok x) holds ok = holds
on_ok_is (Err e) holds ok = cc ok

-- what is left by a fault of a run, or of the flush behind it
left_of : {T E D : Type 0} (L : E → Type 0) {w : E} (r : Result T E) (fault : E) → IfErr r L → OnOk r D → ((r ≡ Err fault) ⊎ (IsOk r × (fault ≡ w)))
    → L fault ⊎ ((fault ≡ w) × D)
left_of L (Ok x) fault failed done (inl is) = cc is
left_of L (Ok x) fault failed done (inr is) = inr (is.1, done)
left_of L (Err e) fault failed done (inl is) = let same : e ≡ fault = cc is in inl (subst L same failed)
left_of L (Err e) fault failed done (inr is) = cc is.0

-- a command that met no fault, whose output was flushed
pub flushed : {T E : Type 0} {D : KnownBytes → KnownBytes → Type 0} (run : Result T E) (before middle after : KnownBytes) → OnOk run (D before middle)
    → IsOk run → Keeps middle after → IsFlushed D before after
flushed run before middle after done ok keeps = record { middle = middle; is = on_ok_is run done ok; flushed = keeps }

-- and one that met a fault, or could not flush
pub reported_end : {T : Type 0} {L : StoreFault → KnownBytes → KnownBytes → Type 0} {D : KnownBytes → KnownBytes → Type 0} (run : Result T StoreFault)
    (before middle after : KnownBytes) (reported : Result (Unit {0}) WriteFault) (said now : KnownBytes) → IfErr run (λ fault. L fault before middle)
    → OnOk run (D before middle) → EndedByFault run reported said now → Keeps middle after → HasFailedStore L D before after reported said now
reported_end {T} {L} run before middle after reported said now failed done ended keeps = record {
  fault = ended.fault;
  middle = middle;
  left = left_of (λ fault. L fault before middle) run ended.fault failed done ended.is;
  flushed = keeps;
  line = ended.line;
}

-- a command that gave rows to an index
pub given : {D : ℕ → KnownBytes → KnownBytes → Type 0} (run : Result ℕ StoreFault) (before middle after : KnownBytes) (reported : Result (Unit {0}) WriteFault)
    (said now : KnownBytes) → IfOk run (λ bad. D bad before middle) → IsOkAnd run (λ bad. IsLineWritten reported said now (bad_records_notice bad)) → Keeps middle after
    → HasGivenRows D before after reported said now
given (Ok bad) before middle after reported said now done noticed keeps = record {
  bad = bad;
  given = record { middle = middle; is = done; flushed = keeps };
  noticed = noticed;
}
given (Err e) before middle after reported said now done noticed keeps = absurd noticed

pub of_some : (D : ℕ → KnownBytes → KnownBytes → Type 0) (run : Result ℕ StoreFault) (before after : KnownBytes) → IfOk run (λ bad. D bad before after)
    → OnOk run (OfSome D before after)
of_some D (Ok bad) before after done = (bad, done)
of_some D (Err e) before after done = tt

-- a fault names one of more paths
pub names_more : {P Q : Bor (List ℕ) → Type 0} (fault : StoreFault) → ((path : Bor (List ℕ)) → P path → Q path) → NamesPath P fault → NamesPath Q fault
names_more (CannotOpen path) follows is = follows path is
names_more (CannotWrite path why) follows is = follows path is
names_more (Unusable path why) follows is = follows path is
names_more (BadRecords bad) follows is = tt
names_more (Run fault) follows is = tt

-- what follows from three facts of a fault
pub all_three : {T E : Type 0} {A B C Q : E → Type 0} (r : Result T E) → ((e : E) → A e → B e → C e → Q e) → IfErr r A → IfErr r B → IfErr r C → IfErr r Q
all_three (Ok x) follows a b c = tt
all_three (Err e) follows a b c = follows e a b c
