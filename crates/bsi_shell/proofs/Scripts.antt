-- What a script that ended by a fault leaves in an output that was then flushed.
use Rattle.std.proofs.Common.{◌≡◌, ◌≢◌, ℕ, List, Result, Ok, Err, refl, sym, subst}
use Rattle.std.specs.Io.KnownBytes.{Keeps}
use Rattle.std.specs.Prelude.{IfErr, IfSome, OnErr, OnOk}
use Rattle.std.specs.Result.{result_and}
use Rattle.bsi_input.specs.Texts.{IsAnswered, IsTooLong, WrotePrefix, WroteWholeLines}
use Rattle.bsi_text.specs.declared.script.ScriptFault.{ScriptFault}
use Rattle.bsi_text.specs.declared.script.ScriptFault.TheVariants.{NoMemory, Read, TooLong, Write}
use Rattle.bsi_shell.specs.ScriptRuns.{LeavesScript}
use Rattle.bsi_shell.proofs.Runs.{appends_flushed, begun_flushed, if_some}
use Rattle.bsi_syntax.specs.Bytes.{KnownBytes}

module _ (before middle after : KnownBytes) (keeps : Keeps middle after) where
  too_long_flushed : (bytes : List ℕ) → IsTooLong bytes before middle → IsTooLong bytes before after
  too_long_flushed bytes long =
      let w = long.written in
      record {
        records = long.records;
        state = long.state;
        rest = long.rest;
        first = long.first;
        many = long.many;
        more = long.more;
        written = (w.0, w.1, appends_flushed before middle after _ w.2 keeps);
      }

  stopped_flushed : (bytes : List ℕ) → WroteWholeLines bytes before middle → WroteWholeLines bytes before after
  stopped_flushed bytes stopped =
      let w = stopped.written in
      record {
        records = stopped.records;
        state = stopped.state;
        rest = stopped.rest;
        first = stopped.first;
        written = (w.0, w.1, appends_flushed before middle after _ w.2 keeps);
      }

  pub script_left : (input : KnownBytes) (run flushed both : Result Unit ScriptFault) → both ≡ result_and run flushed
      → OnOk run (IfSome input (λ bytes. IsAnswered bytes before middle)) → (run ≡ Err TooLong → IfSome input (λ bytes. IsTooLong bytes before middle))
      → OnErr run (IfSome input (λ bytes. WrotePrefix bytes before middle)) → IfErr run (λ fault. fault ≢ Write → IfSome input (λ bytes. WroteWholeLines bytes before middle))
      → ((bytes : List ℕ) → IsAnswered bytes before middle → WrotePrefix bytes before middle) → IfErr flushed (λ fault. fault ≡ Write)
      → IfErr both (λ fault. LeavesScript input fault before after)
  script_left input run flushed both is answered long begun stopped begins last =
      subst (λ (r : Result Unit ScriptFault). IfErr r (λ fault. LeavesScript input fault before after)) (sym is) (by run flushed answered long begun stopped last)
    where
      by : (r f : Result Unit ScriptFault) → OnOk r (IfSome input (λ bytes. IsAnswered bytes before middle))
          → (r ≡ Err TooLong → IfSome input (λ bytes. IsTooLong bytes before middle)) → OnErr r (IfSome input (λ bytes. WrotePrefix bytes before middle))
          → IfErr r (λ fault. fault ≢ Write → IfSome input (λ bytes. WroteWholeLines bytes before middle)) → IfErr f (λ fault. fault ≡ Write)
          → IfErr (result_and r f) (λ fault. LeavesScript input fault before after)
      by (Ok x) (Ok y) answered long begun stopped last = tt
      by (Ok x) (Err e) answered long begun stopped last =
          subst (λ (fault : ScriptFault). LeavesScript input fault before after) (sym last)
          (if_some input (begun_flushed before middle after keeps) (if_some input begins answered))
      by (Err TooLong) f answered long begun stopped last = if_some input too_long_flushed (long refl)
      by (Err Write) f answered long begun stopped last = if_some input (begun_flushed before middle after keeps) begun
      by (Err Read) f answered long begun stopped last = if_some input stopped_flushed (stopped (λ same. absurd (cc (same))))
      by (Err NoMemory) f answered long begun stopped last = if_some input stopped_flushed (stopped (λ same. absurd (cc (same))))
