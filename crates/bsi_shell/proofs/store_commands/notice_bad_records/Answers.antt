use Rattle.std.proofs.Common.{◌≡◌, ℕ, List, zero, suc, refl, subst, sym}
use Rattle.bsi_shell.proofs.store_commands.notice_bad_records.Goals as goal
use Rattle.bsi_shell.specs.FaultLines.{IsLineWritten}
use Rattle.bsi_shell.specs.StoreRuns.{bad_records_notice}
use Rattle.bsi_store.specs.Faults.{bad_records_line}

notice_some : (bad : ℕ) → (bad ≡ 0 → ⊥) → bad_records_notice bad ≡ bad_records_line bad
notice_some zero some = absurd (some refl)
notice_some (suc less) some = refl

pub returns : goal.returns
returns g c =
    subst (λ (bytes : List ℕ). IsLineWritten c.write_bad_records.result (g.F.Write.contents c.args.stderr.now) (g.F.Write.contents c.write_bad_records.new.stderr) bytes)
    (sym (notice_some c.args.bad c.if-bad-eq0.false)) c.write_bad_records.ensures
