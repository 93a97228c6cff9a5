use Rattle.std.proofs.Common.{ℕ, List, rules, subst, ◌++◌}
use Rattle.std.specs.Io.KnownBytes.{Appends}
use Rattle.std.specs.Prelude.{IsErr, OnErr, OnOk}
use Rattle.bsi_shell.proofs.Cutting.{appends_both, written_failed, written_from}
use Rattle.bsi_shell.proofs.fault_lines.write_message.Goals as goal
use Rattle.bsi_input.proofs.Waiting.{cut_front, cut_whole}
use Rattle.bsi_input.specs.BufferedOutput.{AppendsPrefix}

-- the first text was cut
pub returns-in_err-write_bytes : goal.returns-in_err-write_bytes
returns-in_err-write_bytes g c =
    let before = g.F.Write.contents c.args.stderr.now in
    let after = g.F.Write.contents c.write_bytes.new.writer in
    let rest = c.args.path.now ++ c.args.after.now in
    let failed : IsErr c.from_residual.result = search rules in
    let cut : AppendsPrefix before after c.args.before.now = subst (λ (bytes : List ℕ). AppendsPrefix before after bytes) c.as_bytes.ensures.value c.in_err-write_bytes.ensures.prefix in
    written_failed c.from_residual.result before after (c.args.before.now ++ rest) failed
    (cut_front before after c.args.before.now rest cut)

-- the path was
pub returns-in_err-write_bytes-2 : goal.returns-in_err-write_bytes-2
returns-in_err-write_bytes-2 g c =
    let before = g.F.Write.contents c.args.stderr.now in
    let middle = g.F.Write.contents c.write_bytes.new.writer in
    let after = g.F.Write.contents c.write_bytes-2.new.writer in
    let first : Appends before middle c.args.before.now = subst (λ (bytes : List ℕ). Appends before middle bytes) c.as_bytes.ensures.value c.in_ok-write_bytes.ensures.ok in
    let path : AppendsPrefix middle after c.args.path.now = subst (λ (bytes : List ℕ). AppendsPrefix middle after bytes) c.as_bytes-2.ensures.value c.in_err-write_bytes-2.ensures.prefix in
    let failed : IsErr c.from_residual-in_err-write_bytes-2.result = search rules in
    written_failed c.from_residual-in_err-write_bytes-2.result before after (c.args.before.now ++ (c.args.path.now ++ c.args.after.now)) failed
    (cut_whole before middle after c.args.before.now (c.args.path.now ++ c.args.after.now) first
    (cut_front middle after c.args.path.now c.args.after.now path))

-- both were written
pub returns : goal.returns
returns g c =
    let before = g.F.Write.contents c.args.stderr.now in
    let middle = g.F.Write.contents c.write_bytes.new.writer in
    let later = g.F.Write.contents c.write_bytes-2.new.writer in
    let after = g.F.Write.contents c.write_bytes-3.new.writer in
    let start : Appends before middle c.args.before.now = subst (λ (bytes : List ℕ). Appends before middle bytes) c.as_bytes.ensures.value c.in_ok-write_bytes.ensures.ok in
    let path : Appends middle later c.args.path.now = subst (λ (bytes : List ℕ). Appends middle later bytes) c.as_bytes-2.ensures.value c.in_ok-write_bytes-2.ensures.ok in
    let end_ok : OnOk c.write_bytes-3.result (Appends later after c.args.after.now) = subst (λ (bytes : List ℕ). OnOk c.write_bytes-3.result (Appends later after bytes)) c.as_bytes-3.ensures.value c.write_bytes-3.ensures.ok in
    let end_cut : OnErr c.write_bytes-3.result (AppendsPrefix later after c.args.after.now) = subst (λ (bytes : List ℕ). OnErr c.write_bytes-3.result (AppendsPrefix later after bytes)) c.as_bytes-3.ensures.value c.write_bytes-3.ensures.prefix in
    let first = c.args.before.now in
    written_from c.write_bytes-3.result before after (first ++ (c.args.path.now ++ c.args.after.now)) end_ok end_cut
    (λ end. appends_both before middle after first (c.args.path.now ++ c.args.after.now) start
    (appends_both middle later after c.args.path.now c.args.after.now path end))
    (λ end. cut_whole before middle after first (c.args.path.now ++ c.args.after.now) start
    (cut_whole middle later after c.args.path.now c.args.after.now path end))
