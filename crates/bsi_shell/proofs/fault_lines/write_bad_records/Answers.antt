use Rattle.std.proofs.Common.{ℕ, List, subst, ◌∙◌}
use Rattle.bsi_shell.proofs.Cutting.{written_by}
use Rattle.bsi_shell.proofs.fault_lines.write_bad_records.Goals as goal
use Rattle.bsi_shell.specs.FaultLines.{IsLineWritten}

pub returns : goal.returns
returns g c =
    let before = g.F.Write.contents c.args.stderr.now in
    let after = g.F.Write.contents c.write_bytes.new.writer in
    subst (λ (bytes : List ℕ). IsLineWritten c.write_bytes.result before after bytes) (c.as_bytes.ensures.value ∙ (c.as_str.ensures.value ∙ c.bad_records_line.ensures))
    (written_by c.write_bytes.result before after c.as_bytes.result.now c.write_bytes.ensures.ok c.write_bytes.ensures.prefix)
