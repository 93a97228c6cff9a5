use Rattle.std.proofs.Common.{◌≡◌, ◌++◌, List, ℕ, ap, subst, ◌∙◌}
use Rattle.std.specs.Prelude.{codes}
use Rattle.bsi_shell.proofs.Cutting.{written_by}
use Rattle.bsi_shell.proofs.fault_lines.write_fault.Goals as goal
use Rattle.bsi_shell.specs.FaultLines.{IsLineWritten}

-- the line is the text and a line end
pub returns : goal.returns
returns g c =
    let before = g.F.Write.contents c.args.stderr.now in
    let after = g.F.Write.contents c.write_bytes.new.writer in
    let text = c.args.text.now in
    let line : c.as_bytes.result.now ≡ text ++ codes "\n" =
    c.as_bytes.ensures.value ∙ (c.as_str.ensures.value ∙ (c.push_str-2.ensures.bytes ∙ ap (λ (b : List ℕ). b ++ codes "\n") (c.push_str.ensures.bytes ∙ ap (λ (b : List ℕ). b ++ text) c.new-line.ensures))) in
    subst (λ (bytes : List ℕ). IsLineWritten c.write_bytes.result before after bytes) line
    (written_by c.write_bytes.result before after c.as_bytes.result.now c.write_bytes.ensures.ok c.write_bytes.ensures.prefix)
