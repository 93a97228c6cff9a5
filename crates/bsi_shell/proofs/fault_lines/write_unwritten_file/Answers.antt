use Rattle.std.proofs.Common.{◌≡◌, ◌++◌, List, ℕ, ap, subst, ◌∙◌}
use Rattle.std.specs.Prelude.{codes}
use Rattle.bsi_shell.proofs.fault_lines.write_unwritten_file.Goals as goal
use Rattle.bsi_shell.specs.FaultLines.{IsLineWritten}
use Rattle.bsi_store.specs.Faults.{write_fault_reason}

-- what stands behind the path is the reason, and a line end
pub returns : goal.returns
returns g c =
    let before = g.F.Write.contents c.args.stderr.now in
    let after = g.F.Write.contents c.write_message.new.stderr in
    let reported : c.as_str.result.now ≡ write_fault_reason c.args.why ++ codes "\n" =
    c.as_str.ensures.value ∙ (c.push_str-2.ensures.bytes ∙ ap (λ (b : List ℕ). b ++ codes "\n")
    (c.push_str.ensures.bytes ∙ (ap (λ (b : List ℕ). b ++ c.text.result.now) c.new-reported.ensures ∙ c.text.ensures.text))) in
    subst (λ (bytes : List ℕ). IsLineWritten c.write_message.result before after (codes "bsi: cannot write " ++ (c.args.path.now ++ bytes))) reported c.write_message.ensures
