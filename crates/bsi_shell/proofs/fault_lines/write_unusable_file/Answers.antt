use Rattle.std.proofs.Common.{◌≡◌, ◌++◌, List, ℕ, ap, subst, ◌∙◌}
use Rattle.std.specs.Prelude.{codes}
use Rattle.bsi_shell.proofs.fault_lines.write_unusable_file.Goals as goal
use Rattle.bsi_shell.specs.FaultLines.{IsLineWritten}
use Rattle.bsi_store.specs.Faults.{file_fault_text}

-- what stands behind the path is what is reported of the file, and a line end
pub returns : goal.returns
returns g c =
    let before = g.F.Write.contents c.args.stderr.now in
    let after = g.F.Write.contents c.write_message.new.stderr in
    let text = file_fault_text c.args.fault in
    let reported : c.as_str-2.result.now ≡ codes ": " ++ (text ++ codes "\n") =
    c.as_str-2.ensures.value ∙ (c.push_str-3.ensures.bytes ∙ ap (λ (b : List ℕ). b ++ codes "\n")
    (c.push_str-2.ensures.bytes ∙ (ap (λ (b : List ℕ). b ++ c.as_str.result.now) (c.push_str.ensures.bytes ∙ ap (λ (b : List ℕ). b ++ codes ": ") c.new-reported.ensures)
    ∙ ap (λ (b : List ℕ). codes ": " ++ b) (c.as_str.ensures.value ∙ c.text.ensures)))) in
    subst (λ (bytes : List ℕ). IsLineWritten c.write_message.result before after (codes "bsi: " ++ (c.args.path.now ++ bytes))) reported c.write_message.ensures
