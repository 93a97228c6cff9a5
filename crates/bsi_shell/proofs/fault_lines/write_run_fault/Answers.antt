use Rattle.std.proofs.Common.{subst, sym}
use Rattle.bsi_shell.proofs.fault_lines.write_run_fault.Goals as goal
use Rattle.bsi_shell.specs.FaultLines.{fault_line, IsLineWritten}
use Rattle.bsi_shell.specs.declared.files.RunFault.{RunFault}

pub returns-in-CannotOpen : goal.returns-in-CannotOpen
returns-in-CannotOpen g c =
    subst (λ (fault : RunFault). IsLineWritten c.write_message.result (g.F.Write.contents c.args.stderr.now) (g.F.Write.contents c.write_message.new.stderr) (fault_line fault))
    (sym c.in-CannotOpen.is) c.write_message.ensures
