use Rattle.std.proofs.Common.{subst, sym}
use Rattle.bsi_shell.proofs.fault_lines.write_store_fault.Goals as goal
use Rattle.bsi_shell.specs.FaultLines.{IsLineWritten}
use Rattle.bsi_store.specs.Faults.{store_fault_line}
use Rattle.bsi_store.specs.declared.fault.StoreFault.{StoreFault}

pub returns-in-CannotOpen : goal.returns-in-CannotOpen
returns-in-CannotOpen g c =
    subst (λ (fault : StoreFault). IsLineWritten c.write_message.result (g.F.Write.contents c.args.stderr.now) (g.F.Write.contents c.write_message.new.stderr) (store_fault_line fault))
    (sym c.in-CannotOpen.is) c.write_message.ensures

pub returns-in-CannotWrite : goal.returns-in-CannotWrite
returns-in-CannotWrite g c =
    subst (λ (fault : StoreFault). IsLineWritten c.write_unwritten_file.result (g.F.Write.contents c.args.stderr.now) (g.F.Write.contents c.write_unwritten_file.new.stderr) (store_fault_line fault))
    (sym c.in-CannotWrite.is) c.write_unwritten_file.ensures

pub returns-in-BadRecords : goal.returns-in-BadRecords
returns-in-BadRecords g c =
    subst (λ (fault : StoreFault). IsLineWritten c.write_bad_records.result (g.F.Write.contents c.args.stderr.now) (g.F.Write.contents c.write_bad_records.new.stderr) (store_fault_line fault))
    (sym c.in-BadRecords.is) c.write_bad_records.ensures
