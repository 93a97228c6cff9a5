use Rattle.std.proofs.Common.{inl, inr, refl, subst, sym}
use Rattle.bsi_answers.specs.declared.faults.FilesFault.TheVariants.{NoMemory}
use Rattle.bsi_shell.specs.FaultLines.{fault_line, IsLineWritten}
use Rattle.bsi_shell.specs.declared.files.RunFault.TheVariants.{Run}
use Rattle.bsi_input.proofs.Standing.{nothing_begun}
use Rattle.bsi_shell.proofs.Runs.{flush_same, of_any}
use Rattle.bsi_shell.proofs.words.run_words.Goals as goal

-- no memory for the words: nothing was written
pub returns-clause-begun : goal.returns-clause-begun
returns-clause-begun g c = λ one script. of_any (g.I.Read.remaining c.args.input) (λ bytes. nothing_begun bytes (g.O.Write.contents c.args.output.now))

pub returns-clause-files_reported : goal.returns-clause-files_reported
returns-clause-files_reported g c = λ one files.
    let written = g.O.Write.contents c.args.output.now in
    record {
      fault = Run NoMemory;
      failed = inl (refl, flush_same written written refl);
      line = subst (λ reported. IsLineWritten reported (g.F.Write.contents c.args.stderr.now) (g.F.Write.contents c.write_run_fault.new.stderr) (fault_line (Run NoMemory)))
          (sym c.by-in-NoMemory.ensures.reported) c.write_run_fault.ensures;
    }

pub returns-clause-reasons : goal.returns-clause-reasons
returns-clause-reasons g c = λ one check.
    inl (inr (
      Run NoMemory,
      refl {a = g.O.Write.contents c.args.output.now},
      subst (λ reported. IsLineWritten reported (g.F.Write.contents c.args.stderr.now) (g.F.Write.contents c.write_run_fault.new.stderr) (fault_line (Run NoMemory)))
          (sym c.by-in-NoMemory.ensures.reported) c.write_run_fault.ensures,
    ))

pub returns-clause-unsaved : goal.returns-clause-unsaved
returns-clause-unsaved g c = λ one command.
    inr (
      refl {a = g.O.Write.contents c.args.output.now},
      subst (λ reported. IsLineWritten reported (g.F.Write.contents c.args.stderr.now) (g.F.Write.contents c.write_run_fault.new.stderr) (fault_line (Run NoMemory)))
          (sym c.by-in-NoMemory.ensures.reported) c.write_run_fault.ensures,
    )

pub returns-clause-undescribed : goal.returns-clause-undescribed
returns-clause-undescribed g c = λ one command.
    inr (
      refl {a = g.O.Write.contents c.args.output.now},
      subst (λ reported. IsLineWritten reported (g.F.Write.contents c.args.stderr.now) (g.F.Write.contents c.write_run_fault.new.stderr) (fault_line (Run NoMemory)))
          (sym c.by-in-NoMemory.ensures.reported) c.write_run_fault.ensures,
    )

pub returns-clause-unadded : goal.returns-clause-unadded
returns-clause-unadded g c = λ one command.
    inr (
      refl {a = g.O.Write.contents c.args.output.now},
      subst (λ reported. IsLineWritten reported (g.F.Write.contents c.args.stderr.now) (g.F.Write.contents c.write_run_fault.new.stderr) (fault_line (Run NoMemory)))
          (sym c.by-in-NoMemory.ensures.reported) c.write_run_fault.ensures,
    )

pub returns-clause-unasked : goal.returns-clause-unasked
returns-clause-unasked g c = λ one command.
    inr (
      refl {a = g.O.Write.contents c.args.output.now},
      subst (λ reported. IsLineWritten reported (g.F.Write.contents c.args.stderr.now) (g.F.Write.contents c.write_run_fault.new.stderr) (fault_line (Run NoMemory)))
          (sym c.by-in-NoMemory.ensures.reported) c.write_run_fault.ensures,
    )

pub returns-clause-unshown : goal.returns-clause-unshown
returns-clause-unshown g c = λ one command.
    inr (
      refl {a = g.O.Write.contents c.args.output.now},
      subst (λ reported. IsLineWritten reported (g.F.Write.contents c.args.stderr.now) (g.F.Write.contents c.write_run_fault.new.stderr) (fault_line (Run NoMemory)))
          (sym c.by-in-NoMemory.ensures.reported) c.write_run_fault.ensures,
    )

pub returns-clause-unhelped : goal.returns-clause-unhelped
returns-clause-unhelped g c = λ one command.
    inr (
      refl {a = g.O.Write.contents c.args.output.now},
      subst (λ reported. IsLineWritten reported (g.F.Write.contents c.args.stderr.now) (g.F.Write.contents c.write_run_fault.new.stderr) (fault_line (Run NoMemory)))
          (sym c.by-in-NoMemory.ensures.reported) c.write_run_fault.ensures,
    )

-- each command, by what it took from the words
pub returns-in-Help-clause-unhelped : goal.returns-in-Help-clause-unhelped
returns-in-Help-clause-unhelped g c = λ one command. inl (c.answer_help.ensures.reported one)

pub returns-in-Save-clause-unsaved : goal.returns-in-Save-clause-unsaved
returns-in-Save-clause-unsaved g c = λ one command. inl (c.in-Save.request, c.answer_save.ensures.reported one)

pub returns-in-Schema-clause-undescribed : goal.returns-in-Schema-clause-undescribed
returns-in-Schema-clause-undescribed g c = λ one command. inl (c.in-Schema.request, c.answer_schema.ensures.reported one)

pub returns-in-Add-clause-unadded : goal.returns-in-Add-clause-unadded
returns-in-Add-clause-unadded g c = λ one command. inl (c.in-Add.paths, c.answer_add.ensures.reported one)

pub returns-in-Ask-clause-unasked : goal.returns-in-Ask-clause-unasked
returns-in-Ask-clause-unasked g c = λ one command. inl (c.in-Ask.paths, c.answer_ask.ensures.reported one)

pub returns-in-Show-clause-unshown : goal.returns-in-Show-clause-unshown
returns-in-Show-clause-unshown g c = λ one command. inl (c.in-Show.path, c.answer_show.ensures.reported one)

-- a check of files, or of a saved index
pub returns-in-Check-clause-reasons : goal.returns-in-Check-clause-reasons
returns-in-Check-clause-reasons g c = λ one command. inl (c.answer_check.ensures.reasons one)

pub returns-in-CheckIndex-clause-reasons : goal.returns-in-CheckIndex-clause-reasons
returns-in-CheckIndex-clause-reasons g c = λ one command. inr (c.in-CheckIndex.path, c.answer_check_index.ensures.reported one)

pub returns-in-Check-clause-checked : goal.returns-in-Check-clause-checked
returns-in-Check-clause-checked g c = λ zero command. inl (c.answer_check.ensures.checked zero)

pub returns-in-CheckIndex-clause-checked : goal.returns-in-CheckIndex-clause-checked
returns-in-CheckIndex-clause-checked g c = λ zero command. inr (c.answer_check_index.ensures.whole zero)

-- and what it did by them
pub returns-in-Save-clause-saved : goal.returns-in-Save-clause-saved
returns-in-Save-clause-saved g c = λ zero command. (c.in-Save.request, c.answer_save.ensures.saved zero)

pub returns-in-Schema-clause-described : goal.returns-in-Schema-clause-described
returns-in-Schema-clause-described g c = λ zero command. (c.in-Schema.request, c.answer_schema.ensures.described zero)

pub returns-in-Add-clause-added : goal.returns-in-Add-clause-added
returns-in-Add-clause-added g c = λ zero command. (c.in-Add.paths, c.answer_add.ensures.added zero)

pub returns-in-Ask-clause-asked : goal.returns-in-Ask-clause-asked
returns-in-Ask-clause-asked g c = λ zero command. (c.in-Ask.paths, c.answer_ask.ensures.asked zero)
