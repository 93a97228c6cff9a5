use Rattle.bsi_syntax.specs.Reading.{texts}
use Rattle.bsi_ffi.proofs.CopiedLines.{copied_line}
use Rattle.bsi_ffi.proofs.record_line.reply_line.Goals as goal

pub returns-clause-replied : goal.returns-clause-replied
returns-clause-replied c =
    copied_line c.args.opened.now (texts c.args.fields.now) c.copy_out.result c.new-text.result.items c.write_line.new.line.items c.deref.result.now
    c.copy_out.new.out c.copy_out.new.size c.new-text.ensures.items c.in_ok-write_line.ensures c.deref.ensures.value c.copy_out.ensures.size
    c.copy_out.ensures.copied c.copy_out.ensures.within c.copy_out.ensures.short c.copy_out.ensures.refused
