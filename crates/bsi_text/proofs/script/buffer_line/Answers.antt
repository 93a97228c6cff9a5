use Rattle.std.proofs.Common.{◌≡◌, rules, subst}
use Rattle.std.specs.Io.KnownBytes.{Appends}
use Rattle.csv.proofs.WriteFacts.{appends-more}
use Rattle.bsi_input.specs.BufferedOutput.{AppendsPrefix}
use Rattle.bsi_input.proofs.Standing.{on_err}
use Rattle.bsi_input.proofs.Waiting.{cut_front, cut_whole, on_fault, on_ok, put_all}
use Rattle.bsi_text.proofs.script.buffer_line.Goals.{else-not-many-via-else-not-many, else-not-many-via-then-not-many+else-is_ok}
use Rattle.bsi_text.proofs.script.buffer_line.Goals as goal

-- a first part of what waited was written
pub returns-in_err-flush_buffer-clause-prefix : goal.returns-in_err-flush_buffer-clause-prefix
returns-in_err-flush_buffer-clause-prefix g c =
    let same : c.else-not-many.buffer.items ≡ c.args.buffer.now.items = elim c.else-not-many.branch [
      | else-not-many-via-then-not-many+else-is_ok w ↦ search rules
      | else-not-many-via-else-not-many w ↦ search rules
    ] in
    let part : AppendsPrefix (g.W.Write.contents c.args.writer.now) (g.W.Write.contents c.flush_buffer.new.writer) c.args.buffer.now.items =
    subst (λ text. AppendsPrefix (g.W.Write.contents c.args.writer.now) (g.W.Write.contents c.flush_buffer.new.writer) text) same c.in_err-flush_buffer.ensures.prefix in
    on_err c.from_residual.result (cut_front _ _ c.args.buffer.now.items c.args.line.now part)

-- what waited was written, and the line after it
pub returns-clause-ok : goal.returns-clause-ok
returns-clause-ok g c =
    let same : c.else-not-many.buffer.items ≡ c.args.buffer.now.items = elim c.else-not-many.branch [
      | else-not-many-via-then-not-many+else-is_ok w ↦ search rules
      | else-not-many-via-else-not-many w ↦ search rules
    ] in
    let first : Appends (g.W.Write.contents c.args.writer.now) (g.W.Write.contents c.flush_buffer.new.writer) c.args.buffer.now.items =
    subst (λ text. Appends (g.W.Write.contents c.args.writer.now) (g.W.Write.contents c.flush_buffer.new.writer) text) same c.in_ok-flush_buffer.ensures.ok in
    on_ok c.write_bytes.result
    (λ last. put_all _ _ _ _ (appends-more _ _ _ c.args.buffer.now.items c.args.line.now first last) c.flush_buffer.ensures.none)
    c.write_bytes.ensures.ok

-- what waited was written, and a first part of the line
pub returns-clause-prefix : goal.returns-clause-prefix
returns-clause-prefix g c =
    let same : c.else-not-many.buffer.items ≡ c.args.buffer.now.items = elim c.else-not-many.branch [
      | else-not-many-via-then-not-many+else-is_ok w ↦ search rules
      | else-not-many-via-else-not-many w ↦ search rules
    ] in
    let first : Appends (g.W.Write.contents c.args.writer.now) (g.W.Write.contents c.flush_buffer.new.writer) c.args.buffer.now.items =
    subst (λ text. Appends (g.W.Write.contents c.args.writer.now) (g.W.Write.contents c.flush_buffer.new.writer) text) same c.in_ok-flush_buffer.ensures.ok in
    on_fault c.write_bytes.result (λ last. cut_whole _ _ _ c.args.buffer.now.items c.args.line.now first last) c.write_bytes.ensures.prefix
