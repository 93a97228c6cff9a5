use Rattle.std.proofs.Common.{◌≡◌, ◌<◌, length, slice_index_or, subst, arith, rules}
use Rattle.std.specs.Prelude.{IfErr}
use Rattle.std.specs.Io.KnownBytes.{Appends}
use Rattle.bsi_syntax.specs.Lines.{fed_line}
use Rattle.bsi_input.specs.BufferedOutput.{AppendsPrefix}
use Rattle.bsi_answers.specs.declared.faults.FilesFault.TheVariants.{NoMemory, Write}
use Rattle.bsi_answers.specs.declared.fed.Fed.{Fed}
use Rattle.bsi_answers.proofs.Passing.{if_err}
use Rattle.bsi_answers.proofs.Telling.{any_default, line_is, no_fed, told_cut, told_more, told_part}
use Rattle.bsi_answers.proofs.feds.write_fed_lines.Goals as goal

-- the lines so far were written
pub returns-in_err-make_fed_line-clause-prefix : goal.returns-in_err-make_fed_line-clause-prefix
returns-in_err-make_fed_line-clause-prefix g c =
    let refused : IfErr c.from_residual.result (λ fault. fault ≡ NoMemory) = search rules in
    if_err c.from_residual.result
    (told_part c.args.fed.now c.feeders.feeder (g.W.Write.contents c.args.writer.now) (g.W.Write.contents c.feeders.writer) (g.W.Write.contents c.feeders.writer) c.feeders.invariant) refused

-- and a first part of the next one
pub returns-in_err-write_bytes-clause-prefix : goal.returns-in_err-write_bytes-clause-prefix
returns-in_err-write_bytes-clause-prefix g c =
    let feds = c.args.fed.now in
    let k = c.feeders.feeder in
    let fed : Fed = slice_index_or feds k no_fed in
    let now = g.W.Write.contents c.feeders.writer in
    let after = g.W.Write.contents c.write_bytes.new.writer in
    let line = c.make_fed_line.new.line.items in
    let lt : k < length feds = omega arith in
    let is : line ≡ fed_line k fed.accepted fed.bad =
    line_is line c.file_number.result k fed c.in_ok-make_fed_line.ensures (c.file_number.ensures (omega (arith, c.requires, lt))) in
    let cut : AppendsPrefix now after line = subst (λ bytes. AppendsPrefix now after bytes) c.as_slice.ensures.value c.in_err-write_bytes.ensures.prefix in
    let failed : IfErr c.from_residual-in_err-write_bytes.result (λ fault. fault ≡ Write) = search rules in
    if_err c.from_residual-in_err-write_bytes.result
    (told_cut feds k (g.W.Write.contents c.args.writer.now) now after c.feeders.invariant fed line lt (any_default feds k no_fed fed lt) is cut) failed

-- and the next one
pub feeders-preserved : goal.feeders-preserved
feeders-preserved g c =
    let feds = c.args.fed.now in
    let k = c.feeders.feeder in
    let fed : Fed = slice_index_or feds k no_fed in
    let now = g.W.Write.contents c.feeders.writer in
    let after = g.W.Write.contents c.write_bytes.new.writer in
    let line = c.make_fed_line.new.line.items in
    let lt : k < length feds = omega arith in
    let is : line ≡ fed_line k fed.accepted fed.bad =
    line_is line c.file_number.result k fed c.in_ok-make_fed_line.ensures (c.file_number.ensures (omega (arith, c.requires, lt))) in
    let written : Appends now after line = subst (λ bytes. Appends now after bytes) c.as_slice.ensures.value c.in_ok-write_bytes.ensures.ok in
    told_more feds k (g.W.Write.contents c.args.writer.now) now after c.feeders.invariant fed line lt (any_default feds k no_fed fed lt) is written
