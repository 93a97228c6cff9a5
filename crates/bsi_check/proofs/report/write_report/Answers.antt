use Rattle.std.proofs.Common.{List, ℕ, subst, rules}
use Rattle.std.specs.Io.KnownBytes.{Appends}
use Rattle.csv.proofs.WriteFacts.{appends-more}
use Rattle.bsi_input.proofs.Waiting.{cut_front, cut_whole}
use Rattle.bsi_input.specs.BufferedOutput.{AppendsPrefix}
use Rattle.bsi_check.proofs.report.write_report.Goals as goal

-- the reasons were written, and then the lines
pub returns-clause-written : goal.returns-clause-written
returns-clause-written g c =
    let before = g.W.Write.contents c.args.output.now in
    let middle = g.W.Write.contents c.write_bytes.new.writer in
    let after = g.W.Write.contents c.write_bytes-2.new.writer in
    let report = c.args.report.now in
    let first : Appends before middle report.reasons.items = subst (λ (bytes : List ℕ). Appends before middle bytes) c.deref.ensures.value c.in_ok-write_bytes.ensures.ok in
    let last : Appends middle after report.fed.items = subst (λ (bytes : List ℕ). Appends middle after bytes) c.deref-2.ensures.value c.in_ok-write_bytes-2.ensures.ok in
    record {
      good_is = search rules;
      written = appends-more before middle after report.reasons.items report.fed.items first last;
    }

-- a first part of the reasons was written
pub returns-in_err-write_bytes-clause-prefix : goal.returns-in_err-write_bytes-clause-prefix
returns-in_err-write_bytes-clause-prefix g c = λ is.
    let before = g.W.Write.contents c.args.output.now in
    let after = g.W.Write.contents c.write_bytes.new.writer in
    let report = c.args.report.now in
    let cut : AppendsPrefix before after report.reasons.items = subst (λ (bytes : List ℕ). AppendsPrefix before after bytes) c.deref.ensures.value c.in_err-write_bytes.ensures.prefix in
    cut_front before after report.reasons.items report.fed.items cut

-- they were, and a first part of the lines
pub returns-in_err-write_bytes-2-clause-prefix : goal.returns-in_err-write_bytes-2-clause-prefix
returns-in_err-write_bytes-2-clause-prefix g c = λ is.
    let before = g.W.Write.contents c.args.output.now in
    let middle = g.W.Write.contents c.write_bytes.new.writer in
    let after = g.W.Write.contents c.write_bytes-2.new.writer in
    let report = c.args.report.now in
    let first : Appends before middle report.reasons.items = subst (λ (bytes : List ℕ). Appends before middle bytes) c.deref.ensures.value c.in_ok-write_bytes.ensures.ok in
    let last : AppendsPrefix middle after report.fed.items = subst (λ (bytes : List ℕ). AppendsPrefix middle after bytes) c.deref-2.ensures.value c.in_err-write_bytes-2.ensures.prefix in
    cut_whole before middle after report.reasons.items report.fed.items first last
