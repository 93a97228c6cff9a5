use Rattle.std.proofs.Common.{◌≡◌, rules, option_map}
use Rattle.csv.specs.Reading.{source_of, strip_bom}
use Rattle.bsi_input.specs.Texts.{WrotePrefix}
use Rattle.bsi_input.proofs.Standing.{on_err}
use Rattle.bsi_input.proofs.Waiting.{cut_all, from_known}
use Rattle.bsi_text.proofs.script.run_script.Goals as goal

-- all that waited was written
pub returns-clause-fault : goal.returns-clause-fault
returns-clause-fault g c =
    let before = g.W.Write.contents c.args.writer.now in
    let after = g.W.Write.contents c.flush_buffer.new.writer in
    let is : source_of (λ w. g.R.Read.remaining w.inner) c.plain_reader-input.result ≡ option_map strip_bom (g.R.Read.remaining c.args.reader) = search rules in
    on_err c.serve-ended.result
    (from_known (g.R.Read.remaining c.args.reader) _ (λ bytes. WrotePrefix bytes before after) is
    (λ bytes left. c.serve-ended.ensures.prefix bytes left after (cut_all _ after _ c.in_ok-flush_buffer.ensures.ok)))
