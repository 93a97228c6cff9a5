use Rattle.std.proofs.Common.{arith}
use Rattle.std.proofs.lemmas.Result.{err_from_is_err_and}
use Rattle.bsi_input.specs.BufferedOutput.{AppendsPrefix}
use Rattle.bsi_segments.specs.Segments.{bytes_of}
use Rattle.bsi_segments.proofs.ChunkBytes.{words_cut, words_written}
use Rattle.bsi_segments.proofs.writing.write_words.Goals as goal

pub returns-in_err-write_bytes-clause-prefix : goal.returns-in_err-write_bytes-clause-prefix
returns-in_err-write_bytes-clause-prefix g c =
    let p = err_from_is_err_and c.from_residual.result c.from_residual.ensures.1 in
    let cut : AppendsPrefix (g.W.Write.contents c.args.writer.now) (g.W.Write.contents c.write_bytes.new.writer) (bytes_of c.args.words.now) =
    words_cut _ _ _ c.args.words.now c.encode_words.new.bytes c.chunks.at c.min-end.result c.encode_words.ensures c.chunks.invariant.written c.in_err-write_bytes.ensures.prefix in
    rw p.1 cut

pub chunks-preserved : goal.chunks-preserved
chunks-preserved g c = record {
  within = omega (arith, c.min-end.ensures, c.chunks-test.true);
  written = words_written _ _ _ c.args.words.now c.encode_words.new.bytes c.chunks.at c.min-end.result (omega (arith, c.min-end.ensures, c.chunks-test.true)) c.encode_words.ensures c.chunks.invariant.written c.in_ok-write_bytes.ensures.ok;
}
