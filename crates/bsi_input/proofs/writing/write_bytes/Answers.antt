use Rattle.std.proofs.Common.{arith}
use Rattle.bsi_input.proofs.Writes.{written_more}
use Rattle.bsi_input.proofs.writing.write_bytes.Goals as goal

pub bytes-preserved : goal.bytes-preserved
bytes-preserved g c = record {
  within = omega (arith, c.in-Ok.ensures.bound);
  written = written_more _ _ _ c.args.bytes.now c.bytes.at c.in-Ok.written c.bytes.invariant.written c.in-Ok.ensures.bytes;
}
