use Rattle.std.proofs.Common.{◌≡◌, ◌-◌, length, drop, length-take, length-drop, arith, ◌∙◌}
use Rattle.bsi_segments.proofs.ChunkBytes.{length-put_mid, read_more}
use Rattle.bsi_segments.proofs.reading.fill.Goals as goal

pub bytes-preserved : goal.bytes-preserved
bytes-preserved g c =
    let at = c.bytes.at in
    let old = c.bytes.bytes in
    let read = c.read.new.buf in
    let same : length read ≡ length old - at = omega (arith, c.read.auto.buf, length-take (length old - at) (drop at old), length-drop at old) in
    let long = length-put_mid at old read c.bytes.invariant.within same in
    record {
      within = omega (arith, long, same, c.in-Ok.ensures.bound.0, c.bytes.invariant.within);
      long = long ∙ c.bytes.invariant.long;
      consumed = read_more _ _ _ old read at c.in-Ok.consumed c.bytes.invariant.within c.in-Ok.ensures.bound.0 c.bytes.invariant.consumed c.in-Ok.ensures.bytes.0;
    }
