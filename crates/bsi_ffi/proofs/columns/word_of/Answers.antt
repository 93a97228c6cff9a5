use Rattle.std.proofs.Common.{◌<◌, ◌^◌, sym, arith}
use Rattle.bsi_ffi.proofs.NotNullWords.{byte_above-bits, byte_above-clear}
use Rattle.bsi_ffi.proofs.columns.word_of.Goals as goal

pub bytes-preserved : goal.bytes-preserved
bytes-preserved c =
    let bytes = c.args.bytes.now in
    let few : c.bytes.i < 8 = omega arith in
    let is = sym c.from.ensures in
    let small : c.from.result < 2 ^ 8 = omega (arith, c.from.ensures, c.type_inv.bytes c.bytes.i) in
    record {
      clear = byte_above-clear bytes c.bytes.i c.bytes.word c.from.result few is small c.bytes.invariant.clear c.bytes.invariant.bits;
      bits = byte_above-bits bytes c.bytes.i c.bytes.word c.from.result few is small c.bytes.invariant.clear c.bytes.invariant.bits;
    }
