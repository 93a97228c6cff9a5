use Rattle.std.proofs.Common.{◌*◌, ◌<◌, length-take, arith}
use Rattle.bsi_segments.proofs.ChunkBytes.{ends_within}
use Rattle.bsi_segments.proofs.reading.read_words.Goals as goal

pub returns-then-consumed-chunk-clause-fault : goal.returns-then-consumed-chunk-clause-fault
returns-then-consumed-chunk-clause-fault g c =
    let few : c.in-Ok.consumed < 8 * c.chunks.left = omega (arith, c.if-consumed-chunk.true, c.min-chunk.ensures) in
    ends_within _ _ _ c.args.count c.chunks.left c.in-Ok.consumed _ _ c.fill.new.bytes c.chunks.invariant.within few c.chunks.invariant.consumed c.in-Ok.ensures.read (c.in-Ok.ensures.ended (omega (arith, c.in-Ok.ensures.long, length-take (8 * c.min-chunk.result) c.chunks.bytes, c.min-chunk.array_long, c.min-chunk.ensures, c.if-consumed-chunk.true)))
