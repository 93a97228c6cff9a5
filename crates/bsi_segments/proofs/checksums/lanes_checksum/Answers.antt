use Rattle.std.proofs.Common.{◌+◌, ◌*◌, drop, ap, ◌∙◌, arith}
use Rattle.bsi_segments.specs.Lanes.{lanes_from}
use Rattle.bsi_segments.specs.Segments.{checksum_step}
use Rattle.bsi_segments.proofs.Lanes.{lanes_end, lanes_four, lanes_next}
use Rattle.bsi_segments.proofs.checksums.lanes_checksum.Goals as goal

pub fours-preserved : goal.fours-preserved
fours-preserved c =
    (λ j. lanes_from (c.step-a.ensures j) (c.step-b.ensures j) (c.step-c.ensures j) (c.step-d.ensures j) (drop (4 * (c.fours.i + 1)) c.args.words.now))
    ∙ lanes_four c.fours.a c.fours.b c.fours.c c.fours.d c.fours.i c.args.words.now (omega (arith, c.fours-test.true))
    ∙ c.fours.invariant

pub rest-preserved : goal.rest-preserved
rest-preserved c =
    ap (λ s. lanes_from c.rest.b c.rest.c c.rest.d s (drop (c.rest.k + 1) c.args.words.now)) c.step-last.ensures
    ∙ lanes_next c.rest.a c.rest.b c.rest.c c.rest.d c.rest.k c.args.words.now c.rest-test.true
    ∙ c.rest.invariant

pub returns : goal.returns
returns c =
    c.step-3.ensures ∙ ap (λ s. checksum_step s c.rest.d) (c.step-2.ensures ∙ ap (λ s. checksum_step s c.rest.c) c.step.ensures)
    ∙ lanes_end c.rest.a c.rest.b c.rest.c c.rest.d c.rest.k c.args.words.now c.rest-test.false
    ∙ c.rest.invariant
