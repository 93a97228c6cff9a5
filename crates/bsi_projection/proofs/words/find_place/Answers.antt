use Rattle.std.proofs.Common.{sym, arith}
use Rattle.bsi_projection.proofs.Places.{place-found, place-none}
use Rattle.bsi_projection.proofs.words.find_place.Goals as goal

pub returns-then-chosen-place : goal.returns-then-chosen-place
returns-then-chosen-place c =
    sym (place-found c.args.chosen.now c.args.c c.columns.place (omega (arith, c.columns-test.true)) c.columns.invariant c.if-chosen-place.true)

pub returns : goal.returns
returns c =
    sym (place-none c.args.chosen.now c.args.c (λ k below. c.columns.invariant k (omega (arith, below, c.columns-test.false))))
