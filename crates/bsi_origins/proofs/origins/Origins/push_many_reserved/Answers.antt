use Rattle.std.proofs.Common.{◌≡◌, ◌+◌, ◌-◌, ◌++◌, replicate, append_assoc, ap, sym, arith, ◌∙◌}
use Rattle.std.proofs.lemmas.List.{replicate-append-replicate}
use Rattle.bsi_origins.proofs.origins.Origins.push_many_reserved.Goals as goal

pub returns-then-rows-eq1-clause-rows : goal.returns-then-rows-eq1-clause-rows
returns-then-rows-eq1-clause-rows c = c.push_reserved.ensures.rows ∙ ap (λ n. c.args.self.now.rows ++ replicate n c.args.feeder) (sym c.if-rows-eq1.true)

pub chunks-preserved : goal.chunks-preserved
chunks-preserved c =
    let feeder = c.args.feeder in
    let done = c.args.rows - c.chunks.left in
    let run = c.min-run.result in
    let sum : done + run ≡ c.args.rows - (c.chunks.left - run) = omega (arith, c.chunks.invariant.within, c.min-run.ensures) in
    record {
      within = omega (arith, c.chunks.invariant.within);
      rows = c.push_run.ensures.rows ∙ ap (λ xs. xs ++ replicate run feeder) c.chunks.invariant.rows
          ∙ append_assoc c.args.self.now.rows (replicate done feeder) (replicate run feeder)
          ∙ ap (λ xs. c.args.self.now.rows ++ xs) (replicate-append-replicate done run feeder ∙ ap (λ n. replicate n feeder) sum);
      feeders = c.push_run.ensures.feeders ∙ c.chunks.invariant.feeders;
      room = omega (arith, c.push_run.ensures.room, c.chunks.invariant.room, sum);
    }
