use Rattle.std.proofs.Common.{◌≡◌, ◌+◌, ◌<◌, ◌≤◌, get_or, set, length-set, sym, subst, arith, ◌∙◌}
use Rattle.bsi_rows.specs.Numbering.{count_before}
use Rattle.bsi_origins.specs.Origins.{AreCountsBefore}
use Rattle.bsi_origins.proofs.Numbers.{count_before-le, counted_more}
use Rattle.bsi_origins.proofs.numbering.count_rows.Goals as goal

pub rows-init : goal.rows-init
rows-init c = record { long = c.told-counts; counted = c.requires.counted }

-- a count is at most the rows before
pub overflow_add-counts : goal.overflow_add-counts
overflow_add-counts c =
    let rows = c.args.origins.now.rows in
    let is : get_or c.rows.counts c.feeder.result 0 ≡ count_before rows c.rows.r c.feeder.result = c.rows.invariant.counted c.feeder.result c.feeder.ensures.within in
    let few : count_before rows c.rows.r c.feeder.result ≤ c.rows.r = count_before-le rows c.rows.r c.feeder.result (omega arith) in
    omega (arith, is, few)

pub rows-preserved : goal.rows-preserved
rows-preserved c =
    let rows = c.args.origins.now.rows in
    let counts = c.rows.counts in
    let feeder = c.feeder.result in
    let there = c.feeder.ensures.feeder in
    record {
      long = length-set counts feeder (get_or counts feeder 0 + 1) ∙ c.rows.invariant.long;
      counted = subst (λ f. AreCountsBefore c.args.origins.now.feeders rows (c.rows.r + 1) (set counts f (get_or counts f 0 + 1))) (sym there)
          (counted_more c.args.origins.now.feeders counts rows c.rows.r (omega (arith, c.rows.invariant.long, c.feeder.ensures.few)) (omega arith)
          (subst (λ f. f < c.args.origins.now.feeders) there c.feeder.ensures.within) c.rows.invariant.counted);
    }

pub returns : goal.returns
returns c =
    let end : c.rows.r ≡ c.args.to = omega arith in
    subst (λ r. AreCountsBefore c.args.origins.now.feeders c.args.origins.now.rows r c.rows.counts) end c.rows.invariant.counted
