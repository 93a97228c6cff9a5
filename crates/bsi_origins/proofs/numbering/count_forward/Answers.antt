use Rattle.std.proofs.Common.{◌≡◌, ◌<◌, All, get_or, set, get_or-set_same, sym, ap, subst, arith, ◌∙◌}
use Rattle.bsi_rows.specs.Numbering.{count_before}
use Rattle.bsi_origins.proofs.Numbers.{counted_alone}
use Rattle.bsi_origins.proofs.numbering.count_forward.Goals as goal

-- all rows are of the one feeder
pub returns-then-feeders-eq1 : goal.returns-then-feeders-eq1
returns-then-feeders-eq1 c = λ f below.
    let rows = c.args.origins.now.rows in
    let alone : c.args.origins.now.feeders ≡ 1 = omega arith in
    let first : f ≡ 0 = omega arith in
    let from : All (λ feeder. feeder < 1) rows = subst (λ feeders. All (λ feeder. feeder < feeders) rows) alone c.feeders.ensures.from in
    ap (λ k. get_or (set c.args.counts.now 0 c.args.to) k 0) first
    ∙ get_or-set_same c.args.counts.now 0 c.args.to 0 (omega arith)
    ∙ sym (counted_alone rows c.args.to (omega arith) from)
    ∙ ap (count_before rows c.args.to) (sym first)
