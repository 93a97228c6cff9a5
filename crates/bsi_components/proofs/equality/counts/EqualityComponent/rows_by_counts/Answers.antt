use Rattle.std.proofs.Common.{ℕ, sym, subst}
use Rattle.bsi_kernels.specs.Ranks.{IsRankedRows}
use Rattle.bsi_components.proofs.SelectedDigits.{ranked_rows}
use Rattle.bsi_components.proofs.equality.counts.EqualityComponent.rows_by_counts.Goals as goal

pub returns-clause-ranked : goal.returns-clause-ranked
returns-clause-ranked c =
    let selection = c.args.selection.bits in
    let digits = c.args.self.now.digits in
    let digit = c.rank_from_least-ranked.result in
    let rows = c.and_digit.new.rows.bits in
    let ranked = ranked_rows c.args.rank digit.digit digit.rank selection digits rows c.rank_from_least-ranked.ensures.ranked.rank_is c.rank_from_least-ranked.ensures.ranked.there c.and_digit.ensures in
    subst (λ (n : ℕ). IsRankedRows c.args.rank selection digits n digit.rank rows) (sym c.from.ensures) ranked
