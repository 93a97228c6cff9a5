use Rattle.std.proofs.Common.{◌≡◌, length, IfOk, ap, subst, ◌∙◌}
use Rattle.std.specs.Prelude.{◌&&◌, count_by}
use Rattle.std.specs.Simd.Lanes.{zip2}
use Rattle.bsi_digits.specs.Orders.{values_at}
use Rattle.bsi_digits.specs.Ranks.{IsSignedRankOf}
use Rattle.bsi_shift.specs.Shifted.{shifted_entries}
use Rattle.bsi_rows.specs.Shares.{share_rank}
use Rattle.bsi_aggregates.proofs.TopsPlaces.{numbered_count}
use Rattle.bsi_aggregates.proofs.quantiles.quantile_at.Goals as goal

pub returns : goal.returns
returns c =
    let selection = c.args.selection.now.bits in
    let entries = shifted_entries c.args.column.now in
    let numbers = values_at selection entries in
    let count : c.count_and-count.result ≡ length numbers =
    c.count_and-count.ensures ∙ ap (λ there. count_by (λ b. b) (zip2 ◌&&◌ selection there)) c.not_null.ensures ∙ numbered_count selection entries in
    let rank : c.rank_of.result ≡ share_rank c.args.share (length numbers) = c.rank_of.ensures ∙ ap (share_rank c.args.share) count in
    subst (λ k. IfOk c.ranked.result (IsSignedRankOf k numbers)) rank c.ranked.ensures
