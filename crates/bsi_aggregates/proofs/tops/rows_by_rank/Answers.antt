use Rattle.std.proofs.Common.{◌≡◌, ◌+◌, ◌-◌, ◌<◌, ◌≤◌, ◌++◌, ℕ, SFits, rules, to_z-of_z, length, take, ap, sym, subst, arith, ◌∙◌}
use Rattle.std.specs.Int.{w64}
use Rattle.std.specs.Prelude.{count_by}
use Rattle.std.proofs.lemmas.Result.{IfOk-weaker}
use Rattle.bsi_bits.specs.BitList.{set_positions}
use Rattle.bsi_digits.specs.Orders.{values_at}
use Rattle.bsi_digits.specs.Ranks.{IsSignedRanked, IsSignedRankOf}
use Rattle.bsi_digits.specs.declared.op.Op.TheVariants.{Eq}
use Rattle.bsi_shift.specs.Shifted.{shifted_entries}
use Rattle.bsi_aggregates.specs.Tops.{compared, op_beyond, rows_at, AreFirst, IsBoundRank}
use Rattle.bsi_digits.specs.declared.extreme.Extreme.{Extreme}
use Rattle.bsi_digits.specs.declared.extreme.Extreme.TheVariants.{Greatest, Least}
use Rattle.bsi_aggregates.proofs.TopsFirst.{all_first, bound_listed, bounds}
use Rattle.bsi_aggregates.proofs.TopsPlaces.{compared_count, numbers_count}
use Rattle.bsi_aggregates.proofs.tops.rows_by_rank.Goals as goal

-- each row is listed
pub returns-then-count-max : goal.returns-then-count-max
returns-then-count-max c =
    let selection = c.args.selection.now.bits in
    let entries = shifted_entries c.args.column.now in
    IfOk-weaker c.all_rows.result (λ listed. listed.items ≡ rows_at entries (set_positions selection)) (λ listed. AreFirst c.args.extreme c.args.most selection entries listed.items)
    (λ listed is. subst (AreFirst c.args.extreme c.args.most selection entries) (sym is) (all_first selection entries c.requires.numbers c.args.extreme c.args.most))
    c.all_rows.ensures

-- the rank is within the numbers
within : (extreme : Extreme) (count most rank : ℕ) → most < count → IsBoundRank extreme count most rank → rank < count
within Greatest count most rank more is = omega (arith, is)
within Least count most rank more is = omega (arith, more, is)

pub returns-in_default : goal.returns-in_default
returns-in_default c =
    let numbers = values_at c.args.selection.now.bits (shifted_entries c.args.column.now) in
    let past : length numbers ≤ c.bound_rank-rank.result = subst (IsSignedRankOf c.bound_rank-rank.result numbers) c.in_default.is c.in_ok-bound.ensures in
    let count = numbers_count c.args.selection.now.bits (shifted_entries c.args.column.now) c.requires.same c.requires.numbers in
    let below = within c.args.extreme c.count-count.result c.args.most c.bound_rank-rank.result (omega (arith, c.if-count-max.false)) c.bound_rank-rank.ensures in
    absurd (omega (arith, past, count, below, c.count-count.ensures))

pub returns : goal.returns
returns c =
    let selection = c.args.selection.now.bits in
    let entries = shifted_entries c.args.column.now in
    let numbers = values_at selection entries in
    let most = c.args.most in
    let t = c.in-Some.bound in
    let count = numbers_count selection entries c.requires.same c.requires.numbers in
    let ranked : IsSignedRanked c.bound_rank-rank.result numbers t = subst (IsSignedRankOf c.bound_rank-rank.result numbers) c.in-Some.is c.in_ok-bound.ensures in
    let rank = subst (λ n. IsBoundRank c.args.extreme n most c.bound_rank-rank.result) (c.count-count.ensures ∙ sym count) c.bound_rank-rank.ensures in
    let split = bounds c.args.extreme numbers most c.bound_rank-rank.result t rank ranked in
    let above = compared_count (op_beyond c.args.extreme) t selection entries in
    let few : count_by (λ b. b) (compared (op_beyond c.args.extreme) t selection entries) ≤ most = omega (arith, above, split.0) in
    let many : most < count_by (λ b. b) (compared (op_beyond c.args.extreme) t selection entries) + count_by (λ b. b) (compared Eq t selection entries) = omega (arith, above, compared_count Eq t selection entries, split.1) in
    let fits : SFits w64 t = search rules in
    let none = c.in_ok-listed.listed.items in
    let some = c.list_compared.new.listed.items in
    let first = c.in_ok-list_compared.ensures
    ∙ ap (λ n. none ++ rows_at entries (take (most - length none) (set_positions (compared c.beyond.result n selection entries)))) (to_z-of_z fits)
    ∙ ap (λ op. none ++ rows_at entries (take (most - length none) (set_positions (compared op t selection entries)))) c.beyond.ensures in
    let second = c.in_ok-list_compared-2.ensures
    ∙ ap (λ n. some ++ rows_at entries (take (most - length some) (set_positions (compared Eq n selection entries)))) (to_z-of_z fits) in
    bound_listed selection entries c.requires.numbers t c.args.extreme most none some c.list_compared-2.new.listed.items c.in_ok-listed.ensures.items first second few (omega (arith, many))
