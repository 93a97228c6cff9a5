use Rattle.std.proofs.Common.{◌≡◌, ◌+◌, ◌*◌, ◌/◌, ◌-◌, ◌<◌, All, ℕ, get_or, length, drop, take, sym, ap, ap₂, subst, arith, false, cond, ◌∙◌}
use Rattle.std.specs.Prelude.{count_by, nat_eq, nat_le}
use Rattle.std.proofs.lemmas.Bool.Decides.{nat_tests}
use Rattle.std.proofs.lemmas.List.{get_or_read}
use Rattle.std.proofs.lemmas.List.Elements.{All-get_or}
use Rattle.bsi_rows.specs.Numbering.{count_before}
use Rattle.bsi_origins.proofs.Numbers.{count_before-on, counted_alone}
use Rattle.bsi_origins.specs.Origins.{tally_count, tally_len}
use Rattle.bsi_origins.proofs.Tallying.{tally_within}
use Rattle.bsi_origins.proofs.origins.Origins.number.Goals as goal

-- all rows are of the one feeder
pub returns-then-self-eq1 : goal.returns-then-self-eq1
returns-then-self-eq1 c =
    let i = c.self.inside in
    let rows = c.args.self.now.rows in
    let r = c.args.r in
    let view = ap (λ o. o.rows) c.self.view_is in
    let rows_is : i.row_feeders.items ≡ rows = cc view in
    let alone : i.feeders ≡ 1 = omega arith in
    let from : All (λ feeder. feeder < 1) rows = subst (λ n. All (λ feeder. feeder < n) rows) alone (subst (All (λ feeder. feeder < i.feeders)) rows_is c.self.invariant.0.from) in
    let first : get_or rows r 0 < 1 = All-get_or (λ feeder. feeder < 1) rows r 0 c.requires from in
    let is : get_or rows r 0 ≡ 0 = omega arith in
    sym (ap (count_before rows r) is ∙ counted_alone rows r (omega (arith, c.requires)) from)

-- those before the chunk are in its tally, and those behind them are counted
pub returns : goal.returns
returns c =
    let i = c.self.inside in
    let rows = c.args.self.now.rows in
    let r = c.args.r in
    let k : ℕ = r / 512 in
    let is = c.self.invariant.0 in
    let feeder = c.index-feeder.result.now in
    let rows_are : i.row_feeders.items ≡ rows = cc (ap (λ o. o.rows) c.self.view_is) in
    let within : r < length i.row_feeders.items = omega (arith, c.requires, ap length rows_are) in
    let whose : feeder ≡ get_or i.row_feeders.items r 0 = get_or_read i.row_feeders.items r feeder within c.index-feeder.ensures 0 in
    let below : feeder < i.feeders = subst (λ f. f < i.feeders) (sym whose) (All-get_or (λ f. f < i.feeders) i.row_feeders.items r 0 within is.from) in
    let several : tally_len i.feeders ≡ i.feeders = several_tallied i.feeders (omega (arith, is.some, c.if-self-eq1.false)) in
    let begun : 512 * k < length i.row_feeders.items = omega (arith, within) in
    let there : i.feeders * k + feeder < length i.tallies.items =
    omega (arith, is.many, ap (λ len. len * tally_count (length i.row_feeders.items)) several, tally_within i.feeders k feeder (tally_count (length i.row_feeders.items)) (omega (arith, begun)) below) in
    let tally : get_or i.tallies.items (i.feeders * k + feeder) 0 ≡ count_before i.row_feeders.items (512 * k) feeder =
    ap (λ len. get_or i.tallies.items (len * k + feeder) 0) (sym several) ∙ is.each k feeder begun (omega (arith, below, several)) in
    let before : c.from.result ≡ count_before i.row_feeders.items (512 * k) feeder =
    c.from.ensures ∙ get_or_read i.tallies.items (i.feeders * k + feeder) c.index-tally.result.now there c.index-tally.ensures 0 ∙ tally in
    let start : 512 * k ≡ k * 512 = omega arith in
    let counted : c.count_rows_of.result ≡ count_by (λ f. nat_eq f feeder) (take (r - 512 * k) (drop (512 * k) i.row_feeders.items)) =
    c.count_rows_of.ensures.count ∙ ap₂ (λ n xs. count_by (λ f. nat_eq f feeder) (take (r - n) (drop n xs))) (sym start) c.deref.ensures.value in
    ap₂ ◌+◌ before counted
    ∙ count_before-on i.row_feeders.items (512 * k) r feeder (omega arith) (omega (arith, within))
    ∙ ap (count_before i.row_feeders.items r) whose
    ∙ ap (λ xs. count_before xs r (get_or xs r 0)) rows_are
  where
    several_tallied : (feeders : ℕ) → 1 < feeders → tally_len feeders ≡ feeders
    several_tallied feeders several = let test : nat_le feeders 1 ≡ false = grind (arith, nat_tests) in ap (λ b. cond b 0 feeders) test
