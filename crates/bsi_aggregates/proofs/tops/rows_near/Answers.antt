use Rattle.std.proofs.Common.{◌≡◌, ◌+◌, ◌-◌, ◌≤◌, ◌++◌, rules, length, take, ap, subst, arith, ◌∙◌}
use Rattle.std.specs.Prelude.{count_by}
use Rattle.std.proofs.lemmas.Result.{IfOk-weaker}
use Rattle.bsi_bits.specs.BitList.{set_positions}
use Rattle.bsi_digits.specs.declared.op.Op.TheVariants.{Eq}
use Rattle.bsi_shift.specs.Shifted.{shifted_entries}
use Rattle.bsi_aggregates.specs.Tops.{compared, op_beyond, rows_at, AreFirst}
use Rattle.bsi_aggregates.proofs.TopsFirst.{bound_listed, narrowed}
use Rattle.bsi_aggregates.proofs.tops.rows_near.Goals as goal

-- only the rows beyond the bound are looked at
pub returns-then-count-most : goal.returns-then-count-most
returns-then-count-most c =
    let selection = c.args.selection.now.bits in
    let entries = shifted_entries c.args.column.now in
    let most = c.args.most in
    let made : c.in_ok-first.first.bits ≡ compared c.beyond.result c.args.bound selection entries = search rules in
    let is = made ∙ ap (λ op. compared op c.args.bound selection entries) c.beyond.ensures in
    let many : most ≤ count_by (λ b. b) c.in_ok-first.first.bits = omega (arith, c.count-count.ensures, c.if-count-most.true) in
    IfOk-weaker c.rows_by_rank.result (λ listed. AreFirst c.args.extreme most c.in_ok-first.first.bits entries listed.items)
    (λ listed. AreFirst c.args.extreme most selection entries listed.items)
    (λ listed are. narrowed selection entries c.requires.numbers c.args.bound c.args.extreme most listed.items
    (subst (λ bits. AreFirst c.args.extreme most bits entries listed.items) is are) (are.enough many)) c.rows_by_rank.ensures

pub returns : goal.returns
returns c =
    let selection = c.args.selection.now.bits in
    let entries = shifted_entries c.args.column.now in
    let most = c.args.most in
    let t = c.args.bound in
    let made : c.in_ok-first.first.bits ≡ compared c.beyond.result t selection entries = search rules in
    let is = made ∙ ap (λ op. compared op t selection entries) c.beyond.ensures in
    let ties : c.in_ok-ties.ties.bits ≡ compared Eq t selection entries = search rules in
    let none = c.in_ok-listed.listed.items in
    let some = c.list_rows.new.listed.items in
    let few : count_by (λ b. b) (compared (op_beyond c.args.extreme) t selection entries) ≤ most =
    omega (arith, ap (count_by (λ b. b)) is, c.count-count.ensures, c.if-count-most.false) in
    let many : most ≤ count_by (λ b. b) (compared (op_beyond c.args.extreme) t selection entries) + count_by (λ b. b) (compared Eq t selection entries) =
    omega (arith, ap (count_by (λ b. b)) is, ap (count_by (λ b. b)) ties, c.count-count.ensures, c.count-tied.ensures, c.if-tied-missing.false) in
    bound_listed selection entries c.requires.numbers t c.args.extreme most none some c.list_rows-2.new.listed.items c.in_ok-listed.ensures.items
    (c.in_ok-list_rows.ensures ∙ ap (λ bits. none ++ rows_at entries (take (most - length none) (set_positions bits))) is)
    (c.in_ok-list_rows-2.ensures ∙ ap (λ bits. some ++ rows_at entries (take (most - length some) (set_positions bits))) ties) few many
