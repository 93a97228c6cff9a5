use Rattle.std.proofs.Common.{◌≡◌, List, [], ℕ, length, inr, map, sum, nat_le, subst, arith, ap, rules}
use Rattle.std.specs.List.{list_all}
use Rattle.bsi_check.specs.Checks.{is_clean}
use Rattle.bsi_check.specs.Reasons.{AddsOneReasonUnless}
use Rattle.bsi_check.specs.Reports.{good_count, AreAdded, IsFileChecked}
use Rattle.bsi_check.proofs.Joined.{added_long, files_reported}
use Rattle.bsi_check.proofs.Telling.{tells_both, unless_reported}
use Rattle.bsi_check.proofs.row_files.report_on_rows.Goals as goal

pub check_limit-requires : goal.check_limit-requires
check_limit-requires g c =
    let long = added_long _ c.args.rows.items c.in_ok-files.files.items _ _ c.in_ok-files.ensures in
    record { few = omega (arith, long, ap length c.deref.ensures.value, c.if-len.false, c.len.ensures) }

pub write_counts-requires : goal.write_counts-requires
write_counts-requires g c =
    let long = added_long _ c.args.rows.items c.in_ok-files.files.items _ _ c.in_ok-files.ensures in
    record { few = omega (arith, long, ap length c.deref-2.ensures.value, c.if-len.false, c.len.ensures) }

-- the files were checked one after another, and then the limit
pub returns : goal.returns
returns g c =
    let files = c.in_ok-files.files.items in
    let rem = g.S.Read.remaining in
    let format = g.F.RowFormat.format c.args.format.now in
    let path = c.args.path.now in
    let one = c.check_each.new.reasons.items in
    let two = c.check_limit.new.reasons.items in
    let limit = nat_le (sum (map good_count files)) c.args.limit in
    let limited : AddsOneReasonUnless limit path one two =
    subst (λ (fs : List _). AddsOneReasonUnless (nat_le (sum (map good_count fs)) c.args.limit) path one two) c.deref.ensures.value c.in_ok-check_limit.ensures in
    let finding : AreAdded (IsFileChecked rem format) c.args.rows.items files [] one =
    subst (λ (before : List ℕ). AreAdded (IsFileChecked rem format) c.args.rows.items files before one) c.new-reasons.ensures.items c.in_ok-files.ensures in
    inr (record {
      files = files;
      of_files = one;
      files_are = finding;
      limit_is = limited;
      reported = tells_both (list_all is_clean files) limit [] one two (files_reported rem format c.args.rows.items files [] one finding)
          (unless_reported path limit one two limited);
      fed_is = search rules;
    })
