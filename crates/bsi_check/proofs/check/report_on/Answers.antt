use Rattle.std.proofs.Common.{◌≡◌, List, [], ℕ, length, inr, map, sum, nat_le, subst, arith, ap, rules}
use Rattle.std.specs.List.{list_all}
use Rattle.bsi_logical.specs.TableSchemas.{format_of}
use Rattle.bsi_check.specs.Checks.{has_good_asks, is_clean}
use Rattle.bsi_check.specs.Reasons.{AddsOneReasonUnless}
use Rattle.bsi_check.specs.Reports.{good_count, AreAdded, IsFileChecked}
use Rattle.bsi_check.proofs.Joined.{added_long, files_reported}
use Rattle.bsi_check.proofs.Telling.{given_reported, tells_both, unless_reported}
use Rattle.bsi_check.proofs.check.report_on.Goals as goal

pub check_limit-requires : goal.check_limit-requires
check_limit-requires g c =
    let long = added_long _ c.args.rows.items c.in_ok-files.files.items _ _ c.in_ok-files.ensures in
    record { few = omega (arith, long, ap length c.deref.ensures.value, c.if-len.false, c.len.ensures) }

pub write_counts-requires : goal.write_counts-requires
write_counts-requires g c =
    let long = added_long _ c.args.rows.items c.in_ok-files.files.items _ _ c.in_ok-files.ensures in
    record { few = omega (arith, long, ap length c.deref-2.ensures.value, c.if-len.false, c.len.ensures) }

-- the schema is one, and the files were checked one after another
pub returns : goal.returns
returns g c =
    let files = c.in_ok-files.files.items in
    let table = c.in-Some.table in
    let asks = c.in_ok-check_given.field-0 in
    let rem = g.S.Read.remaining in
    let one = c.check_each.new.reasons.items in
    let two = c.check_limit.new.reasons.items in
    let three = c.check_given.new.reasons.items in
    let none : c.check_schema.new.reasons.items ≡ [] = search rules in
    let limit = nat_le (sum (map good_count files)) table.limit in
    let limited : AddsOneReasonUnless limit c.args.schema.path.now one two =
    subst (λ (fs : List _). AddsOneReasonUnless (nat_le (sum (map good_count fs)) table.limit) c.args.schema.path.now one two) c.deref.ensures.value c.in_ok-check_limit.ensures in
    let finding : AreAdded (IsFileChecked rem (format_of table.schema)) c.args.rows.items files [] one =
    subst (λ (before : List ℕ). AreAdded (IsFileChecked rem (format_of table.schema)) c.args.rows.items files before one) none c.in_ok-files.ensures in
    inr (record {
      table = table;
      files = files;
      asks = asks;
      of_files = one;
      of_limit = two;
      schema_is = search rules;
      files_are = finding;
      limit_is = limited;
      asks_are = c.in_ok-check_given.ensures;
      reported = tells_both (list_all is_clean files) _ [] one three (files_reported rem (format_of table.schema) c.args.rows.items files [] one finding)
          (tells_both limit (has_good_asks asks) one two three (unless_reported c.args.schema.path.now limit one two limited)
          (given_reported rem table.schema c.args.asks asks two three c.in_ok-check_given.ensures));
      fed_is = search rules;
    })
