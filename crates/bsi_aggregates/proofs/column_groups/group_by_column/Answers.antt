use Rattle.std.proofs.Common.{◌≡◌, ◌+◌, ◌-◌, ℕ, Bool, List, [], ◌∷◌, ◌++◌, length, map, ap, sym, subst, ◌∙◌, arith, length-append}
use Rattle.std.specs.Prelude.{◌&&◌}
use Rattle.bsi_rows.specs.Rows.{SourcedRow}
use Rattle.std.specs.List.{items_where_true}
use Rattle.std.proofs.lemmas.List.{length-map}
use Rattle.std.specs.Simd.Lanes.{zip2}
use Rattle.std.proofs.lemmas.Simd.{length-zip2}
use Rattle.bsi_bits.specs.BitList.{without}
use Rattle.bsi_shift.specs.Shifted.{shifted_entries}
use Rattle.bsi_aggregates.specs.Entries.{is_entry, IsFirst, IsFirstOf}
use Rattle.bsi_aggregates.specs.ColumnGroups.{selected_entries, AreColumnGroups, AreMoreEntries, IsRefusedColumn}
use Rattle.bsi_aggregates.specs.declared.column_groups.ColumnGroup.{ColumnGroup}
use Rattle.bsi_aggregates.specs.declared.grouping.GroupError.{GroupError}
use Rattle.bsi_aggregates.specs.declared.grouping.GroupError.TheVariants.{BadColumn, TooMany, NoMemory}
use Rattle.bsi_aggregates.proofs.Grouped.{all_made, more, none_made, one_made, AreMade}
use Rattle.bsi_aggregates.proofs.GroupsJoined.{joined, more_on, passed_on}
use Rattle.bsi_aggregates.proofs.column_groups.group_by_column.Goals as goal

-- what is left has too many further groups, or memory was refused
refused_on : (selection rest : List Bool) (by : ℕ) (rows : List SourcedRow) (few most : ℕ) → (AreMoreEntries few (selected_entries rest by rows) → AreMoreEntries most (selected_entries selection by rows))
    → (why : GroupError) → IsRefusedColumn rest by rows few why → IsRefusedColumn selection by rows most why
refused_on selection rest by rows few most then_so (BadColumn c) never = never
refused_on selection rest by rows few most then_so TooMany many = then_so many
refused_on selection rest by rows few most then_so NoMemory told = tt

pub groups-init : goal.groups-init
groups-init c =
    let rows = c.args.index.now.rows in
    let selection = c.args.selection.bits in record {
      made = subst (λ groups. AreMade c.args.total selection c.args.by rows groups selection) (sym c.new-groups.ensures.items)
          (none_made c.args.total selection c.args.by rows (length-map rows _ ∙ sym c.requires.same));
      count = ap length c.new-groups.ensures.items;
      same = c.requires.same;
    }

pub returns-in_default-clause-groups : goal.returns-in_default-clause-groups
returns-in_default-clause-groups c =
    let rest = c.groups.rest.bits in
    let none = subst (IsFirstOf (items_where_true rest (shifted_entries c.column-column.result.now))) c.in_default.is c.in_ok-entry.ensures in
    all_made c.args.total c.args.selection.bits c.args.by c.args.index.now.rows c.groups.groups.items rest c.groups.invariant.made
    (subst (λ entries. items_where_true rest entries ≡ []) c.column-column.ensures.entries none)

pub total-requires-clause-bits : goal.total-requires-clause-bits
total-requires-clause-bits c =
    let entries = shifted_entries c.column-column.result.now in
    let long : length entries ≡ length c.args.index.now.rows = ap length c.column-column.ensures.entries ∙ length-map c.args.index.now.rows _ in
    ap length c.in_ok-rows.ensures.split_off
    ∙ length-zip2 ◌&&◌ (map (is_entry c.in-Some.entry) entries) c.groups.rest.bits (length-map entries _ ∙ long ∙ sym c.groups.invariant.same)
    ∙ length-map entries _ ∙ long

pub groups-preserved : goal.groups-preserved
groups-preserved c =
    let rows = c.args.index.now.rows in
    let rest = c.groups.rest.bits in
    let entries = shifted_entries c.column-column.result.now in
    let long : length entries ≡ length rows = ap length c.column-column.ensures.entries ∙ length-map rows _ in
    let first =
    subst (λ entries. IsFirst (items_where_true rest entries) c.in-Some.entry) c.column-column.ensures.entries
    (subst (IsFirstOf (items_where_true rest entries)) c.in-Some.is c.in_ok-entry.ensures) in
    let split_off = c.in_ok-rows.ensures.split_off in
    let taken_long = ap length split_off ∙ length-zip2 ◌&&◌ (map (is_entry c.in-Some.entry) entries) rest (length-map entries _ ∙ long ∙ sym c.groups.invariant.same) ∙ length-map entries _ ∙ long in
    let group : ColumnGroup = record { entry = c.in-Some.entry; answer = c.in_ok-answer.answer } in
    let pushed = c.push_reserved.ensures.items ∙ ap (λ groups. groups ++ group ∷ []) c.reserve.ensures.items in record {
      made = subst (λ groups. AreMade c.args.total c.args.selection.bits c.args.by rows groups c.split_off_rows.new.selection.bits) (sym pushed)
          (one_made c.args.total c.args.selection.bits c.args.by rows c.groups.groups.items rest c.groups.invariant.made c.in-Some.entry first c.in_ok-answer.answer
          c.in_ok-rows.rows.bits c.split_off_rows.new.selection.bits
          (split_off ∙ ap (λ entries. zip2 ◌&&◌ (map (is_entry c.in-Some.entry) entries) rest) c.column-column.ensures.entries)
          c.in_ok-rows.ensures.without_them c.in_ok-answer.ensures.answer);
      count = ap length pushed ∙ length-append c.groups.groups.items (group ∷ []) ∙ ap (λ n. n + 1) c.groups.invariant.count;
      same = ap length c.in_ok-rows.ensures.without_them ∙ length-zip2 without rest c.in_ok-rows.rows.bits (c.groups.invariant.same ∙ sym taken_long) ∙ c.groups.invariant.same;
    }

pub returns-then-branch-clause-refused : goal.returns-then-branch-clause-refused
returns-then-branch-clause-refused c =
    let rows = c.args.index.now.rows in
    let groups = c.groups.groups.items in
    let rest = c.groups.rest.bits in
    let left = c.args.most - c.groups.split_off in
    let all : length groups + left ≡ c.args.most = omega (arith, c.groups.invariant.count, c.groups-test.true, c.split_off_count-first.ensures.few) in
    let more = subst (λ entries. AreMoreEntries left (items_where_true rest entries)) c.column-column.ensures.entries (c.in_ok-has_more_numbers.ensures.more c.if-branch.true) in
    subst (λ most. AreMoreEntries most (selected_entries c.args.selection.bits c.args.by rows)) all
    (more_on c.args.total c.args.selection.bits c.args.by rows groups rest c.groups.invariant.made left more)

pub returns-in_default-2-clause-groups : goal.returns-in_default-2-clause-groups
returns-in_default-2-clause-groups c =
    let rest = c.groups.rest.bits in
    let none = subst (IsFirstOf (items_where_true rest (shifted_entries c.column-column.result.now))) c.in_default-2.is c.in_ok-first_entry.ensures in
    all_made c.args.total c.args.selection.bits c.args.by c.args.index.now.rows c.groups.groups.items rest c.groups.invariant.made
    (subst (λ entries. items_where_true rest entries ≡ []) c.column-column.ensures.entries none)

pub returns-then-first-most-clause-refused : goal.returns-then-first-most-clause-refused
returns-then-first-most-clause-refused c =
    let rows = c.args.index.now.rows in
    let rest = c.groups.rest.bits in
    let entries = shifted_entries c.column-column.result.now in
    let first =
    subst (λ entries. IsFirst (items_where_true rest entries) c.in-Some-2.field-0) c.column-column.ensures.entries
    (subst (IsFirstOf (items_where_true rest entries)) c.in-Some-2.is c.in_ok-first_entry.ensures) in
    subst (λ most. AreMoreEntries most (selected_entries c.args.selection.bits c.args.by rows)) (c.groups.invariant.count ∙ omega (arith, c.groups-test.false, c.groups.auto.split_off-end, c.if-first-most.true))
    (more c.args.total c.args.selection.bits c.args.by rows c.groups.groups.items rest c.groups.invariant.made c.in-Some-2.field-0 first)

pub returns-in_err-others-clause-refused : goal.returns-in_err-others-clause-refused
returns-in_err-others-clause-refused c =
    let rows = c.args.index.now.rows in
    let selection = c.args.selection.bits in
    let groups = c.groups.groups.items in
    let left = c.args.most - c.split_off_count-first.result in
    let all : length groups + left ≡ c.args.most = omega (arith, c.groups.invariant.count, c.groups-test.false, c.groups.auto.split_off-end, c.split_off_count-first.ensures.few) in
    passed_on c.from_residual-in_err-others.result c.in_err-others.field-0.0 (IsRefusedColumn selection c.args.by rows c.args.most) c.from_residual-in_err-others.ensures
    (refused_on selection c.groups.rest.bits c.args.by rows left c.args.most
    (λ more. subst (λ most. AreMoreEntries most (selected_entries selection c.args.by rows)) all (more_on c.args.total selection c.args.by rows groups c.groups.rest.bits c.groups.invariant.made left more))
    c.in_err-others.field-0.0 c.in_err-others.ensures.refused)

pub returns-clause-groups : goal.returns-clause-groups
returns-clause-groups c =
    let rows = c.args.index.now.rows in
    subst (AreColumnGroups c.args.total c.args.selection.bits c.args.by rows) (sym c.in_ok-append.ensures.items)
    (joined c.args.total c.args.selection.bits c.args.by rows c.groups.groups.items c.groups.rest.bits c.groups.invariant.made c.in_ok-others.others.items c.in_ok-others.ensures.groups)
