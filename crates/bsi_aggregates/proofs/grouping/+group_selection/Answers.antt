use Rattle.std.proofs.Common.{◌≡◌, ◌<◌, ◌+◌, ◌-◌, [], ◌∷◌, ◌++◌, ℕ, ℤ, Bool, List, None, Option, length, get_or, map, take, drop, ap, sym, subst, ◌∙◌, arith, length-append}
use Rattle.std.specs.Prelude.{◌&&◌, ◌==◌, false}
use Rattle.std.specs.List.{items_where_true}
use Rattle.std.specs.Simd.Lanes.{zip2}
use Rattle.std.proofs.lemmas.List.{length-map, take_all}
use Rattle.std.proofs.lemmas.Simd.{length-zip2}
use Rattle.bsi_bits.specs.BitList.{without}
use Rattle.bsi_rows.specs.Answers.{missing_of}
use Rattle.bsi_rows.specs.Rows.{SourcedRow}
use Rattle.bsi_rows.proofs.Missing.{none_missing_second}
use Rattle.bsi_shift.specs.Shifted.{shifted_entries}
use Rattle.bsi_aggregates.specs.ColumnGroups.{rows_with_entry}
use Rattle.bsi_aggregates.specs.Entries.{is_entry, IsFirst, IsFirstOf}
use Rattle.bsi_aggregates.specs.Groups.{selected_keys, with_first_entry, AreGroups, AreMore, IsRefusedOver}
use Rattle.bsi_aggregates.specs.declared.grouping.GroupError.{GroupError}
use Rattle.bsi_aggregates.specs.declared.grouping.GroupError.TheVariants.{BadColumn, TooMany, NoMemory}
use Rattle.bsi_aggregates.proofs.GroupsJoined.{passed_on}
use Rattle.bsi_aggregates.proofs.GroupsMade.{all_split, more_split, none_split, one_more, one_split, some_made, taken_are, AreGroupsMade}
use Rattle.bsi_aggregates.proofs.SplitRows.{other_entries}
use Rattle.bsi_aggregates.proofs.grouping.+group_selection.Goals as goal

abbrev others_of : List ℕ → List ℕ
others_of by = take (length by - 1) (drop 1 by)

-- columns are the first one and the others
split_by : (by : List ℕ) → 0 < length by → get_or by 0 0 ∷ others_of by ≡ by
split_by [] some = absurd (omega arith)
split_by (c ∷ by) some = ap (λ cs. c ∷ cs) (take_all (length (c ∷ by) - 1) by (omega arith))

not_empty : (by : List ℕ) → false ≡ (length by == 0) → 0 < length by
not_empty [] test = absurd cc
not_empty (c ∷ by) test = omega arith

-- the rows of a first entry have too many further groups, or memory was refused
refused_over : (selection : List Bool) (first : ℕ) (others : List ℕ) (rows : List SourcedRow) (e : Option ℤ) (few most : ℕ)
    → (AreMore few (other_entries selection first others rows e) → AreMore most (selected_keys selection (first ∷ others) rows))
    → (why : GroupError) → IsRefusedOver (rows_with_entry selection first rows e) others rows few why → IsRefusedOver selection (first ∷ others) rows most why
refused_over selection first others rows e few most then_so (BadColumn c) never = never
refused_over selection first others rows e few most then_so TooMany many = then_so many
refused_over selection first others rows e few most then_so NoMemory told = tt

pub entries-init : goal.entries-init
entries-init t c =
    let rows = c.args.index.now.rows in
    let selection = c.args.selection.bits in
    let by = c.args.by.now in record {
      made = subst (λ groups. AreGroupsMade c.args.total selection (get_or by 0 0) (others_of by) rows groups selection) (sym c.new-groups.ensures.groups)
          (none_split c.args.total selection (get_or by 0 0) (others_of by) rows (length-map rows _ ∙ sym c.requires.same));
      columns = c.new-groups.ensures.columns;
      count = omega arith;
      few = omega (arith, ap length c.new-groups.ensures.groups);
      same = c.requires.same;
    }

pub returns-in_default-clause-groups : goal.returns-in_default-clause-groups
returns-in_default-clause-groups t c =
    let rows = c.args.index.now.rows in
    let rest = c.entries.rest.bits in
    let by = c.args.by.now in
    let whole = split_by by (not_empty by (sym c.if-is_empty.false ∙ c.is_empty.ensures)) in
    let none = subst (IsFirstOf (items_where_true rest (shifted_entries c.column-column.result.now))) c.in_default.is c.in_ok-entry.ensures in
    subst (λ by. AreGroups c.args.total c.args.selection.bits by rows c.entries.groups.groups) whole
    (all_split c.args.total c.args.selection.bits (get_or by 0 0) (others_of by) rows c.entries.groups.groups rest c.entries.invariant.made
    (subst (λ entries. items_where_true rest entries ≡ []) c.column-column.ensures.entries none))

pub group_selection-requires : goal.group_selection-requires
group_selection-requires t c =
    let by = c.args.by.now in
    let whole = split_by by (not_empty by (sym c.if-is_empty.false ∙ c.is_empty.ensures)) in
    let columns = length c.args.index.now.schema.columns in
    let entries = shifted_entries c.column-column.result.now in
    let long : length entries ≡ length c.args.index.now.rows = ap length c.column-column.ensures.entries ∙ length-map c.args.index.now.rows _ in (
      omega (arith, c.decreases, ap length whole),
      (
        none_missing_second columns (get_or by 0 0 ∷ []) (others_of by) (ap (missing_of columns) whole ∙ c.requires.by),
        (
          c.requires.there,
          ap length c.in_ok-rows.ensures.split_off
              ∙ length-zip2 ◌&&◌ (map (is_entry c.in-Some.entry) entries) c.entries.rest.bits (length-map entries _ ∙ long ∙ sym c.entries.invariant.same)
              ∙ length-map entries _ ∙ long,
        ),
      ),
    )

pub returns-in_err-inner-clause-refused : goal.returns-in_err-inner-clause-refused
returns-in_err-inner-clause-refused t c =
    let rows = c.args.index.now.rows in
    let selection = c.args.selection.bits in
    let rest = c.entries.rest.bits in
    let groups = c.entries.groups.groups in
    let by = c.args.by.now in
    let first = get_or by 0 0 in
    let others = others_of by in
    let whole = split_by by (not_empty by (sym c.if-is_empty.false ∙ c.is_empty.ensures)) in
    let e = c.in-Some.entry in
    let made = c.entries.invariant.made in
    let entries = shifted_entries c.column-column.result.now in
    let is_first =
    subst (λ entries. IsFirst (items_where_true rest entries) e) c.column-column.ensures.entries
    (subst (IsFirstOf (items_where_true rest entries)) c.in-Some.is c.in_ok-entry.ensures) in
    let split_off = c.in_ok-rows.ensures.split_off ∙ ap (λ entries. zip2 ◌&&◌ (map (is_entry e) entries) rest) c.column-column.ensures.entries in
    let most_left : length groups + (c.args.most - c.len.result) ≡ c.args.most = omega (arith, c.len.ensures, c.entries.invariant.few) in
    let over =
    subst (λ bits. IsRefusedOver bits others rows (c.args.most - c.len.result) c.in_err-inner.field-0.0)
    (taken_are c.args.total selection first others rows groups rest made e is_first c.in_ok-rows.rows.bits split_off) c.in_err-inner.ensures.refused in
    passed_on c.from_residual-in_err-inner.result c.in_err-inner.field-0.0 (IsRefusedOver selection by rows c.args.most)
    c.from_residual-in_err-inner.ensures
    (subst (λ by. IsRefusedOver selection by rows c.args.most c.in_err-inner.field-0.0) whole
    (refused_over selection first others rows e (c.args.most - c.len.result) c.args.most
    (λ more. subst (λ most. AreMore most (selected_keys selection (first ∷ others) rows)) most_left
    (more_split c.args.total selection first others rows groups rest made e is_first (c.args.most - c.len.result) more)) c.in_err-inner.field-0.0 over))

pub entries-preserved : goal.entries-preserved
entries-preserved t c =
    let rows = c.args.index.now.rows in
    let selection = c.args.selection.bits in
    let rest = c.entries.rest.bits in
    let groups = c.entries.groups.groups in
    let by = c.args.by.now in
    let first = get_or by 0 0 in
    let others = others_of by in
    let e = c.in-Some.entry in
    let made = c.entries.invariant.made in
    let entries = shifted_entries c.column-column.result.now in
    let long : length entries ≡ length rows = ap length c.column-column.ensures.entries ∙ length-map rows _ in
    let is_first =
    subst (λ entries. IsFirst (items_where_true rest entries) e) c.column-column.ensures.entries
    (subst (IsFirstOf (items_where_true rest entries)) c.in-Some.is c.in_ok-entry.ensures) in
    let taken_long = ap length c.in_ok-rows.ensures.split_off ∙ length-zip2 ◌&&◌ (map (is_entry e) entries) rest (length-map entries _ ∙ long ∙ sym c.entries.invariant.same) ∙ length-map entries _ ∙ long in
    let split_off = c.in_ok-rows.ensures.split_off ∙ ap (λ entries. zip2 ◌&&◌ (map (is_entry e) entries) rest) c.column-column.ensures.entries in
    let inner = c.in_ok-inner.inner.groups in
    let are =
    subst (λ bits. AreGroups c.args.total bits others rows inner)
    (taken_are c.args.total selection first others rows groups rest made e is_first c.in_ok-rows.rows.bits split_off) c.in_ok-inner.ensures.groups in
    let some = some_made c.args.total selection first others rows groups rest made e is_first inner are in
    let pushed = c.in_ok-groups.ensures.groups in
    let many = ap length pushed ∙ length-append groups (map (with_first_entry e) inner) ∙ ap (λ n. length groups + n) (length-map inner (with_first_entry e)) in record {
      made = subst (λ groups. AreGroupsMade c.args.total selection first others rows groups c.split_off_rows.new.selection.bits) (sym pushed)
          (one_split c.args.total selection first others rows groups rest made e is_first inner are c.in_ok-rows.rows.bits c.split_off_rows.new.selection.bits
          split_off c.in_ok-rows.ensures.without_them);
      columns = c.in_ok-groups.ensures.columns ∙ c.entries.invariant.columns;
      count = omega (arith, many, some, c.entries.invariant.count);
      few = omega (arith, many, c.in_ok-inner.ensures.few, c.len.ensures, c.entries.invariant.few);
      same = ap length c.in_ok-rows.ensures.without_them ∙ length-zip2 without rest c.in_ok-rows.rows.bits (c.entries.invariant.same ∙ sym taken_long) ∙ c.entries.invariant.same;
    }

pub returns-in-None-clause-groups : goal.returns-in-None-clause-groups
returns-in-None-clause-groups t c =
    let rows = c.args.index.now.rows in
    let rest = c.entries.rest.bits in
    let by = c.args.by.now in
    let whole = split_by by (not_empty by (sym c.if-is_empty.false ∙ c.is_empty.ensures)) in
    let none = subst (IsFirstOf (items_where_true rest (shifted_entries c.column-column.result.now))) c.in-None.is c.in_ok-first_entry.ensures in
    subst (λ by. AreGroups c.args.total c.args.selection.bits by rows c.entries.groups.groups) whole
    (all_split c.args.total c.args.selection.bits (get_or by 0 0) (others_of by) rows c.entries.groups.groups rest c.entries.invariant.made
    (subst (λ entries. items_where_true rest entries ≡ []) c.column-column.ensures.entries none))

pub returns-clause-refused : goal.returns-clause-refused
returns-clause-refused t c =
    let rows = c.args.index.now.rows in
    let rest = c.entries.rest.bits in
    let groups = c.entries.groups.groups in
    let by = c.args.by.now in
    let whole = split_by by (not_empty by (sym c.if-is_empty.false ∙ c.is_empty.ensures)) in
    let entries = shifted_entries c.column-column.result.now in
    let is_first =
    subst (λ entries. IsFirst (items_where_true rest entries) c.in-Some-2.field-0) c.column-column.ensures.entries
    (subst (IsFirstOf (items_where_true rest entries)) c.in-Some-2.is c.in_ok-first_entry.ensures) in
    let all : length groups + 0 ≡ c.args.most = omega (arith, c.entries.invariant.count, c.entries.invariant.few, c.entries-test.false, c.entries.auto.counter-end) in
    subst (λ by. AreMore c.args.most (selected_keys c.args.selection.bits by rows)) whole
    (subst (λ most. AreMore most (selected_keys c.args.selection.bits (get_or by 0 0 ∷ others_of by) rows)) all
    (one_more c.args.total c.args.selection.bits (get_or by 0 0) (others_of by) rows groups rest c.entries.invariant.made c.in-Some-2.field-0 is_first))
