use Rattle.std.proofs.Common.{◌≡◌, All, ◌+◌, ◌<◌, ◌∷◌, [], ◌++◌, ℕ, Bool, true, false, SFits, w64, length, get_or, ap, sym, subst, ◌∙◌, arith, rules, to_z, of_z, to_z-of_z, length-append}
use Rattle.std.specs.Prelude.{nat_lt}
use Rattle.std.specs.Option.{option_map}
use Rattle.std.proofs.lemmas.Bool.Decides.{nat_tests}
use Rattle.std.proofs.lemmas.List.{get_or_default}
use Rattle.bsi_digits.specs.Offsets.{IsInRange}
use Rattle.bsi_rows.specs.Rows.{column_of}
use Rattle.bsi_schema.specs.Columns.{column_at}
use Rattle.bsi_shift.specs.Shifted.{shifted_entries, shifted_size}
use Rattle.bsi_aggregates.specs.ColumnGroups.{selected_entries, AreMoreEntries}
use Rattle.bsi_aggregates.specs.Tallies.{entries_or_nulls, IsTally}
use Rattle.bsi_aggregates.specs.declared.column_groups.ColumnGroup.{ColumnGroup}
use Rattle.bsi_aggregates.proofs.Tallied.{entry_placed}
use Rattle.bsi_aggregates.proofs.TalliedGroups.{all_groups, no_group, one_group, too_many, AreTallied}
use Rattle.bsi_aggregates.proofs.tallies.group_by_tally.Goals.{else-has_rows, then-has_rows+else-len-most+in_ok-reserve}
use Rattle.bsi_aggregates.proofs.tallies.group_by_tally.Goals as goal

some_rows : (has : Bool) (n m : ℕ) → has ≡ nat_lt 0 n → has ≡ true → n ≡ m → 0 < m
some_rows has n m is selection same = grind (arith, nat_tests)

no_rows : (has : Bool) (n m : ℕ) → has ≡ nat_lt 0 n → has ≡ false → n ≡ m → m ≡ 0
no_rows has n m is none same = grind (arith, nat_tests)

pub returns-then-len-most-clause-refused : goal.returns-then-len-most-clause-refused
returns-then-len-most-clause-refused c =
    let rows = c.args.index.now.rows in
    let keys = c.column-keys.result.now in
    let tallies = c.in_ok-tallies.tallies.items in
    let fits : SFits w64 c.offset-offset.result = search rules in
    let offset_is = c.column-keys.ensures.offset ∙ sym (ap (λ schema. (column_at schema.columns c.args.by).offset) c.schema.ensures.schema) ∙ sym c.offset-offset.ensures.offset ∙ sym (to_z-of_z fits) in
    let entries_are = ap (entries_or_nulls c.args.selection.now.bits) c.column_of_total-entries.ensures in
    let some = some_rows c.has_rows.result c.index.result.now.rows (get_or tallies c.tallies.k c.index.result.now).rows c.has_rows.ensures c.if-has_rows.true (ap (λ tally. tally.rows) c.index.ensures) in
    subst (λ most. AreMoreEntries most (selected_entries c.args.selection.now.bits c.args.by rows)) (omega (arith, c.len.ensures, c.tallies.groups.ok.0, c.if-len-most.true))
    (too_many c.args.total c.args.selection.now.bits c.args.by rows (to_z w64 (of_z w64 c.offset-offset.result)) c.size-size.result tallies c.requires.same keys offset_is (sym c.size-size.ensures.size)
    c.column-keys.ensures.entries (entries_or_nulls c.args.selection.now.bits (option_map (λ c. shifted_entries c.now) c.column_of_total-entries.result)) entries_are c.in_ok-tallies.ensures c.tallies.k c.tallies.groups.items c.tallies.invariant.are c.index.result.now (omega (arith, c.tallies-test.true, c.len-k-end.ensures, c.in_ok-tallies.tallies.ok.0)) some)

pub tallies-preserved : goal.tallies-preserved
tallies-preserved c =
    let rows = c.args.index.now.rows in
    let selection = c.args.selection.now.bits in
    let keys = c.column-keys.result.now in
    let offset = to_z w64 (of_z w64 c.offset-offset.result) in
    let size = c.size-size.result in
    let tallies = c.in_ok-tallies.tallies.items in
    let k = c.tallies.k in
    let tally = c.index.result.now in
    let fits : SFits w64 c.offset-offset.result = search rules in
    let offset_is = c.column-keys.ensures.offset ∙ sym (ap (λ schema. (column_at schema.columns c.args.by).offset) c.schema.ensures.schema) ∙ sym c.offset-offset.ensures.offset ∙ sym (to_z-of_z fits) in
    let entries_are = ap (entries_or_nulls c.args.selection.now.bits) c.column_of_total-entries.ensures in
    let within : k < length tallies = omega (arith, c.tallies-test.true, c.len-k-end.ensures, c.in_ok-tallies.tallies.ok.0) in
    elim c.if-has_rows.branch [
      | then-has_rows+else-len-most+in_ok-reserve w ↦
          let group : ColumnGroup = record { entry = w.entry_at.result; answer = w.answer.result } in
          let pushed = ap (λ v. v.items) w.groups-is ∙ w.push_reserved.ensures.items ∙ ap (λ groups. groups ++ group ∷ []) w.reserve.ensures.items in
          let some = some_rows c.has_rows.result tally.rows (get_or tallies k tally).rows c.has_rows.ensures w.if-has_rows.true (ap (λ tally. tally.rows) c.index.ensures) in
          let then_tally = w.index-then-has_rows.result.now in
          record {
            are = subst (AreTallied c.args.total selection c.args.by rows offset size tallies (k + 1)) (sym pushed)
                (one_group c.args.total selection c.args.by rows offset size tallies c.requires.same keys offset_is (sym c.size-size.ensures.size) c.column-keys.ensures.entries
                (entries_or_nulls c.args.selection.now.bits (option_map (λ c. shifted_entries c.now) c.column_of_total-entries.result)) entries_are c.in_ok-tallies.ensures k c.tallies.groups.items c.tallies.invariant.are tally within some
                w.entry_at.result w.answer.result (entry_placed offset size w.entry_at.result k w.entry_at.ensures)
                (λ es is. w.answer.ensures es (subst (IsTally es) (sym (w.index-then-has_rows.ensures ∙ get_or_default tallies k then_tally tally within)) is)));
            few = omega (arith, ap length pushed, length-append c.tallies.groups.items (group ∷ []), c.tallies.invariant.few, w.len.ensures, c.tallies.groups.ok.0, w.if-len-most.false);
          }
      | else-has_rows w ↦
          let none = no_rows c.has_rows.result tally.rows (get_or tallies k tally).rows c.has_rows.ensures w.if-has_rows.false (ap (λ tally. tally.rows) c.index.ensures) in record {
            are = subst (AreTallied c.args.total selection c.args.by rows offset size tallies (k + 1)) (sym (ap (λ v. v.items) w.groups-is))
                (no_group c.args.total selection c.args.by rows offset size tallies c.requires.same keys offset_is (sym c.size-size.ensures.size) c.column-keys.ensures.entries
                (entries_or_nulls c.args.selection.now.bits (option_map (λ c. shifted_entries c.now) c.column_of_total-entries.result)) entries_are c.in_ok-tallies.ensures k c.tallies.groups.items c.tallies.invariant.are tally within none);
            few = omega (arith, ap (λ v. length v.items) w.groups-is, c.tallies.invariant.few);
          }
    ]

pub returns-clause-groups : goal.returns-clause-groups
returns-clause-groups c =
    let rows = c.args.index.now.rows in
    let selection = c.args.selection.now.bits in
    let keys = c.column-keys.result.now in
    let offset = to_z w64 (of_z w64 c.offset-offset.result) in
    let tallies = c.in_ok-tallies.tallies.items in
    let fits : SFits w64 c.offset-offset.result = search rules in
    let offset_is = c.column-keys.ensures.offset ∙ sym (ap (λ schema. (column_at schema.columns c.args.by).offset) c.schema.ensures.schema) ∙ sym c.offset-offset.ensures.offset ∙ sym (to_z-of_z fits) in
    let entries_are = ap (entries_or_nulls c.args.selection.now.bits) c.column_of_total-entries.ensures in
    let all : c.tallies.k ≡ length tallies = omega (arith, c.tallies-test.false, c.tallies.auto.k-end, c.len-k-end.ensures, c.in_ok-tallies.tallies.ok.0) in
    all_groups c.args.total selection c.args.by rows offset c.size-size.result tallies c.requires.same keys offset_is (sym c.size-size.ensures.size) c.column-keys.ensures.entries
    (entries_or_nulls c.args.selection.now.bits (option_map (λ c. shifted_entries c.now) c.column_of_total-entries.result)) entries_are c.in_ok-tallies.ensures c.tallies.groups.items
    (subst (λ k. AreTallied c.args.total selection c.args.by rows offset c.size-size.result tallies k c.tallies.groups.items) all c.tallies.invariant.are)
    (subst (λ o. All (IsInRange o c.size-size.result) (column_of rows c.args.by)) offset_is
    (subst (λ s. All (IsInRange keys.offset s) (column_of rows c.args.by)) (sym c.size-size.ensures.size)
    (subst (All (IsInRange keys.offset (shifted_size keys))) c.column-keys.ensures.entries c.size-size.ensures.range)))
