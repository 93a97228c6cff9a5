use Rattle.std.proofs.Common.{◌≡◌, List, ◌∷◌, refl, length, sym, subst, rules, arith, SFits, to_z-of_z}
use Rattle.std.specs.Int.{w64}
use Rattle.std.specs.Prelude.{[], Some}
use Rattle.std.specs.List.{items_where_true}
use Rattle.bsi_digits.specs.Orders.{values_at}
use Rattle.bsi_digits.specs.WholeNumbers.{IsSignedLeastOf}
use Rattle.bsi_shift.specs.Shifted.{shifted_entries}
use Rattle.bsi_aggregates.specs.Entries.{IsFirst}
use Rattle.bsi_aggregates.proofs.FirstEntries.{entries_counted, first_null, first_number}
use Rattle.bsi_aggregates.proofs.splitting.first_entry.Goals as goal

pub returns-in-Some : goal.returns-in-Some
returns-in-Some c =
    let entries = items_where_true c.args.selection.now.bits (shifted_entries c.args.column.now) in
    let least = subst (IsSignedLeastOf (values_at c.args.selection.now.bits (shifted_entries c.args.column.now))) c.in-Some.is c.in_ok-number.ensures.least in
    let fits : SFits w64 c.in-Some.number = search rules in
    subst (λ n. IsFirst entries (Some n)) (sym (to_z-of_z fits)) (first_number entries c.in-Some.number least)

pub returns-then-count-gt0 : goal.returns-then-count-gt0
returns-then-count-gt0 c =
    let entries = items_where_true c.args.selection.now.bits (shifted_entries c.args.column.now) in
    let none = subst (IsSignedLeastOf (values_at c.args.selection.now.bits (shifted_entries c.args.column.now))) c.in_default.is c.in_ok-number.ensures.least in
    let counted = entries_counted c.args.selection.now.bits (shifted_entries c.args.column.now) c.requires in
    first_null entries none (omega (arith, counted, c.count.ensures, c.if-count-gt0.true))

pub returns-else-count-gt0 : goal.returns-else-count-gt0
returns-else-count-gt0 c =
    let entries = items_where_true c.args.selection.now.bits (shifted_entries c.args.column.now) in
    let counted = entries_counted c.args.selection.now.bits (shifted_entries c.args.column.now) c.requires in
    none entries (omega (arith, counted, c.count.ensures, c.if-count-gt0.false))
  where
    none : {X : Type 0} (xs : List X) → length xs ≡ 0 → xs ≡ []
    none [] is = refl
    none (x ∷ xs) is = absurd (omega arith)
