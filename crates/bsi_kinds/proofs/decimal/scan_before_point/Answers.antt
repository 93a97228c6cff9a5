use Rattle.std.proofs.Common.{◌≡◌, ◌<◌, ◌+◌, ◌-◌, ◌++◌, ◌&&◌, true, length, Some, option_map, ap₂, ◌∙◌, sym}
use Rattle.std.specs.Char.{is_ascii_digit}
use Rattle.std.specs.List.{list_all}
use Rattle.bsi_kinds.specs.Decimals.{scanned}
use Rattle.bsi_kinds.proofs.Raising.{scan_before}
use Rattle.bsi_kinds.proofs.Scans.{digits_from, some_first, some_if, some_second}
use Rattle.bsi_kinds.proofs.decimal.scan_before_point.Goals as goal
use Rattle.bsi_kinds.proofs.decimal.scan_before_point.Goals.{else-is_empty-via-then-is_empty+else-is_empty-2, else-is_empty-via-else-is_empty}

pub returns : goal.returns
returns c =
    let whole = c.split_at_byte.result.0.now in
    let decimals = c.split_at_byte.result.1.now in
    let leading = c.split_at.result.0.now in
    let rest = c.split_at.result.1.now in
    let some : 0 < length whole + length decimals = elim c.else-is_empty.branch [
      | else-is_empty-via-then-is_empty+else-is_empty-2 w ↦ some_second (length whole) (length decimals) _ w.is_empty-then-is_empty.ensures w.if-is_empty-2.false
      | else-is_empty-via-else-is_empty w ↦ some_first (length whole) (length decimals) _ c.is_empty.ensures w.if-is_empty.false
    ] in
    let read = some_if _ _ _ c.in_ok-units.ensures in
    let are : leading ++ rest ≡ whole = sym c.split_at.ensures.by_index.0 in
    let long : length leading ≡ length whole - c.args.before = c.split_at.ensures.front_len ∙ c.saturating_sub.ensures in
    let rest_digits : list_all is_ascii_digit rest ≡ true = sym c.are_digits.ensures ∙ c.if-not-are_digits.false in
    let part_digits : list_all is_ascii_digit decimals ≡ true = sym c.are_digits-else-not-are_digits.ensures ∙ c.if-not-are_digits-2.false in
    ap₂ (λ a b. Some (record { units = c.in_ok-units.units; exact = a && b })) c.are_zeros-zeros.ensures c.are_zeros.ensures
    ∙ scan_before whole decimals leading rest c.args.before are long rest_digits part_digits read.0 some c.in_ok-units.units read.1
    ∙ ap₂ (λ w f. option_map (λ digits. scanned 0 (record { value = digits.value; places = digits.places + c.args.before })) (digits_from w f)) c.split_at_byte.ensures.whole c.split_at_byte.ensures.fraction
