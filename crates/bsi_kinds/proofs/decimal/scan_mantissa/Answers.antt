use Rattle.std.proofs.Common.{◌≡◌, ◌<◌, ◌+◌, ◌-◌, ◌*◌, ◌^◌, ◌++◌, min, true, length, Some, option_map, ap, ap₂, ◌∙◌, sym}
use Rattle.std.specs.Char.{is_ascii_digit}
use Rattle.std.specs.List.{list_all}
use Rattle.bsi_kinds.specs.Decimals.{most_scanned, scanned}
use Rattle.bsi_kinds.proofs.Scaling.{capped_times}
use Rattle.bsi_kinds.proofs.Scans.{digits_from, scan_of, some_first, some_if, some_second}
use Rattle.bsi_kinds.proofs.decimal.scan_mantissa.Goals as goal
use Rattle.bsi_kinds.proofs.decimal.scan_mantissa.Goals.{else-is_empty-via-then-is_empty+else-is_empty-2, else-is_empty-via-else-is_empty}

pub returns : goal.returns
returns c =
    let whole = c.split_at_byte.result.0.now in
    let decimals = c.split_at_byte.result.1.now in
    let leading = c.split_at.result.0.now in
    let rest = c.split_at.result.1.now in
    let some : 0 < length whole + length decimals = elim c.else-is_empty.branch [
      | else-is_empty-via-then-is_empty+else-is_empty-2 w ↦ some_second (length whole) (length decimals) _ w.is_empty-then-is_empty.ensures w.if-is_empty-2.false
      | else-is_empty-via-else-is_empty w ↦ some_first (length whole) (length decimals) _ c.is_empty.ensures w.if-is_empty.false
    ] in
    let first = some_if _ _ _ c.in_ok-units.ensures in
    let second = some_if _ _ _ c.in_ok-units-2.ensures in
    let are : leading ++ rest ≡ decimals = sym c.split_at.ensures.by_index.0 in
    let long : length leading ≡ min (length decimals) c.args.places = c.split_at.ensures.front_len ∙ c.min.ensures in
    let digits : list_all is_ascii_digit rest ≡ true = sym c.are_digits.ensures ∙ c.if-not-are_digits.false in
    let parts = scan_of whole decimals leading rest c.args.places are long digits c.in_ok-units.units c.in_ok-units-2.units first.0 second.0 some first.1 second.1 in
    let units =
    c.saturating_mul.ensures ∙ ap (λ k. min (c.in_ok-units-2.units * k) most_scanned) c.saturating_pow.ensures
    ∙ capped_times c.in_ok-units-2.units most_scanned (10 ^ (c.args.places - length leading)) in
    ap₂ (λ u e. Some (record { units = u; exact = e })) units c.are_zeros.ensures
    ∙ parts
    ∙ ap₂ (λ w f. option_map (scanned c.args.places) (digits_from w f)) c.split_at_byte.ensures.whole c.split_at_byte.ensures.fraction
