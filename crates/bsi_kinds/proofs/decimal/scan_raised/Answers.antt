use Rattle.std.proofs.Common.{◌≡◌, ◌<◌, pos, neg_ℤ, ◌+ℤ◌, option_map, option_and_then, ap, ap₂, arith, ◌∙◌}
use Rattle.std.proofs.lemmas.Int.{ints}
use Rattle.bsi_kinds.specs.Decimals.{exponent_of, mantissa_of, raised, scanned}
use Rattle.bsi_kinds.proofs.Raising.{map_lowered, map_raised}
use Rattle.bsi_kinds.proofs.decimal.scan_raised.Goals as goal

-- the digits that are raised lose so many places before the point
pub returns-then-at-lt0 : goal.returns-then-at-lt0
returns-then-at-lt0 c =
    let e = c.in_ok-exponent.exponent in
    let is : pos c.args.places +ℤ e ≡ neg_ℤ (pos c.unsigned_abs.result) =
    omega (arith, ints, c.unsigned_abs.ensures.value, c.if-at-lt0.true, c.in_ok-exponent.ensures.small, c.requires) in
    let some : 0 < c.unsigned_abs.result = omega (arith, ints, c.unsigned_abs.ensures.value, c.if-at-lt0.true) in
    c.scan_before_point.ensures
    ∙ map_lowered c.args.places c.unsigned_abs.result e (mantissa_of c.args.point c.split_at_exponent.result.0.now) is some
    ∙ ap₂ (λ m r. option_map (scanned c.args.places) (option_and_then (λ digits. option_map (raised digits) r) m))
    (ap (mantissa_of c.args.point) c.split_at_exponent.ensures.before) (c.in_ok-exponent.ensures.value ∙ ap exponent_of c.split_at_exponent.ensures.behind)

-- or come to so many places
pub returns-else-at-lt0 : goal.returns-else-at-lt0
returns-else-at-lt0 c =
    let e = c.in_ok-exponent.exponent in
    c.scan_mantissa.ensures
    ∙ map_raised c.args.places _ e (mantissa_of c.args.point c.split_at_exponent.result.0.now)
    (omega (arith, ints, c.if-at-lt0.false, c.in_ok-exponent.ensures.small, c.requires))
    ∙ ap₂ (λ m r. option_map (scanned c.args.places) (option_and_then (λ digits. option_map (raised digits) r) m))
    (ap (mantissa_of c.args.point) c.split_at_exponent.ensures.before) (c.in_ok-exponent.ensures.value ∙ ap exponent_of c.split_at_exponent.ensures.behind)
