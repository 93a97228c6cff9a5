use Rattle.std.proofs.Common.{◌+◌, ℤ, Bool, MatchOption, option_and_then, option_map, ap, subst, sym, ◌∙◌}
use Rattle.bsi_kinds.specs.Decimals.{begins_minus, decimal_of, scanned, signed_units, spelled_digits, without_minus}
use Rattle.bsi_kinds.specs.Rounding.{nearest_number, rounded_units, tenths_number, IsRounded}
use Rattle.bsi_kinds.proofs.Halves.{negated_units, plain_units, round_none, round_some, tenths_none, tenths_some}
use Rattle.bsi_kinds.proofs.rounding.round.Goals as goal

pub returns-then-tenths-clause-none : goal.returns-then-tenths-clause-none
returns-then-tenths-clause-none c =
    round_none c.args.places (begins_minus c.args.text.now) (spelled_digits c.args.point (without_minus c.args.text.now)) c.in_ok-tenths.tenths
    (c.in_ok-tenths.ensures ∙ ap (λ t. option_map (scanned (c.args.places + 1)) (spelled_digits c.args.point t)) c.split_sign-negative.ensures.digits) c.if-tenths.true

pub returns-then-negative-clause-some : goal.returns-then-negative-clause-some
returns-then-negative-clause-some c =
    let minus = sym c.split_sign-negative.ensures.negative ∙ c.if-negative.true in
    let tenths = c.in_ok-tenths.tenths in
    subst (λ (n : ℤ). MatchOption (decimal_of c.args.point c.args.text.now) ⊥ (λ d. IsRounded c.args.places d n))
    (ap (λ b. signed_units b (rounded_units tenths)) minus ∙ sym (negated_units c.round_tenths-units.result (rounded_units tenths) c.round_tenths-units.ensures.value c.round_tenths-units.ensures.few))
    (round_some c.args.places (begins_minus c.args.text.now) (spelled_digits c.args.point (without_minus c.args.text.now)) tenths
    (c.in_ok-tenths.ensures ∙ ap (λ t. option_map (scanned (c.args.places + 1)) (spelled_digits c.args.point t)) c.split_sign-negative.ensures.digits) c.if-tenths.false)

pub returns-else-negative-clause-some : goal.returns-else-negative-clause-some
returns-else-negative-clause-some c =
    let minus = sym c.split_sign-negative.ensures.negative ∙ c.if-negative.false in
    let tenths = c.in_ok-tenths.tenths in
    subst (λ (n : ℤ). MatchOption (decimal_of c.args.point c.args.text.now) ⊥ (λ d. IsRounded c.args.places d n))
    (ap (λ b. signed_units b (rounded_units tenths)) minus ∙ sym (plain_units c.round_tenths-units.result (rounded_units tenths) c.round_tenths-units.ensures.value c.round_tenths-units.ensures.few))
    (round_some c.args.places (begins_minus c.args.text.now) (spelled_digits c.args.point (without_minus c.args.text.now)) tenths
    (c.in_ok-tenths.ensures ∙ ap (λ t. option_map (scanned (c.args.places + 1)) (spelled_digits c.args.point t)) c.split_sign-negative.ensures.digits) c.if-tenths.false)

pub returns-then-tenths-clause-exact : goal.returns-then-tenths-clause-exact
returns-then-tenths-clause-exact c =
    tenths_none (begins_minus c.args.text.now) _ c.in_ok-tenths.tenths
    (c.in_ok-tenths.ensures ∙ ap (λ t. option_map (scanned (c.args.places + 1)) (spelled_digits c.args.point t)) c.split_sign-negative.ensures.digits) c.if-tenths.true

pub returns-then-negative-clause-exact : goal.returns-then-negative-clause-exact
returns-then-negative-clause-exact c =
    let minus = sym c.split_sign-negative.ensures.negative ∙ c.if-negative.true in
    let tenths = c.in_ok-tenths.tenths in
    tenths_some (begins_minus c.args.text.now) _ tenths _
    (c.in_ok-tenths.ensures ∙ ap (λ t. option_map (scanned (c.args.places + 1)) (spelled_digits c.args.point t)) c.split_sign-negative.ensures.digits) c.if-tenths.false
    (negated_units c.round_tenths-units.result (rounded_units tenths) c.round_tenths-units.ensures.value c.round_tenths-units.ensures.few
    ∙ ap (λ (b : Bool). signed_units b (rounded_units tenths)) (sym minus))

pub returns-else-negative-clause-exact : goal.returns-else-negative-clause-exact
returns-else-negative-clause-exact c =
    let minus = sym c.split_sign-negative.ensures.negative ∙ c.if-negative.false in
    let tenths = c.in_ok-tenths.tenths in
    tenths_some (begins_minus c.args.text.now) _ tenths _
    (c.in_ok-tenths.ensures ∙ ap (λ t. option_map (scanned (c.args.places + 1)) (spelled_digits c.args.point t)) c.split_sign-negative.ensures.digits) c.if-tenths.false
    (plain_units c.round_tenths-units.result (rounded_units tenths) c.round_tenths-units.ensures.value c.round_tenths-units.ensures.few
    ∙ ap (λ (b : Bool). signed_units b (rounded_units tenths)) (sym minus))
