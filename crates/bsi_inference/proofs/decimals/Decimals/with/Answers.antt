use Rattle.std.proofs.Common.{◌≡◌, true, max, ap, sym, ◌∙◌}
use Rattle.bsi_inference.proofs.Plain.{next_decimals}
use Rattle.bsi_inference.proofs.Widening.{number_decimal}
use Rattle.bsi_inference.proofs.decimals.Decimals.with.Goals as goal

pub returns-then-read : goal.returns-then-read
returns-then-read c =
    let seen = c.see-seen.ensures in
    let was : c.args.self.spelled ≡ true = cc in
    next_decimals c.args.point c.args.field.now c.args.self c.max-places.result c.see-seen.result.0 c.see-seen.result.1 was (sym c.is_code.ensures ∙ c.if-is_code.false)
    (c.max-places.ensures ∙ ap (λ k. max c.args.self.places k) c.count_places.ensures) seen.accepts seen.preserved seen.seen
    (c.if-read.true ∙ sym (number_decimal c.args.self.rounding c.args.point c.max-places.result c.args.field.now (seen.read c.if-read.true)))

pub returns-else-read : goal.returns-else-read
returns-else-read c =
    let seen = c.see-seen.ensures in
    let was : c.args.self.spelled ≡ true = cc in
    next_decimals c.args.point c.args.field.now c.args.self c.max-places.result c.see-seen.result.0 c.spells_decimal.result was (sym c.is_code.ensures ∙ c.if-is_code.false)
    (c.max-places.ensures ∙ ap (λ k. max c.args.self.places k) c.count_places.ensures) seen.accepts seen.preserved seen.seen c.spells_decimal.ensures
