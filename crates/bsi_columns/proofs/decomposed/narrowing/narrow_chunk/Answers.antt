use Rattle.std.proofs.Common.{◌+◌, ◌*◌, ◌||◌, get_or, sym, ap₂, ◌∙◌}
use Rattle.bsi_bits.specs.Packed.{bit_of}
use Rattle.bsi_columns.specs.DigitTests.{relates_step}
use Rattle.bsi_columns.proofs.decomposed.narrowing.narrow_chunk.Goals as goal

-- of the lowest digit nothing is known before
pub returns-in-Equal : goal.returns-in-Equal
returns-in-Equal g c = λ p below row.
    let old = c.args.span.now in
    let digit = get_or (g.E.Encoding.digits c.args.component.now) (64 * c.args.at + p) 0 in
    c.eq_span_into.ensures c.requires.spans p below row
    ∙ sym (ap₂ (λ r first. relates_step r (first || bit_of old p) digit c.args.digit) c.in-Equal.is c.if-is_lowest.true)
