use Rattle.std.proofs.Common.{◌&&◌, sym, ap, ◌∙◌}
use Rattle.bsi_bits.specs.Packed.{bit_of}
use Rattle.bsi_slices.specs.Decisions.{as_expected}
use Rattle.bsi_columns.proofs.SpanAnswers.{and_not_bit}
use Rattle.bsi_columns.proofs.WordSpans.{and_bit}
use Rattle.bsi_columns.proofs.decomposed.compare.and_expected.Goals as goal

pub returns-then-expected-clause-bits : goal.returns-then-expected-clause-bits
returns-then-expected-clause-bits c = λ p below.
    ap (λ ws. bit_of ws p) c.and.ensures ∙ and_bit c.args.span.now c.args.selection.now (sym c.requires) p below
    ∙ sym (ap (λ w. bit_of c.args.span.now p && as_expected w (bit_of c.args.selection.now p)) c.if-expected.true)

pub returns-else-expected-clause-bits : goal.returns-else-expected-clause-bits
returns-else-expected-clause-bits c = λ p below.
    ap (λ ws. bit_of ws p) c.and_not.ensures ∙ and_not_bit c.args.span.now c.args.selection.now (sym c.requires) c.know_fits.ensures p below
    ∙ sym (ap (λ w. bit_of c.args.span.now p && as_expected w (bit_of c.args.selection.now p)) c.if-expected.false)
