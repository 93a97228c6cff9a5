use Rattle.std.proofs.Common.{ℕ, ◌*◌, ◌+◌, ◌/◌, get_or, length, inl, inr, ap, ◌∙◌, arith}
use Rattle.std.proofs.lemmas.Bool.{cases_lt}
use Rattle.bsi_kernels.specs.Places.{at_most_step}
use Rattle.bsi_kernels.proofs.comparisons.order_by_places.Goals as goal

-- by whole spans, and by single words behind them
pub returns-clause-bits : goal.returns-clause-bits
returns-clause-bits c = λ numbers encoded small p within below.
    let whole : ℕ = length c.args.span.now / 16 * 16 in
    let first = c.order_spans.ensures.bits numbers encoded small in
    let second = c.order_spans-2.ensures.bits numbers encoded small in
    elim (cases_lt p (64 * whole)) [
      | inl before ↦ second.before p before ∙ first.inside p (omega arith) (omega arith)
      | inr past ↦
          second.inside p past (omega (arith, c.order_spans.ensures.len))
          ∙ ap (λ b. at_most_step b (get_or numbers (64 * c.args.at + p) 0) c.args.constant) (first.after p (omega arith))
    ]
