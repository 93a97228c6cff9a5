use Rattle.std.proofs.Common.{◌*◌, arith, inl, inr}
use Rattle.std.proofs.lemmas.Bool.{cases_lt}
use Rattle.bsi_components.proofs.WordDigits.{none_here, some_here}
use Rattle.bsi_components.proofs.encoding.Encoding.has_digit.Goals as goal

pub returns-then-matched-word-ne0-clause-some : goal.returns-then-matched-word-ne0-clause-some
returns-then-matched-word-ne0-clause-some g c = λ on yes.
    some_here (g.Self.Encoding.digits c.args.self.now) c.args.d c.args.at c.args.span.now c.words.k c.eq_span.new.span c.words-test.true c.requires.rows (c.eq_span.ensures on)
    (omega (arith, c.type_inv.span c.words.k)) c.if-matched-word-ne0.true

pub words-preserved : goal.words-preserved
words-preserved g c = λ on p below set is.
    elim (cases_lt p (64 * c.words.k)) [
      | inl before ↦ c.words.invariant on p before set is
      | inr here ↦
          none_here (g.Self.Encoding.digits c.args.self.now) c.args.d c.args.at c.args.span.now c.words.k c.eq_span.new.span c.words-test.true c.requires.rows (c.eq_span.ensures on)
          c.if-matched-word-ne0.false p here below set is
    ]
