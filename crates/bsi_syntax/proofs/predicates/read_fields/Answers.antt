use Rattle.std.proofs.Common.{◌∙◌, ap, sym, arith}
use Rattle.bsi_syntax.specs.Postfix.{newest_first, state_of}
use Rattle.bsi_syntax.specs.Reading.{texts}
use Rattle.bsi_syntax.proofs.Firsts.{lent_at, texts_long}
use Rattle.bsi_syntax.proofs.SpellSteps.{leads_here, leads_nowhere, leads_on}
use Rattle.bsi_syntax.proofs.predicates.read_fields.Goals as goal

-- no predicate goes on so
pub returns-in_default : goal.returns-in_default
returns-in_default g c =
    leads_nowhere (g.V.Vocabulary.words c.args.vocabulary.now) (texts c.args.fields.now) c.fields.index _ c.fields.pending (newest_first c.fields.stack.items) _
    (lent_at c.args.fields.now c.fields.index _ c.fields-test.true)
    (ap (λ read. state_of read c.read_field.new.stack.items) (sym c.in_default.is) ∙ c.in_ok-next.ensures) c.fields.invariant

pub fields-preserved : goal.fields-preserved
fields-preserved g c =
    leads_on (g.V.Vocabulary.words c.args.vocabulary.now) (texts c.args.fields.now) c.fields.index _ c.fields.pending c.in-Some.next (newest_first c.fields.stack.items)
    (newest_first c.read_field.new.stack.items) _ (lent_at c.args.fields.now c.fields.index _ c.fields-test.true)
    (ap (λ read. state_of read c.read_field.new.stack.items) (sym c.in-Some.is) ∙ c.in_ok-next.ensures) c.fields.invariant

pub returns : goal.returns
returns g c =
    leads_here (g.V.Vocabulary.words c.args.vocabulary.now) (texts c.args.fields.now) c.fields.index c.fields.pending (newest_first c.fields.stack.items) _
    (omega (arith, c.fields-test.false, texts_long c.args.fields.now)) c.fields.invariant
