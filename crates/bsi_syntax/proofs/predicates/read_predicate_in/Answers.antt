use Rattle.std.proofs.Common.{subst, sym}
use Rattle.bsi_syntax.specs.Questions.{IsPredicateIn}
use Rattle.bsi_syntax.specs.Reading.{texts, IsParsedAs}
use Rattle.bsi_syntax.specs.declared.grammar.Grammar.{Grammar}
use Rattle.bsi_syntax.proofs.predicates.read_predicate_in.Goals as goal

pub returns-in-Index : goal.returns-in-Index
returns-in-Index g c =
    subst (λ (grammar : Grammar). IsParsedAs (IsPredicateIn grammar (g.V.Vocabulary.words c.args.vocabulary.now) (texts c.args.fields.now)) c.read_predicate.result) (sym c.in-Index.is) c.read_predicate.ensures
