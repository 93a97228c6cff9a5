use Rattle.std.proofs.Common.{◌≡◌, drop}
use Rattle.bsi_syntax.specs.Postfix.{after_fields, newest_first}
use Rattle.bsi_syntax.specs.Reading.{texts}
use Rattle.bsi_syntax.specs.declared.predicates.Pending.TheVariants.{Nothing}
use Rattle.bsi_syntax.proofs.predicates.read_fields.Given as goal

-- what is left leads from here to where all of the fields lead
abbrev pub invariant-fields : goal.invariant-fields
invariant-fields g l =
    after_fields (g.V.Vocabulary.words l.vocabulary) (drop l.index (texts l.fields)) l.pending (newest_first l.stack.items)
    ≡ after_fields (g.V.Vocabulary.words l.vocabulary) (texts l.fields) Nothing (newest_first l.fn.stack.items)
