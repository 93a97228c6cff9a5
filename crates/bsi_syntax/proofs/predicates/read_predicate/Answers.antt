use Rattle.std.proofs.Common.{◌≤◌, None, Some, length, arith}
use Rattle.bsi_syntax.specs.Postfix.{newest_first}
use Rattle.bsi_syntax.specs.Predicates.{IsPredicate}
use Rattle.bsi_syntax.specs.Reading.{texts}
use Rattle.bsi_syntax.proofs.Firsts.{stopped_on, texts_long}
use Rattle.bsi_syntax.proofs.SpellReading.{only_read, stops}
use Rattle.bsi_syntax.proofs.predicates.read_predicate.Goals as goal

pub returns-in_err-pending : goal.returns-in_err-pending
returns-in_err-pending g c =
    stops (g.V.Vocabulary.words c.args.vocabulary.now) c.know_names.ensures (texts c.args.fields.now) c.new-stack.result.items c.read_fields.new.stack.items
    c.from_residual.result _ c.from_residual.ensures c.new-stack.ensures.items c.in_err-pending.ensures

pub returns-in_err-pop_only : goal.returns-in_err-pop_only
returns-in_err-pop_only g c =
    let fields = texts c.args.fields.now in
    let few : length (texts c.args.fields.now) ≤ 1000 = omega (arith, c.if-fields-gt-MAX_PREDICATE_FIELDS.false, texts_long c.args.fields.now) in
    stopped_on (IsPredicate (g.V.Vocabulary.words c.args.vocabulary.now) fields) c.from_residual-in_err-pop_only.result _ c.from_residual-in_err-pop_only.ensures
    (only_read (g.V.Vocabulary.words c.args.vocabulary.now) c.know_names.ensures fields c.new-stack.result.items (newest_first c.read_fields.new.stack.items) c.in_ok-pending.pending None
    few c.new-stack.ensures.items c.in_ok-pending.ensures c.in_err-pop_only.ensures)

pub returns : goal.returns
returns g c =
    let fields = texts c.args.fields.now in
    let few : length (texts c.args.fields.now) ≤ 1000 = omega (arith, c.if-fields-gt-MAX_PREDICATE_FIELDS.false, texts_long c.args.fields.now) in
    only_read (g.V.Vocabulary.words c.args.vocabulary.now) c.know_names.ensures fields c.new-stack.result.items (newest_first c.read_fields.new.stack.items) c.in_ok-pending.pending
    (Some c.in_ok-pop_only.field-0) few c.new-stack.ensures.items c.in_ok-pending.ensures c.in_ok-pop_only.ensures
