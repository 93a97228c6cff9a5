use Rattle.std.proofs.Common.{refl}
use Rattle.std.proofs.lemmas.Bool.{both_ways}
use Rattle.bsi_inference.proofs.Inserting.{gained}
use Rattle.bsi_inference.proofs.text_set.TextSet.add.Goals as goal

pub returns-clause-ok : goal.returns-clause-ok
returns-clause-ok c =
    gained (λ t. t.items) c.self.inside.texts.keys c.insert.new.self.keys c.in_ok-from_slice.field-0 c.args.self.now c.args.text.now _ c.self.view_is c.in_ok-from_slice.ensures.items refl c.in_ok-insert.ensures.keys
    (λ there. both_ways c.contains.result c.if-contains.false (c.contains.ensures.1 there))
