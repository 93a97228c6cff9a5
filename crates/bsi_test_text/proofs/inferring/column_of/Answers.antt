use Rattle.bsi_inference.proofs.Alike.{looks_still}
use Rattle.bsi_test_text.proofs.inferring.column_of.Goals as goal

pub fields-preserved : goal.fields-preserved
fields-preserved c = looks_still 46 c.fields.column c.observe.new.self c.fields.invariant c.in_ok-observe.ensures.alike
