use Rattle.std.proofs.Common.{subst}
use Rattle.std.specs.Prelude.{IfErr, IfOk, IfSome}
use Rattle.bsi_logical.specs.LogicalTexts.{IsLogicalFault, IsLogicalText}
use Rattle.bsi_logical.proofs.Exactly.{reads}
use Rattle.bsi_logical.proofs.logical_text.read_logical.Goals as goal
use Rattle.bsi_syntax.specs.Bytes.{KnownBytes}

pub returns-clause-read : goal.returns-clause-read
returns-clause-read g c = λ bytes l left text.
    reads bytes l c.read_text.result
    (subst (λ (o : KnownBytes). IfOk c.read_text.result (λ logical. IfSome o (λ bs. IsLogicalText bs logical))) left c.read_text.ensures.said)
    (subst (λ (o : KnownBytes). IfErr c.read_text.result (λ fault. IfSome o (λ bs. IsLogicalFault bs fault))) left c.read_text.ensures.fault)
    text
