use Rattle.std.proofs.Common.{◌≡◌, Bool, true, false, ℕ, if◌then◌else◌, Option, Some, None, refl}
use Rattle.bsi_schema.specs.Names.{is_word}
use Rattle.bsi_logical.specs.Logical.{column_called}
use Rattle.bsi_logical.proofs.vocabulary.LogicalSchemaVocabulary.know_names.Goals as goal

no_word : (b : Bool) (called : Option ℕ) (c : ℕ) → (if b then None else called) ≡ Some c → b ≡ false
no_word true called c is = absurd (cc (is))
no_word false called c is = refl

pub returns : goal.returns
returns c = λ name k is. no_word (is_word name) (column_called c.args.self.now name) k is
