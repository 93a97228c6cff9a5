-- What a contract sees of a `BooleanForm`: the word for false, and the word for true.
use Rattle.bsi_rows.specs.Fields.{Field}

-- The word for false, and the word for true.
pub record BooleanWords : Type 0 where
  pub no : Field
  pub yes : Field
