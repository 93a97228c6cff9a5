-- What the words of questions mean (`Words`): the column of a name, and the comparison for a constant; and which columns
-- may be summed, and compared with each other.
use Rattle.std.specs.Prelude.{◌≡◌, ℕ, ℤ, Bool, false, true, Option, Some, option_map}
use Rattle.bsi_digits.specs.declared.op.Op.{Op}
use Rattle.bsi_schema.specs.Columns.{position_of, Declared}
use Rattle.bsi_schema.specs.Names.{is_word}
use Rattle.bsi_rows.specs.Fields.{Field}
use Rattle.bsi_syntax.specs.Numbers.{spelled_integer}

-- The meaning of names and constants, and what the columns may be asked.
pub record Words : Type 0 where
  -- The column of a name.
  pub column : Field → Option ℕ
  -- The comparison of a column's numbers that means one with a constant.
  pub comparison : ℕ → Op → Field → Option (Op × ℤ)
  -- The numbers of a column may be summed.
  pub sums : ℕ → Bool
  -- The numbers of two columns may be compared with each other.
  pub alike : ℕ → ℕ → Bool

-- The vocabulary of an index of whole numbers: the names of its columns, and numbers. Each column may be summed, and
-- compared with each other one.
abbrev pub schema_vocabulary : Declared → Words
schema_vocabulary schema = record {
  column = position_of schema.columns;
  comparison = λ c op text. option_map (λ n. (op, n)) (spelled_integer schema.signed text);
  sums = λ c. true;
  alike = λ first second. true;
}

-- No word of a predicate is the name of a column.
abbrev pub NameNoWord : Words → Type 0
NameNoWord words = (name : Field) → (c : ℕ) → words.column name ≡ Some c → is_word name ≡ false
