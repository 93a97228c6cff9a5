-- What the words of questions mean in a logical schema (`logical_vocabulary`): columns by titles and names, and
-- constants; and which columns may be summed, or compared with each other.
use Rattle.std.specs.Prelude.{ℕ, ℤ, Bool, ◌&&◌, nat_lt, if◌then◌else◌, length, Option, None, option_map}
use Rattle.bsi_digits.specs.declared.op.Op.{Op}
use Rattle.bsi_schema.specs.Names.{is_word}
use Rattle.bsi_kinds.specs.FieldNumbers.{comparison_of}
use Rattle.bsi_rows.specs.Fields.{Field}
use Rattle.bsi_syntax.specs.Vocabularies.{Words}
use Rattle.bsi_logical.specs.Entries.{asked_kind, have_same_values, is_summed}
use Rattle.bsi_logical.specs.Logical.{column_called, kind_of, Logical}

-- The column that a question names. A word of predicates names none, even if it is a title.
abbrev pub asked_column : Logical → Field → Option ℕ
asked_column l name = if is_word name then None else column_called l name

-- The comparison of the numbers of column c that means one with a constant.
abbrev pub asked_comparison : Logical → ℕ → Op → Field → Option (Op × ℤ)
asked_comparison l c op text =
    if nat_lt c (length l.schema.columns)
    then option_map (λ lowered. (lowered.op, lowered.number)) (comparison_of (asked_kind (kind_of l c)) op 46 text)
    else None

-- The numbers of column c may be summed: they stand for decimals.
abbrev pub sums_column : Logical → ℕ → Bool
sums_column l c = nat_lt c (length l.schema.columns) && is_summed (kind_of l c)

-- The numbers of two columns may be compared: they stand for the same values.
abbrev pub are_alike : Logical → ℕ → ℕ → Bool
are_alike l first second =
    nat_lt first (length l.schema.columns) && nat_lt second (length l.schema.columns)
    && have_same_values (kind_of l first) (kind_of l second)

-- The vocabulary of a logical schema: titles and names of columns, and constants of their kinds.
abbrev pub logical_vocabulary : Logical → Words
logical_vocabulary l = record {
  column = asked_column l;
  comparison = asked_comparison l;
  sums = sums_column l;
  alike = are_alike l;
}
