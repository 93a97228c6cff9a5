-- Which fields spell a predicate (`IsPredicate`): a comparison is `name sign constant`, and `and`, `or` and `not`
-- follow their operands.
use Rattle.std.specs.Prelude.{◌≡◌, ℕ, ◌≤◌, Bool, true, false, ◌||◌, List, [], ◌∷◌, ◌++◌, length, Some, None, codes}
use Rattle.bsi_digits.specs.declared.op.Op.{Op}
use Rattle.bsi_digits.specs.declared.op.Op.TheVariants.{Eq, Ne, Lt, Le, Gt, Ge}
use Rattle.bsi_rows.specs.declared.query.Pred.{Pred, All, Compare, Columns, Null, Both', Either', Not'}
use Rattle.bsi_rows.specs.Fields.{Field}
use Rattle.bsi_syntax.specs.Vocabularies.{Words}

-- The sign of a comparison.
abbrev pub sign_of : Op → Field
sign_of Eq = codes "="
sign_of Ne = codes "!="
sign_of Lt = codes "<"
sign_of Le = codes "<="
sign_of Gt = codes ">"
sign_of Ge = codes ">="

-- The fields spell the predicate.
unfoldable pub Spells : Words → List Field → Pred → Type 0
Spells words fields All = fields ≡ codes "all" ∷ []
-- A constant may be no number of the column. The comparison with a number that replaces it may have another sign.
Spells words fields (Compare c op n) =
    (name constant : Field) × (sign : Op) × (fields ≡ name ∷ sign_of sign ∷ constant ∷ []) × (words.column name ≡ Some c)
    × (words.comparison c sign constant ≡ Some (op, n))
-- A name that is no constant, of a column that may be compared with the first.
Spells words fields (Columns a op b) =
    (first second : Field) × (fields ≡ first ∷ sign_of op ∷ second ∷ []) × (words.column first ≡ Some a)
    × (words.comparison a op second ≡ None) × (words.column second ≡ Some b) × (words.alike a b ≡ true)
Spells words fields (Null c) =
    (name : Field) × (fields ≡ name ∷ codes "null" ∷ []) × (words.column name ≡ Some c)
Spells words fields (Both' p first q second) =
    (one two : List Field) × (fields ≡ one ++ two ++ codes "and" ∷ []) × Spells words one first
    × Spells words two second
Spells words fields (Either' p first q second) =
    (one two : List Field) × (fields ≡ one ++ two ++ codes "or" ∷ []) × Spells words one first
    × Spells words two second
Spells words fields (Not' p pred) = (one : List Field) × (fields ≡ one ++ codes "not" ∷ []) × Spells words one pred

-- The most fields of a predicate.
abbrev pub max_predicate_fields : ℕ
max_predicate_fields = 1000

-- A predicate of at most 1,000 fields.
abbrev pub IsPredicate : Words → List Field → Pred → Type 0
IsPredicate words fields pred = (length fields ≤ max_predicate_fields) × Spells words fields pred

-- Some comparison of the predicate is of two columns.
abbrev pub compares_columns : Pred → Bool
compares_columns All = false
compares_columns (Compare c op n) = false
compares_columns (Columns a op b) = true
compares_columns (Null c) = false
compares_columns (Both' p first q second) = compares_columns first || compares_columns second
compares_columns (Either' p first q second) = compares_columns first || compares_columns second
compares_columns (Not' p pred) = compares_columns pred

-- A predicate of a script: each comparison is with a constant.
abbrev pub IsPlainPredicate : Words → List Field → Pred → Type 0
IsPlainPredicate words fields pred = IsPredicate words fields pred × (compares_columns pred ≡ false)
