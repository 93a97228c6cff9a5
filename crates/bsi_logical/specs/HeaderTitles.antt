-- The titles of the columns of a row file, by its header (`titles_of`): a field that stands there again has its number behind it.
use Rattle.std.specs.Prelude.{ℕ, ◌+◌, ◌==◌, if◌then◌else◌, List, [], ◌∷◌, ◌++◌, count_by, decimal, get_or, take}
use Rattle.std.specs.Str.{bytes_eq}
use Rattle.bsi_rows.specs.Fields.{Field}

-- What stands behind a field in its title, if it is the field of this number among those that are the same: nothing
-- behind the first one, and `_2` behind the second.
abbrev pub number_mark : ℕ → Field
number_mark number = if number == 1 then [] else 95 ∷ decimal number

-- A field with its number behind it: `rain`, `rain_2`, `rain_3`.
abbrev pub numbered : Field → ℕ → Field
numbered field number = field ++ number_mark number

-- The number of a field behind these: one more than how many of them are the same.
abbrev pub number_behind : List Field → Field → ℕ
number_behind before field = count_by (λ other. bytes_eq other field) before + 1

-- The number of the field of a header at an index.
abbrev pub number_in : List Field → ℕ → ℕ
number_in header index = number_behind (take index header) (get_or header index [])

-- The titles of fields that stand behind others.
unfoldable pub titles_behind : List Field → List Field → List Field
titles_behind before [] = []
titles_behind before (field ∷ fields) =
    numbered field (number_behind before field) ∷ titles_behind (before ++ field ∷ []) fields

-- The titles of a header: the second `rain` has the title `rain_2`.
abbrev pub titles_of : List Field → List Field
titles_of header = titles_behind [] header
