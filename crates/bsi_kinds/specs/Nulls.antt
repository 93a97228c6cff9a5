-- Words of row files that are nulls, as the empty field is.
use Rattle.std.specs.Prelude.{Bool, List}
use Rattle.std.specs.List.{list_any}
use Rattle.std.specs.Str.{bytes_eq}
use Rattle.bsi_rows.specs.Fields.{Field}

-- The field is one of the null words.
abbrev pub is_null_word : List Field → Field → Bool
is_null_word words field = list_any (λ word. bytes_eq word field) words
