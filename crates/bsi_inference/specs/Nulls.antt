-- The usual null words, such as NA: fields that stand for no value.
use Rattle.std.specs.Prelude.{codes, List, [], ◌∷◌}
use Rattle.bsi_rows.specs.Fields.{Field}

-- The usual null words.
abbrev pub usual_words : List Field
usual_words =
    codes "NA" ∷ codes "N/A" ∷ codes "n/a" ∷ codes "null" ∷ codes "NULL" ∷ codes "NaN" ∷ codes "nan" ∷ codes "None"
    ∷ codes "-" ∷ []
