-- Which fields of a record are of the columns that are surveyed (`chosen_indexes`), and these fields (`chosen_fields`).
use Rattle.std.specs.Prelude.{ℕ, ◌+◌, Bool, true, if◌then◌else◌, List, [], ◌∷◌, length, map, nat_eq, Option, Some, None, option_map}
use Rattle.std.specs.declared.alloc.Global.{Global}
use Rattle.std.specs.List.{list_any}
use Rattle.std.specs.Str.{bytes_eq}
use Rattle.std.specs.declared.vec.Vec.{Vec}
use Rattle.bsi_rows.specs.Fields.{Field}
use Rattle.bsi_input.specs.Formats.{fields_at}
use Rattle.bsi_survey.specs.declared.choice.Choice.{Choice}

-- The titles of the columns that are surveyed, or none if each column is.
abbrev pub wanted_titles : Option (Vec (Vec ℕ Global) Global) → Option (List Field)
wanted_titles wanted = option_map (λ titles. map (λ title. title.items) titles.items) wanted

-- A text is one of these.
abbrev pub has_text : List Field → Field → Bool
has_text texts text = list_any (λ each. bytes_eq each text) texts

-- A column of this title is surveyed.
abbrev pub is_wanted : Option (List Field) → Field → Bool
is_wanted None title = true
is_wanted (Some wanted) title = has_text wanted title

-- The indexes of the columns that are surveyed, where the first of these titles has this index.
unfoldable pub chosen_indexes : Option (List Field) → ℕ → List Field → List ℕ
chosen_indexes wanted index [] = []
chosen_indexes wanted index (title ∷ titles) =
    if is_wanted wanted title then index ∷ chosen_indexes wanted (index + 1) titles
    else chosen_indexes wanted (index + 1) titles

-- A record is as long as the header.
abbrev pub is_whole : Choice → List Field → Bool
is_whole choice fields = nat_eq (length fields) choice.many

-- The fields of the columns, in a record that is as long as the header.
abbrev pub chosen_fields : Choice → List Field → List Field
chosen_fields choice fields = fields_at choice.indexes.items fields
