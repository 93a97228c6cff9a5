use Rattle.std.proofs.Common.{◌≡◌, ◌∷◌, length, take}
use Rattle.std.specs.Prelude.{if◌then◌else◌}
use Rattle.std.specs.List.{flat_map}
use Rattle.bsi_segments.specs.Schemas.{column_words}
use Rattle.bsi_segments.proofs.schemas.words_of_schema.Given as goal

-- the words of the columns so far
abbrev pub invariant-columns : goal.invariant-columns
invariant-columns l = record {
  whole : l.count ≡ length l.schema.columns;
  put : l.words.items ≡ length l.schema.columns ∷ (if l.schema.signed then 1 else 0) ∷ flat_map column_words (take l.c l.schema.columns);
}
