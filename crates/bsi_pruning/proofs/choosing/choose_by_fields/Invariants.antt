use Rattle.std.proofs.Common.{◌≡◌, ◌<◌, ℕ, Some, [], get_or}
use Rattle.std.specs.Prelude.{Contains}
use Rattle.bsi_pruning.specs.Named.{HasMore}
use Rattle.bsi_pruning.proofs.choosing.choose_by_fields.Given as goal
use Rattle.bsi_syntax.specs.Reading.{texts}

-- the columns of the fields so far are chosen
abbrev pub invariant-fields : goal.invariant-fields
invariant-fields g l = record {
  named : (k : ℕ) → k < l.k → (column : ℕ) → (g.V.Vocabulary.words l.vocabulary).column (get_or (texts l.fields) k []) ≡ Some column → Contains l.chosen.items column;
  more : HasMore l.initial.chosen.items l.chosen.items;
}
