use Rattle.std.proofs.Common.{map, take}
use Rattle.std.specs.Prelude.{All}
use Rattle.csv.specs.Records.{fields_of}
use Rattle.bsi_projection.specs.Words.{AreChosen}
use Rattle.bsi_pruning.specs.Named.{HasMore}
use Rattle.bsi_pruning.proofs.choosing.choose_by_records.Given as goal

-- the columns of the records so far are chosen
abbrev pub invariant-records : goal.invariant-records
invariant-records g l = record {
  named : All (λ fields. AreChosen (g.V.Vocabulary.words l.vocabulary) fields l.chosen.items) (take l.k (map fields_of l.ahead));
  more : HasMore l.initial.chosen.items l.chosen.items;
}
