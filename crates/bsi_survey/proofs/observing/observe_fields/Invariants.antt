use Rattle.std.proofs.Common.{Vec, Global, ℕ, [], get_or, map}
use Rattle.csv.specs.Records.{fields_of}
use Rattle.bsi_survey.specs.Choices.{chosen_fields}
use Rattle.bsi_survey.specs.Looking.{IsStep}
use Rattle.bsi_survey.proofs.Growing.{AreBetween}
use Rattle.bsi_survey.proofs.observing.observe_fields.Given as goal

-- the columns so far have observed their fields
abbrev pub invariant-columns : goal.invariant-columns
invariant-columns l =
    AreBetween (λ k old new. IsStep (map (λ (w : Vec ℕ Global). w.items) l.words) (get_or (chosen_fields l.choice (fields_of l.fields)) k []) old new) l.initial.columns l.columns l.c
