use Rattle.std.proofs.Common.{◌≡◌, Vec, Global, ℕ, map, take}
use Rattle.csv.specs.Records.{fields_of}
use Rattle.bsi_survey.proofs.survey.list_fields.Given as goal

-- the fields so far are listed
abbrev pub invariant-fields : goal.invariant-fields
invariant-fields l = map (λ (field : Vec ℕ Global). field.items) l.list.items ≡ take l.index (fields_of l.fields)
