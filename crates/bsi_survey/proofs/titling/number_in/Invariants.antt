use Rattle.std.proofs.Common.{◌≡◌, ◌+◌, [], Vec, Global, ℕ, count_by, get_or, map, take}
use Rattle.std.specs.Str.{bytes_eq}
use Rattle.bsi_survey.proofs.titling.number_in.Given as goal

-- one more than how many fields so far are the same
abbrev pub invariant-fields : goal.invariant-fields
invariant-fields l =
    let fields = map (λ (field : Vec ℕ Global). field.items) l.header in
    l.number ≡ count_by (λ other. bytes_eq other (get_or fields l.index [])) (take l.other fields) + 1
