use Rattle.std.proofs.Common.{List, ℕ, [], arith, get_or, take}
use Rattle.std.specs.Str.{bytes_eq}
use Rattle.std.proofs.lemmas.List.{length-take}
use Rattle.std.proofs.lemmas.List.Sums.{count_by-le-length}
use Rattle.csv.specs.Records.{fields_of}
use Rattle.bsi_logical.proofs.titles.number_in.Goals as goal

-- no more are the same than there are fields so far
pub overflow_add-number : goal.overflow_add-number
overflow_add-number c =
    let before = take c.fields.other (fields_of c.args.header.now) in
    let text = get_or (fields_of c.args.header.now) c.args.index [] in
    omega (arith, c.fields.invariant, count_by-le-length (λ (other : List ℕ). bytes_eq other text) before, length-take c.fields.other (fields_of c.args.header.now))
