use Rattle.std.proofs.Common.{◌≡◌, ◌+◌, ◌<◌, [], ◌∷◌, ◌++◌, None, drop, get_or, length, take, ap, subst, sym, ◌∙◌, rules, arith}
use Rattle.std.specs.Prelude.{slice_set}
use Rattle.std.specs.List.{AllZip}
use Rattle.std.proofs.lemmas.List.{drop-drop, drop-set-lt, take_more, take_more_set}
use Rattle.bsi_ffi.specs.Pairs.{IsFlatEntry}
use Rattle.bsi_ffi.proofs.Zips.{zip_more}
use Rattle.bsi_ffi.proofs.numbers.write_numbers.Goals as goal

-- one more number is written
pub numbers-preserved : goal.numbers-preserved
numbers-preserved c =
    let made = c.args.made.now in
    let numbers = c.numbers.numbers in
    let at = c.numbers.at in
    let number = get_or made at None in
    let flat = c.flat_entry.result in
    let within : at < length numbers = omega (arith, c.numbers-test.true, c.requires, c.numbers.invariant.long) in
    let prefix : take (at + 1) made ≡ take at made ++ number ∷ [] = take_more made at None c.numbers-test.true in record {
      long = search rules;
      done = subst (λ xs. AllZip IsFlatEntry xs (take (at + 1) (slice_set numbers at flat))) (sym prefix)
          (subst (AllZip IsFlatEntry (take at made ++ number ∷ [])) (sym (take_more_set numbers at flat within))
          (zip_more IsFlatEntry (take at made) (take at numbers) number flat c.numbers.invariant.done c.flat_entry.ensures));
      rest = drop-set-lt (at + 1) numbers at flat (omega arith) ∙ sym (drop-drop 1 at numbers) ∙ ap (drop 1) c.numbers.invariant.rest ∙ drop-drop 1 at c.args.numbers.now;
    }
