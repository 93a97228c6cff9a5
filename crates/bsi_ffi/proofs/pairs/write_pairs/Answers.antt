use Rattle.std.proofs.Common.{◌≡◌, ◌+◌, ◌<◌, [], ◌∷◌, ◌++◌, None, Option, ℤ, List, drop, length, get_or, refl, take, ap, subst, sym, ◌∙◌, rules, arith}
use Rattle.std.specs.Prelude.{slice_set}
use Rattle.std.specs.List.{AllZip}
use Rattle.std.proofs.lemmas.List.{drop-drop, drop-set-lt, take_more, take_more_set}
use Rattle.std.proofs.lemmas.Option.{get_or_from_slice_get}
use Rattle.bsi_aggregates.specs.Groups.{Grouped}
use Rattle.bsi_ffi.specs.Pairs.{IsFlatPair, IsFlatEntry}
use Rattle.bsi_ffi.proofs.Zips.{zip_more}
use Rattle.bsi_ffi.proofs.pairs.write_pairs.Goals as goal

-- the two of a list
two : (entries : List (Option ℤ)) → length entries ≡ 2 → get_or entries 0 None ∷ get_or entries 1 None ∷ [] ≡ entries
two [] is = absurd (omega arith)
two (x ∷ []) is = absurd (omega arith)
two (x ∷ y ∷ []) is = refl
two (x ∷ y ∷ z ∷ entries) is = absurd (omega arith)

-- one more group is written
pub pairs-preserved : goal.pairs-preserved
pairs-preserved c =
    let made = c.args.made.now.groups in
    let pairs = c.pairs.pairs in
    let at = c.pairs.at in
    let entries = c.get-group.result.entries.now in
    let group : Grouped = record { entries = entries; answer = c.get-group.result.answer.now } in
    let flat = c.flat_pair.result in
    let below : at < length made = omega (arith, c.pairs-test.true, c.len-at-end.ensures) in
    let within : at < length pairs = omega (arith, below, c.requires.fits, c.pairs.invariant.long) in
    let is : get_or made at group ≡ group = get_or_from_slice_get made at group group c.get-group.ensures.group in
    let written = subst (λ es. AllZip IsFlatEntry es flat.entries) (two entries (c.get-group.ensures.columns ∙ c.requires.columns)) c.flat_pair.ensures.entries in
    let prefix : take (at + 1) made ≡ take at made ++ group ∷ [] = take_more made at group below ∙ ap (λ g. take at made ++ g ∷ []) is in record {
      long = search rules;
      done = subst (λ xs. AllZip IsFlatPair xs (take (at + 1) (slice_set pairs at flat))) (sym prefix)
          (subst (AllZip IsFlatPair (take at made ++ group ∷ [])) (sym (take_more_set pairs at flat within))
          (zip_more IsFlatPair (take at made) (take at pairs) group flat c.pairs.invariant.done (written, c.flat_pair.ensures.answer)));
      rest = drop-set-lt (at + 1) pairs at flat (omega arith) ∙ sym (drop-drop 1 at pairs) ∙ ap (drop 1) c.pairs.invariant.rest ∙ drop-drop 1 at c.args.pairs.now;
    }
