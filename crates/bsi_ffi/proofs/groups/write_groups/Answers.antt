use Rattle.std.proofs.Common.{◌≡◌, ◌+◌, ◌<◌, [], ◌∷◌, ◌++◌, drop, length, get_or, take, ap, subst, sym, ◌∙◌, rules, arith}
use Rattle.std.specs.Prelude.{slice_set}
use Rattle.std.specs.List.{AllZip}
use Rattle.std.proofs.lemmas.List.{drop-drop, drop-set-lt, take_more, take_more_set}
use Rattle.std.proofs.lemmas.Option.{get_or_from_slice_get}
use Rattle.bsi_aggregates.specs.Groups.{Grouped}
use Rattle.bsi_ffi.specs.Groups.{IsFlatGroup}
use Rattle.bsi_ffi.proofs.Zips.{zip_more}
use Rattle.bsi_ffi.proofs.groups.write_groups.Goals as goal

-- one more group is written
pub groups-preserved : goal.groups-preserved
groups-preserved c =
    let made = c.args.made.now.groups in
    let groups = c.groups.groups in
    let at = c.groups.at in
    let group : Grouped = record { entries = c.get-group.result.entries.now; answer = c.get-group.result.answer.now } in
    let flat = c.flat_group.result in
    let below : at < length made = omega (arith, c.groups-test.true, c.len-at-end.ensures) in
    let within : at < length groups = omega (arith, below, c.requires.fits, c.groups.invariant.long) in
    let is : get_or made at group ≡ group = get_or_from_slice_get made at group group c.get-group.ensures.group in
    let prefix : take (at + 1) made ≡ take at made ++ group ∷ [] = take_more made at group below ∙ ap (λ g. take at made ++ g ∷ []) is in record {
      long = search rules;
      done = subst (λ xs. AllZip IsFlatGroup xs (take (at + 1) (slice_set groups at flat))) (sym prefix)
          (subst (AllZip IsFlatGroup (take at made ++ group ∷ [])) (sym (take_more_set groups at flat within))
          (zip_more IsFlatGroup (take at made) (take at groups) group flat c.groups.invariant.done (c.flat_group.ensures.entry, c.flat_group.ensures.answer)));
      rest = drop-set-lt (at + 1) groups at flat (omega arith) ∙ sym (drop-drop 1 at groups) ∙ ap (drop 1) c.groups.invariant.rest ∙ drop-drop 1 at c.args.groups.now;
    }
