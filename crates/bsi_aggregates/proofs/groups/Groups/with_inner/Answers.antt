use Rattle.std.proofs.Common.{◌≡◌, ◌+◌, ◌-◌, ◌*◌, [], ◌∷◌, ◌++◌, List, Option, ℤ, length, map, take, drop, ap, ap₂, sym, ◌∙◌, arith, append_assoc, length-append}
use Rattle.std.proofs.lemmas.List.{map-append}
use Rattle.bsi_aggregates.specs.Groups.{grouped, with_first_entry, Grouped}
use Rattle.bsi_aggregates.proofs.FlatGroups.{grouped_more, times_more}
use Rattle.bsi_aggregates.proofs.groups.Groups.with_inner.Goals as goal

-- one more group is added
pub groups-preserved : goal.groups-preserved
groups-preserved c =
    let n = c.others.inside.columns in
    let entries = c.others.inside.entries.items in
    let yielded = c.groups.yielded in
    let answer = c.in-Some.answer in
    let start = c.groups.start in
    let behind = with_first_entry c.args.first in
    let one = ap (λ m. n * m) (length-append yielded (answer ∷ [])) ∙ times_more n (length yielded) in
    let long : start + n - start ≡ n = omega arith in
    let group : List (Option ℤ) → Grouped = λ es. record { entries = c.args.first ∷ es; answer = answer } in
    let part = ap₂ (λ m es. take m (drop start es)) long c.deref.ensures.value ∙ ap (λ at. take n (drop at entries)) c.groups.invariant.start in
    record {
      columns = c.in_ok-groups.ensures.columns ∙ c.groups.invariant.columns;
      start = omega (arith, one, c.groups.invariant.start);
      groups =
          c.in_ok-groups.ensures.groups ∙ ap₂ (λ gs es. gs ++ group es ∷ []) c.groups.invariant.groups part
          ∙ append_assoc c.args.self.groups (map behind (grouped n entries yielded)) (group (take n (drop (n * length yielded) entries)) ∷ [])
          ∙ ap (λ gs. c.args.self.groups ++ gs)
          (sym (ap (map behind) (grouped_more n entries yielded answer) ∙ map-append behind (grouped n entries yielded) _));
    }
