use Rattle.std.proofs.Common.{◌<◌, ◌^◌, ℕ, All, List, ap, length, rules, subst, ◌∙◌}
use Rattle.bsi_projection.specs.Chosen.{chosen_table}
use Rattle.bsi_pruning.proofs.opening.open_chosen.Goals as goal

pub returns-in-Some-clause-open_of : goal.returns-in-Some-clause-open_of
returns-in-Some-clause-open_of g c =
    let opened = rw c.in-Some.is at c.in_ok-index.ensures.opened in
    let there = rw c.in-Some.is at c.in_ok-index.ensures.there in
    let few : length c.args.chosen.items < 2 ^ 32 = search rules in
    record {
      few = few;
      is = λ t notes kinds are. opened t notes kinds are ∙ ap (λ (cs : List ℕ). chosen_table cs t) c.deref.ensures.value;
      there = λ t notes kinds are. subst (All (λ n. n < length t.schema.columns)) c.deref.ensures.value (there t notes kinds are);
    }
