-- Fields that are read one after another.
use Rattle.std.proofs.Common.{◌≡◌, ℕ, zero, suc, ◌+◌, ◌≤◌, List, [], ◌∷◌, length, drop, Option, Some, None, option_and_then, ap, sym, ◌∙◌, arith}
use Rattle.csv.specs.Records.{field_at}
use Rattle.bsi_rows.specs.declared.query.Pred.{Pred}
use Rattle.bsi_syntax.specs.declared.predicates.Pending.{Pending}
use Rattle.bsi_rows.specs.Fields.{Field}
use Rattle.bsi_syntax.specs.Vocabularies.{Words}
use Rattle.bsi_syntax.specs.Postfix.{after_field, after_fields, State}

-- what is left leads on after one more field
pub field_next : (words : Words) (fields : List Field) (index : ℕ) (field : Field) (pending : Pending) (stack : List Pred)
    → Some field ≡ field_at fields index
    → after_fields words (drop index fields) pending stack
    ≡ option_and_then (λ state. after_fields words (drop (index + 1) fields) state.0 state.1) (after_field words pending stack field)
unfolding field_at after_fields
field_next words [] index field pending stack at = cc
field_next words (f ∷ fields) zero field pending stack at =
    let same : f ≡ field = cc in
    ap (λ g. option_and_then (λ state. after_fields words fields state.0 state.1) (after_field words pending stack g)) same
field_next words (f ∷ fields) (suc index) field pending stack at =
    let next : suc index + 1 ≡ suc (index + 1) = omega arith in
    rw next (field_next words fields index field pending stack at)

-- it leads to where all fields lead
pub leads_on : (words : Words) (fields : List Field) (index : ℕ) (field : Field) (pending next : Pending) (stack after : List Pred) (end : Option State)
    → Some field ≡ field_at fields index → Some (next, after) ≡ after_field words pending stack field
    → after_fields words (drop index fields) pending stack ≡ end
    → after_fields words (drop (index + 1) fields) next after ≡ end
leads_on words fields index field pending next stack after end at step before =
    let left = λ (found : Option State). option_and_then (λ state. after_fields words (drop (index + 1) fields) state.0 state.1) found in
    ap left step ∙ sym (field_next words fields index field pending stack at) ∙ before

-- where no predicate goes on so, all fields lead nowhere
pub leads_nowhere : (words : Words) (fields : List Field) (index : ℕ) (field : Field) (pending : Pending) (stack : List Pred) (end : Option State)
    → Some field ≡ field_at fields index → None ≡ after_field words pending stack field
    → after_fields words (drop index fields) pending stack ≡ end
    → None ≡ end
leads_nowhere words fields index field pending stack end at step before =
    let left = λ (found : Option State). option_and_then (λ state. after_fields words (drop (index + 1) fields) state.0 state.1) found in
    ap left step ∙ sym (field_next words fields index field pending stack at) ∙ before

-- no field is left
pub leads_here : (words : Words) (fields : List Field) (index : ℕ) (pending : Pending) (stack : List Pred) (end : Option State)
    → length fields ≤ index → after_fields words (drop index fields) pending stack ≡ end → Some (pending, stack) ≡ end
unfolding after_fields
leads_here words [] zero pending stack end within before = before
leads_here words [] (suc index) pending stack end within before = before
leads_here words (f ∷ fields) zero pending stack end within before = absurd (omega arith)
leads_here words (f ∷ fields) (suc index) pending stack end within before = leads_here words fields index pending stack end (omega arith) before
