use Rattle.std.proofs.Common.{◌≡◌, ◌<◌, ◌≤◌, ◌++◌, ◌∷◌, [], inl, inr, length, get_or, option_to_list, append-nil, refl, sym, subst, ap, ◌∙◌, arith, rules, Ok}
use Rattle.std.proofs.Math.ListN.{length-set}
use Rattle.std.proofs.lemmas.Bool.{cases_eq}
use Rattle.std.proofs.lemmas.List.{length-append}
use Rattle.std.proofs.lemmas.List.Elements.{All-get_or}
use Rattle.bsi_kinds.specs.Kinds.{IsKind}
use Rattle.bsi_inference.specs.declared.decision.Column.{Column}
use Rattle.bsi_logical.specs.Logical.{kind_of, Logical}
use Rattle.bsi_logical.specs.Records.{kind_given}
use Rattle.bsi_survey.proofs.Lists.{popped_all, popped_at, popped_len}
use Rattle.bsi_survey.proofs.Saying.{kind_other, kind_same, kind_set, kinds_more}
use Rattle.bsi_survey.proofs.making.set_kinds.Goals as goal

pub columns-init : goal.columns-init
columns-init c = ([], sym (append-nil c.args.columns.items), refl, c.schema.ensures.logical.kinded ∙ sym c.requires.len, λ k d high low. absurd (omega (arith, high, low)))

-- there are at most 64 columns
pub overflow_cast-c : goal.overflow_cast-c
overflow_cast-c c =
    let all = c.args.columns.items in
    let inv = c.columns.invariant in
    let rest = c.pop.new.self.items in
    let popped : c.columns.columns.items ≡ rest ++ c.in-Some.column ∷ [] = c.pop.ensures.items ∙ ap (λ o. rest ++ option_to_list o) c.in-Some.is in
    let few : length all ≤ 64 = omega (arith, c.requires.len, c.schema.ensures.logical.titled, c.schema.ensures.logical.few) in
    omega (arith, few, popped_len all c.columns.columns.items rest inv.0 c.in-Some.column inv.1 popped)

pub set_kind-requires-clause-column : goal.set_kind-requires-clause-column
set_kind-requires-clause-column c =
    let all = c.args.columns.items in
    let inv = c.columns.invariant in
    let rest = c.pop.new.self.items in
    let popped : c.columns.columns.items ≡ rest ++ c.in-Some.column ∷ [] = c.pop.ensures.items ∙ ap (λ o. rest ++ option_to_list o) c.in-Some.is in
    omega (arith, c.requires.len, ap (λ (l : Logical). length l.schema.columns) inv.2, popped_len all c.columns.columns.items rest inv.0 c.in-Some.column inv.1 popped)

pub set_kind-requires-clause-kind : goal.set_kind-requires-clause-kind
set_kind-requires-clause-kind c =
    let all = c.args.columns.items in
    let inv = c.columns.invariant in
    let rest = c.pop.new.self.items in
    let item = c.in-Some.column in
    let popped : c.columns.columns.items ≡ rest ++ item ∷ [] = c.pop.ensures.items ∙ ap (λ o. rest ++ option_to_list o) c.in-Some.is in
    let within : length rest < length all = omega (arith, popped_len all c.columns.columns.items rest inv.0 item inv.1 popped) in
    subst (λ (x : Column). IsKind x.kind) (popped_at all c.columns.columns.items rest inv.0 item inv.1 popped item)
    (All-get_or (λ (x : Column). IsKind x.kind) all (length rest) item within c.requires.kinds)

-- one kind more
pub columns-preserved : goal.columns-preserved
columns-preserved c =
    let all = c.args.columns.items in
    let inv = c.columns.invariant in
    let rest = c.pop.new.self.items in
    let item = c.in-Some.column in
    let k = length rest in
    let now = c.columns.logical in
    let new = c.set_kind.new.self in
    let popped : c.columns.columns.items ≡ rest ++ item ∷ [] = c.pop.ensures.items ∙ ap (λ o. rest ++ option_to_list o) c.in-Some.is in
    let number : c.len-c.result ≡ length c.pop.new.self.items = search rules in
    let is = kind_set now new k item.kind (subst (λ n. kind_given now n item.kind ≡ Ok new) number c.in_ok-set_kind.ensures) in
    let kinds = ap (λ (l : Logical). l.kinds) is in
    let within : k < length now.kinds = omega (arith, inv.3, popped_len all c.columns.columns.items rest inv.0 item inv.1 popped) in (
      item ∷ inv.0,
      popped_all all c.columns.columns.items rest inv.0 item inv.1 popped,
      kinds_more c.args.logical.now now new k item.kind inv.2 is,
      ap length kinds ∙ length-set now.kinds k item.kind ∙ inv.3,
      λ j d high low. elim (cases_eq j k) [
        | inl same ↦
            ap (kind_of new) same ∙ ap (λ (l : Logical). kind_of l k) is ∙ kind_same now k item.kind within
            ∙ ap (λ (x : Column). x.kind) (sym (popped_at all c.columns.columns.items rest inv.0 item inv.1 popped d)) ∙ ap (λ n. (get_or all n d).kind) (sym same)
        | inr other ↦
            ap (λ (l : Logical). kind_of l j) is ∙ kind_other now k j item.kind other
            ∙ inv.4 j d (omega (arith, high, other, ap length popped ∙ length-append rest (item ∷ []))) low
      ],
    )

pub returns-clause-same : goal.returns-clause-same
returns-clause-same c = c.columns.invariant.2

pub returns-clause-kinds : goal.returns-clause-kinds
returns-clause-kinds c =
    let none : length c.columns.columns.items ≡ 0 = search rules in
    λ k d within. c.columns.invariant.4 k d (omega (arith, none)) within
