use Rattle.std.proofs.Common.{◌≡◌, ◌<◌, ◌+◌, ℕ, ◌++◌, [], ◌∷◌, length, get_or, set, option_to_list, append-nil, arith, sym, subst, ap, rules, ◌∙◌}
use Rattle.std.proofs.lemmas.List.{length-append}
use Rattle.bsi_inference.specs.ColumnCandidates.{Accepts}
use Rattle.bsi_inference.specs.declared.candidates.Candidates.{Candidates}
use Rattle.bsi_survey.specs.Looking.{HasJoined, IsGrown}
use Rattle.bsi_survey.proofs.Growing.{behind_at, behind_grown, behind_none, behind_weaker, joined, AreBehind, IsJoinedWith}
use Rattle.bsi_survey.proofs.Lists.{popped_all, popped_at, popped_len}
use Rattle.bsi_survey.proofs.joining.join_each.Goals as goal

pub columns-init : goal.columns-init
columns-init c = (
  [],
  sym (append-nil c.args.others.items),
  subst (λ (i : ℕ). AreBehind (IsJoinedWith c.args.others.items) c.args.columns.now c.args.columns.now i) (sym c.requires.len)
      (behind_none (IsJoinedWith c.args.others.items) c.args.columns.now),
)

-- one column more
pub columns-preserved : goal.columns-preserved
columns-preserved c =
    let all = c.args.others.items in
    let inv = c.columns.invariant in
    let items = c.columns.others.items in
    let rest = c.pop.new.self.items in
    let item = c.in-Some.other in
    let old = c.args.columns.now in
    let now = c.columns.columns in
    let here = get_or c.columns.columns c.len-c.result c.index-columns-c.result in
    let new = c.join.new.self in
    let popped : items ≡ rest ++ item ∷ [] = c.pop.ensures.items ∙ ap (λ o. rest ++ option_to_list o) c.in-Some.is in
    let number : c.len-c.result ≡ length c.pop.new.self.items = search rules in
    let long : length items ≡ c.len-c.result + 1 = ap length popped ∙ length-append rest (item ∷ []) ∙ ap (λ n. n + 1) (sym number) in
    let behind : AreBehind (IsJoinedWith all) old now (c.len-c.result + 1) = subst (λ (i : ℕ). AreBehind (IsJoinedWith all) old now i) long inv.2 in
    let within : c.len-c.result < length c.columns.columns =
    omega (arith, number, popped_len all items rest inv.0 item inv.1 popped, inv.2.len, c.requires.len) in
    let other : (d : Candidates) → get_or all c.len-c.result d ≡ item = λ d. ap (λ n. get_or all n d) number ∙ popped_at all items rest inv.0 item inv.1 popped d in
    let step : IsJoinedWith all c.len-c.result here new = record {
      grown = joined here item new c.in_ok-join.ensures.alike c.in_ok-join.ensures.kinds c.in_ok-join.ensures.preserved;
      joined = λ d f accepts. c.in_ok-join.ensures.joined f (subst (λ (x : Candidates). Accepts x f) (other d) accepts);
      has = λ d. subst (λ (x : Candidates). HasJoined here x new) (sym (other d))
          (record { kinds = c.in_ok-join.ensures.kinds; missing = c.in_ok-join.ensures.missing; only = c.in_ok-join.ensures.only });
    } in (
      item ∷ inv.0,
      popped_all all items rest inv.0 item inv.1 popped,
      subst (λ (i : ℕ). AreBehind (IsJoinedWith all) old (set now c.len-c.result new) i) number
          (behind_at (IsJoinedWith all) old now c.len-c.result c.index-columns-c.result new behind within step),
    )

pub returns-clause-grown : goal.returns-clause-grown
returns-clause-grown c =
    behind_grown c.args.columns.now c.columns.columns (length c.columns.others.items)
    (behind_weaker (IsJoinedWith c.args.others.items) (λ k a b. IsGrown a b) c.args.columns.now c.columns.columns (length c.columns.others.items) (λ k a b done. done.grown) c.columns.invariant.2)

-- the columns have grown, if memory is refused too
pub returns-in_err-join-clause-grown : goal.returns-in_err-join-clause-grown
returns-in_err-join-clause-grown c =
    let all = c.args.others.items in
    let inv = c.columns.invariant in
    let items = c.columns.others.items in
    let rest = c.pop.new.self.items in
    let item = c.in-Some.other in
    let old = c.args.columns.now in
    let now = c.columns.columns in
    let here = get_or c.columns.columns c.len-c.result c.index-columns-c.result in
    let new = c.join.new.self in
    let popped : items ≡ rest ++ item ∷ [] = c.pop.ensures.items ∙ ap (λ o. rest ++ option_to_list o) c.in-Some.is in
    let number : c.len-c.result ≡ length c.pop.new.self.items = search rules in
    let long : length items ≡ c.len-c.result + 1 = ap length popped ∙ length-append rest (item ∷ []) ∙ ap (λ n. n + 1) (sym number) in
    let behind : AreBehind (λ k a b. IsGrown a b) old now (c.len-c.result + 1) = subst (λ (i : ℕ). AreBehind (λ k a b. IsGrown a b) old now i) long
    (behind_weaker (IsJoinedWith all) (λ k a b. IsGrown a b) old now (length items) (λ k a b done. done.grown) inv.2) in
    let within : c.len-c.result < length c.columns.columns =
    omega (arith, number, popped_len all items rest inv.0 item inv.1 popped, inv.2.len, c.requires.len) in
    behind_grown old (set now c.len-c.result new) c.len-c.result
    (behind_at (λ k a b. IsGrown a b) old now c.len-c.result c.index-columns-c.result new behind within
    (joined here item new c.in_err-join.ensures.alike c.in_err-join.ensures.kinds c.in_err-join.ensures.preserved))

-- all others are joined
pub returns-clause-joined : goal.returns-clause-joined
returns-clause-joined c =
    let inv = c.columns.invariant in
    let none : length c.columns.others.items ≡ 0 = search rules in
    record {
      len = inv.2.len ∙ sym c.requires.len;
      each = λ j d within. (inv.2.done j d (omega (arith, none)) (omega (arith, within, c.requires.len))).joined d;
    }

pub returns-clause-kinds : goal.returns-clause-kinds
returns-clause-kinds c =
    let inv = c.columns.invariant in
    let none : length c.columns.others.items ≡ 0 = search rules in
    record {
      len = inv.2.len;
      each = λ j d within. (inv.2.done j d (omega (arith, none)) within).has d;
    }
