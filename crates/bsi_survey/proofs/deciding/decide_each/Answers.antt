use Rattle.std.proofs.Common.{◌≡◌, ◌+◌, ◌∷◌, ◌++◌, [], ℕ, length, get_or, sym, subst, ap, ◌∙◌, arith, rules}
use Rattle.std.proofs.lemmas.Iterator.Adapters.{YieldsList-from_vec}
use Rattle.std.proofs.lemmas.Iterator.Consumers.{YieldsList-end, YieldsList-turn}
use Rattle.std.proofs.lemmas.List.{length-append}
use Rattle.bsi_inference.specs.declared.candidates.Candidates.{Candidates}
use Rattle.bsi_inference.specs.declared.decision.Decision.{Decision}
use Rattle.bsi_survey.specs.Decided.{IsDecided}
use Rattle.bsi_survey.proofs.Lists.{each_more, read_at, AreEach}
use Rattle.bsi_survey.proofs.deciding.decide_each.Goals as goal

-- one column more
pub columns-preserved : goal.columns-preserved
columns-preserved c =
    let all = c.args.columns.items in
    let item = c.in-Some.column in
    let one = c.in_ok-decision.decision in
    let turn = YieldsList-turn (YieldsList-from_vec {s = c.into_iter-column-iterator.result} all (search rules) (search rules))
    c.columns.yielded c.columns.column-iterator c.columns.yielded_by c.next.result c.next.new.self item c.in-Some.is c.next.ensures.steps in
    let P : ℕ → Decision → Type 0 = λ k decision. (d : Candidates) → IsDecided (get_or all k d) decision in
    let is : c.push.new.self.items ≡ c.columns.decisions.items ++ one ∷ [] = search rules in
    let decided : IsDecided item one = record { accepts = c.in_ok-decision.ensures.accepts; kind = c.in_ok-decision.ensures.kind; meant = c.in_ok-decision.ensures.meant } in
    let here : P (length c.columns.yielded) one = λ d. subst (λ (x : Candidates). IsDecided x one) (sym (read_at all (length c.columns.yielded) item turn.0 turn.1 d)) decided in
    record {
      len = ap length is ∙ length-append c.columns.decisions.items (one ∷ []) ∙ ap (λ n. n + 1) c.columns.invariant.len ∙ sym (length-append c.columns.yielded (item ∷ []));
      decided = subst (AreEach P) (sym is) (each_more P c.columns.decisions.items one c.columns.invariant.decided (subst (λ (k : ℕ). P k one) (sym c.columns.invariant.len) here));
    }

pub returns : goal.returns
returns c =
    let extreme = YieldsList-end (YieldsList-from_vec {s = c.into_iter-column-iterator.result} c.args.columns.items (search rules) (search rules))
    c.columns.yielded c.columns.column-iterator c.columns.yielded_by c.next.result c.next.new.self c.in-None.is c.next.ensures.steps in
    record {
      len = c.columns.invariant.len ∙ extreme.1;
      each = λ k d e within. c.columns.invariant.decided.each k e (omega (arith, within, extreme.1, c.columns.invariant.len)) d;
    }
