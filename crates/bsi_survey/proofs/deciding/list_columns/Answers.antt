use Rattle.std.proofs.Common.{◌≡◌, ◌+◌, ◌∷◌, ◌++◌, [], ℕ, length, get_or, sym, subst, ap, ◌∙◌, arith, rules}
use Rattle.std.proofs.lemmas.Iterator.Adapters.{YieldsList-from_vec}
use Rattle.std.proofs.lemmas.Iterator.Consumers.{YieldsList-end, YieldsList-turn}
use Rattle.std.proofs.lemmas.List.{length-append}
use Rattle.bsi_inference.specs.declared.decision.Column.{Column}
use Rattle.bsi_inference.specs.declared.decision.Decision.{Decision}
use Rattle.bsi_survey.specs.Decided.{IsColumnOf}
use Rattle.bsi_survey.proofs.Lists.{each_more, read_at, AreEach}
use Rattle.bsi_survey.proofs.deciding.list_columns.Goals as goal

-- one decision more
pub decisions-preserved : goal.decisions-preserved
decisions-preserved c =
    let all = c.args.decisions.items in
    let item = c.in-Some.decision in
    let one = c.in-Some-column_of.column in
    let turn = YieldsList-turn (YieldsList-from_vec {s = c.into_iter-decision-iterator.result} all (search rules) (search rules))
    c.decisions.yielded c.decisions.decision-iterator c.decisions.yielded_by c.next.result c.next.new.self item c.in-Some.is c.next.ensures.steps in
    let P : ℕ → Column → Type 0 = λ k column. (d : Decision) → IsColumnOf (get_or all k d) column in
    let is : c.push.new.self.items ≡ c.decisions.columns.items ++ one ∷ [] = search rules in
    let here : P (length c.decisions.yielded) one = λ d. subst (λ (x : Decision). IsColumnOf x one) (sym (read_at all (length c.decisions.yielded) item turn.0 turn.1 d)) c.in-Some-column_of.ensures in
    record {
      len = ap length is ∙ length-append c.decisions.columns.items (one ∷ []) ∙ ap (λ n. n + 1) c.decisions.invariant.len ∙ sym (length-append c.decisions.yielded (item ∷ []));
      listed = subst (AreEach P) (sym is) (each_more P c.decisions.columns.items one c.decisions.invariant.listed (subst (λ (k : ℕ). P k one) (sym c.decisions.invariant.len) here));
    }

pub returns : goal.returns
returns c =
    let extreme = YieldsList-end (YieldsList-from_vec {s = c.into_iter-decision-iterator.result} c.args.decisions.items (search rules) (search rules))
    c.decisions.yielded c.decisions.decision-iterator c.decisions.yielded_by c.next.result c.next.new.self c.in-None.is c.next.ensures.steps in
    record {
      len = c.decisions.invariant.len ∙ extreme.1;
      each = λ k d e within. c.decisions.invariant.listed.each k e (omega (arith, within, extreme.1, c.decisions.invariant.len)) d;
    }
