use Rattle.std.proofs.Common.{List, ℕ, subst, sym, ◌∙◌}
use Rattle.std.specs.List.{Contains}
use Rattle.bsi_inference.proofs.Inserting.{found, is_found}
use Rattle.bsi_inference.proofs.text_set.TextSet.contains.Goals as goal

pub returns : goal.returns
returns c = (
  λ is. subst (λ (ts : List (List ℕ)). Contains ts c.args.text.now) c.self.view_is (found (λ t. t.items) c.args.text.now c.self.inside.texts.keys (sym c.contains.ensures ∙ is)),
  λ has. c.contains.ensures ∙ is_found (λ t. t.items) c.args.text.now c.self.inside.texts.keys (subst (λ (ts : List (List ℕ)). Contains ts c.args.text.now) (sym c.self.view_is) has),
)
