use Rattle.std.proofs.Common.{◌≡◌, ℕ, List, [], subst, sym, ◌∙◌}
use Rattle.bsi_inference.specs.declared.candidates.Candidates.{Candidates}
use Rattle.bsi_logical.specs.declared.dialect.Dialect.{Dialect}
use Rattle.bsi_survey.specs.Looking.{AreLookedFor}
use Rattle.bsi_survey.specs.declared.options.ColumnStart.{ColumnStart}
use Rattle.bsi_test_text.proofs.surveying.describe_two_once.Goals as goal

-- nothing is said of the columns
looks : (point : ℕ) (starts : List ColumnStart) (columns : List Candidates) → starts ≡ [] → AreLookedFor point starts columns → AreLookedFor point [] columns
looks point starts columns none looked = subst (λ (ss : List ColumnStart). AreLookedFor point ss columns) none looked

-- so both surveys look for each kind
pub join-requires : goal.join-requires
join-requires c = record {
  point = c.options_of-options.result.dialect.point;
  first = λ i d within. looks _ _ _ c.options_of-options.ensures c.in-Ok.ensures.looked i d within;
  second = λ i d within. looks _ _ _ c.options_of-options.ensures c.in-Ok-read.ensures.looked i d within;
}

pub describe-requires : goal.describe-requires
describe-requires c = record {
  starts = [];
  each = subst (λ (e : Dialect). AreLookedFor e.point [] c.join.new.self.columns.items) (sym (c.in-Ok-join.ensures.dialect ∙ c.in-Ok.ensures.dialect))
      (λ i d within. c.in-Ok-join.ensures.looked c.options_of-options.result.dialect.point
      (λ j e inside. looks _ _ _ c.options_of-options.ensures c.in-Ok.ensures.looked j e inside) i d within);
}
