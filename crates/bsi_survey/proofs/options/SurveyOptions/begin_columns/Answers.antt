use Rattle.std.proofs.Common.{◌≡◌, ◌∷◌, ◌++◌, [], ℕ, length, sym, subst, ap, ◌∙◌, arith, rules}
use Rattle.std.proofs.lemmas.List.{length-append}
use Rattle.bsi_inference.specs.declared.candidates.Candidates.{Candidates}
use Rattle.bsi_survey.specs.Looking.{start_at, IsLookedFor, IsNewBy}
use Rattle.bsi_survey.proofs.Lists.{each_more, AreEach}
use Rattle.bsi_survey.proofs.options.SurveyOptions.begin_columns.Goals as goal

-- one column more
pub columns-preserved : goal.columns-preserved
columns-preserved c =
    let before = c.columns.columns.items in
    let one = c.in_ok-column.column in
    let P : ℕ → Candidates → Type 0 = λ k column. IsNewBy c.args.self.now.dialect.point c.args.self.now.order (start_at c.args.self.now.starts.items k) column
    × IsLookedFor c.args.self.now.dialect.point (start_at c.args.self.now.starts.items k) column in
    let is : c.push.new.self.items ≡ before ++ one ∷ [] = search rules in
    record {
      len = ap length is ∙ length-append before (one ∷ []) ∙ omega (arith, c.columns.invariant.len);
      each = subst (AreEach P) (sym is) (each_more P before one c.columns.invariant.each
          (subst (λ (k : ℕ). P k one) (sym c.columns.invariant.len) (c.in_ok-column.ensures.begun, c.in_ok-column.ensures.looked)));
    }

pub returns-clause-begun : goal.returns-clause-begun
returns-clause-begun c = λ k d within. (c.columns.invariant.each.each k d within).0

pub returns-clause-looked : goal.returns-clause-looked
returns-clause-looked c = λ k d within. (c.columns.invariant.each.each k d within).1
