use Rattle.std.proofs.Common.{ℕ, List, Vec, Global, map, arith, below_more}
use Rattle.std.proofs.lemmas.List.{length-map}
use Rattle.bsi_survey.specs.Titles.{IsRepeated}
use Rattle.bsi_survey.proofs.Distinct.{distinct_if}
use Rattle.bsi_survey.proofs.repeated.find_repeated.Goals as goal

-- the first that is repeated
pub returns-then-is_repeated-clause-some : goal.returns-then-is_repeated-clause-some
returns-then-is_repeated-clause-some c =
    let seen : Vec ℕ Global → List ℕ = λ title. title.items in
    record {
      within = omega (arith, c.columns-test.true, length-map c.args.titles.now seen);
      repeated = c.is_repeated.ensures.0 c.if-is_repeated.true;
      first = c.columns.invariant;
    }

-- one column more
pub columns-preserved : goal.columns-preserved
columns-preserved c =
    let seen : Vec ℕ Global → List ℕ = λ title. title.items in
    below_more (λ k. IsRepeated (map seen c.args.titles.now) k → ⊥) c.columns.c c.columns.invariant
    (λ is. let yes = c.is_repeated.ensures.1 is in let no = c.if-is_repeated.false in absurd (cc))

-- no column is repeated
pub returns-clause-none : goal.returns-clause-none
returns-clause-none c =
    let seen : Vec ℕ Global → List ℕ = λ title. title.items in
    distinct_if (map seen c.args.titles.now)
    (λ k within. c.columns.invariant k (omega (arith, within, c.columns-test.false, length-map c.args.titles.now seen)))
