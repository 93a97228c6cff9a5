use Rattle.std.proofs.Common.{inl, inr, get_or, sym, subst, ap, ◌∙◌, arith}
use Rattle.std.proofs.lemmas.Bool.{cases_eq}
use Rattle.bsi_inference.specs.declared.decision.Column.{Column}
use Rattle.bsi_survey.specs.Made.{HasNullsOf}
use Rattle.bsi_survey.proofs.Lists.{read_at}
use Rattle.bsi_survey.proofs.Saying.{adds_none, adds_then, nulls_still}
use Rattle.bsi_survey.proofs.making.add_nulls.Goals as goal

pub columns-init : goal.columns-init
columns-init c = record { adds = adds_none c.args.logical.now; nulls = λ k d low. absurd (omega (arith, low)) }

-- one column more
pub columns-preserved : goal.columns-preserved
columns-preserved c =
    let i = c.columns.column-index in
    let now = c.columns.logical in
    let new = c.add_column_nulls.new.logical in
    let adds = c.in_ok-add_column_nulls.ensures.adds in
    record {
      adds = adds_then c.args.logical.now now new c.columns.invariant.adds adds;
      nulls = λ k d low. elim (cases_eq k i) [
        | inl same ↦ subst (λ (x : Column). HasNullsOf new.nulls x)
            (sym (ap (λ n. get_or c.args.columns.now n d) same ∙ read_at c.args.columns.now i c.column-item.result (omega arith) c.column-item.is d))
            c.in_ok-add_column_nulls.ensures.nulls
        | inr other ↦ nulls_still now new (get_or c.args.columns.now k d) adds (c.columns.invariant.nulls k d (omega arith))
      ];
    }

pub returns-clause-adds : goal.returns-clause-adds
returns-clause-adds c = c.columns.invariant.adds

pub returns-clause-nulls : goal.returns-clause-nulls
returns-clause-nulls c = λ k d within. c.columns.invariant.nulls k d (omega arith)
