-- The schema of all columns: each field that was accepted is good by it.
use Rattle.std.proofs.Common.{◌≡◌, ℕ, zero, suc, ◌<◌, ◌≤◌, All, List, [], ◌∷◌, length, get_or, Result, Ok, Err, IfOk, refl, sym, subst, ◌∙◌, arith}
use Rattle.bsi_rows.specs.Fields.{Field}
use Rattle.bsi_kinds.specs.Kinds.{IsKind}
use Rattle.bsi_inference.specs.ColumnCandidates.{Accepts}
use Rattle.bsi_inference.specs.Decisions.{HasKind}
use Rattle.bsi_inference.specs.declared.candidates.Candidates.{Candidates}
use Rattle.bsi_inference.specs.declared.decision.Column.{Column}
use Rattle.bsi_inference.specs.declared.decision.Decision.{Decision}
use Rattle.bsi_inference.specs.declared.decision.Decision.TheVariants.{Column as DecidedColumn, Doubt as InDoubt, Nulls}
use Rattle.bsi_logical.specs.Logical.{Logical}
use Rattle.bsi_logical.specs.declared.dialect.Dialect.{Dialect}
use Rattle.bsi_survey.specs.Decided.{AreColumnsOf, AreDecided, IsColumnOf}
use Rattle.bsi_survey.specs.declared.options.ColumnStart.{ColumnStart}
use Rattle.bsi_survey.specs.Looking.{start_at, AreLookedFor, IsLookedFor}
use Rattle.bsi_survey.specs.Made.{AreStoredFor, HasKindsOf, HasNullsOf, IsGoodField}
use Rattle.bsi_survey.proofs.Good.{good, IsPlaced}

-- the element at an index, whatever would be read past the end
pub record IsAt {X : Type 0} (xs : List X) (k : ℕ) : Type 0 where
  pub item : X
  pub is : (d : X) → get_or xs k d ≡ item

pub at_of : {X : Type 0} (xs : List X) (k : ℕ) → k < length xs → IsAt xs k
at_of [] k within = absurd (omega (arith, within))
at_of (x ∷ xs) zero within = record { item = x; is = λ d. refl }
at_of (x ∷ xs) (suc k) within =
    let rest = at_of xs k (omega (arith, within)) in
    record { item = rest.item; is = rest.is }

column_kind : (d : Decision) (column : Column) → HasKind d → IsColumnOf d column → IsKind column.kind
column_kind (DecidedColumn decided) column has of = subst (λ (c : Column). IsKind c.kind) (sym of.0) has
column_kind (Nulls words) column has of = let few : 0 ≤ 18 = omega arith in subst IsKind (sym of.kind) few
column_kind (InDoubt doubt) column has of = absurd of

module _ (cands : List Candidates) (decisions : List Decision) (columns : List Column) (decided : AreDecided cands decisions) (listed : AreColumnsOf decisions columns) where
  -- the kinds are ones that columns may have
  pub kinds_valid : All (λ (column : Column). IsKind column.kind) columns
  kinds_valid = λ k d within.
      let low : k < length decisions = omega (arith, within, listed.len) in
      let first : k < length cands = omega (arith, low, decided.len) in
      let decision = at_of decisions k low in
      let cand = at_of cands k first in
      let is = decided.each k cand.item decision.item first in
      let of = listed.each k decision.item d low in
      column_kind (get_or decisions k decision.item) (get_or columns k d) is.kind of

  pub columns_len : length columns ≡ length cands
  columns_len = listed.len ∙ decided.len

  module _ (dialect : Dialect) (starts : List ColumnStart) (looks : AreLookedFor dialect.point starts cands) where
    schema_good : (l : Logical) → AreStoredFor columns l.schema → l.dialect ≡ dialect → HasKindsOf columns l → All (HasNullsOf l.nulls) columns
        → (c : ℕ) (d : Candidates) → c < length cands → (f : Field) → Accepts (get_or cands c d) f → IsGoodField l c f
    schema_good l stored same kinds nulls c d within f accepts =
        let low : c < length decisions = omega (arith, within, decided.len) in
        let last : c < length columns = omega (arith, low, listed.len) in
        let decision = at_of decisions c low in
        let column = at_of columns c last in
        let placed : IsPlaced l c (get_or columns c column.item) = record {
          kind = kinds c column.item last;
          stored = stored.each c column.item last;
          nulls = nulls c column.item last;
        } in
        let own : IsLookedFor l.dialect.point (start_at starts c) (get_or cands c d) =
        subst (λ (e : Dialect). IsLookedFor e.point (start_at starts c) (get_or cands c d)) (sym same) (looks c d within) in
        good l c (start_at starts c) (get_or cands c d) own (get_or decisions c decision.item) (get_or columns c column.item)
        (decided.each c d decision.item within) (listed.each c decision.item column.item low) placed f accepts

    pub all_good : {E : Type 0} (r : Result Logical E) → IfOk r (λ l. AreStoredFor columns l.schema) → IfOk r (λ l. l.dialect ≡ dialect) → IfOk r (HasKindsOf columns)
        → IfOk r (λ l. All (HasNullsOf l.nulls) columns)
        → IfOk r (λ l. (c : ℕ) → (d : Candidates) → c < length cands → (f : Field) → Accepts (get_or cands c d) f → IsGoodField l c f)
    all_good (Ok l) stored same kinds nulls = schema_good l stored same kinds nulls
    all_good (Err e) stored same kinds nulls = tt

  pub schema_len : {E : Type 0} (r : Result Logical E) → IfOk r (λ l. AreStoredFor columns l.schema) → IfOk r (λ l. length l.schema.columns ≡ length cands)
  schema_len (Ok l) stored = stored.len ∙ columns_len
  schema_len (Err e) stored = tt
