-- When an index of a schema and a limit is not refused.
use Rattle.std.proofs.Common.{◌≡◌, ℕ, ◌<◌, ◌≤◌, Bool, true, false, length, refl, arith}
use Rattle.std.specs.Prelude.{None, nat_eq}
use Rattle.std.proofs.lemmas.Bool.Decides.{nat_tests}
use Rattle.bsi_schema.specs.Columns.{Declared}
use Rattle.bsi_rows.specs.Refusals.{index_refusal}
use Rattle.bsi_rows.specs.Table.{max_rows}

pub not_refused : (schema : Declared) (limit : ℕ) → 0 < length schema.columns → 1 ≤ limit → limit ≤ max_rows → index_refusal schema limit ≡ None
not_refused schema limit some least most = grind (arith, nat_tests)

pub some_columns : (schema : Declared) (limit : ℕ) → index_refusal schema limit ≡ None → 0 < length schema.columns
some_columns schema limit accepted = by (nat_eq (length schema.columns) 0) refl
  where
    by : (b : Bool) → nat_eq (length schema.columns) 0 ≡ b → 0 < length schema.columns
    by true zero = absurd (let same = accepted in cc (same, zero))
    by false some = grind (arith, nat_tests, some)

pub limit_within : (schema : Declared) (limit : ℕ) → index_refusal schema limit ≡ None → (1 ≤ limit) × (limit ≤ max_rows)
limit_within schema limit accepted = (grind (arith, nat_tests, accepted), grind (arith, nat_tests, accepted))
