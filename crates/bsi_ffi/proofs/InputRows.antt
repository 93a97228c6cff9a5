-- Rows of columns, block by block.
use Rattle.std.proofs.Common.{◌≡◌, ◌<◌, ℕ, ◌+◌, List, [], ◌∷◌, ◌++◌, true, refl, ap, sym, subst, ◌∙◌, zero, suc, arith, append_assoc}
use Rattle.std.specs.Prelude.{IsTrue}
use Rattle.std.proofs.lemmas.List.{append-nil}
use Rattle.std.proofs.lemmas.List.FromFn.{map-range_with_len_more}
use Rattle.std.proofs.lemmas.List.Elements.{All-nil, All-push}
use Rattle.bsi_schema.specs.Columns.{fits, NamedColumn}
use Rattle.bsi_rows.specs.Rows.{SourcedRow}
use Rattle.bsi_rows.specs.Table.{with_rows, AreFitting, AreFrom, Table}
use Rattle.bsi_ffi.specs.declared.columns.ColumnInput.{ColumnInput}
use Rattle.bsi_ffi.specs.Columns.{input_rows, row_of}

-- one row more
input_rows-more : (feeder : ℕ) (columns : List ColumnInput) (from n : ℕ)
    → input_rows feeder columns from (n + 1) ≡ input_rows feeder columns from n ++ (feeder, row_of columns (from + n)) ∷ []
unfolding input_rows
input_rows-more feeder columns from n = map-range_with_len_more (λ r. (feeder, row_of columns r)) from n (from + n) refl

-- no row
input_rows-none : (feeder : ℕ) (columns : List ColumnInput) (from : ℕ) → input_rows feeder columns from 0 ≡ []
unfolding input_rows
input_rows-none feeder columns from = refl

-- a block behind another
pub input_rows-append : (feeder : ℕ) (columns : List ColumnInput) (from a b : ℕ)
    → input_rows feeder columns from (a + b) ≡ input_rows feeder columns from a ++ input_rows feeder columns (from + a) b
input_rows-append feeder columns from a zero =
    let none : a + 0 ≡ a = omega arith in
    ap (input_rows feeder columns from) none ∙ sym (ap (λ (more : List SourcedRow). input_rows feeder columns from a ++ more) (input_rows-none feeder columns (from + a)) ∙ append-nil _)
input_rows-append feeder columns from a (suc b) =
    let next : a + suc b ≡ a + b + 1 = omega arith in
    let last : from + (a + b) ≡ from + a + b = omega arith in
    let one : b + 1 ≡ suc b = omega arith in
    ap (input_rows feeder columns from) next ∙ input_rows-more feeder columns from (a + b)
    ∙ ap (λ (rows : List SourcedRow). rows ++ (feeder, row_of columns (from + (a + b))) ∷ []) (input_rows-append feeder columns from a b)
    ∙ append_assoc (input_rows feeder columns from a) (input_rows feeder columns (from + a) b) ((feeder, row_of columns (from + (a + b))) ∷ [])
    ∙ ap (λ (rows : List SourcedRow). input_rows feeder columns from a ++ rows)
    (ap (λ (r : ℕ). input_rows feeder columns (from + a) b ++ (feeder, row_of columns r) ∷ []) last
    ∙ sym (input_rows-more feeder columns (from + a) b) ∙ ap (input_rows feeder columns (from + a)) one)

-- an index with no row more
pub with_none : (t : Table) (feeder : ℕ) (columns : List ColumnInput) → with_rows t (input_rows feeder columns 0 0) ≡ t
with_none t feeder columns =
    ap (λ (more : List SourcedRow). record t { rows = t.rows ++ more }) (input_rows-none feeder columns 0) ∙ ap (λ (rows : List SourcedRow). record t { rows = rows }) (append-nil t.rows)

-- an index with a block more
pub with_block : (t u v : Table) (feeder : ℕ) (columns : List ColumnInput) (a b c : ℕ)
    → u ≡ with_rows t (input_rows feeder columns 0 a) → v ≡ with_rows u (input_rows feeder columns a b) → a + b ≡ c
    → v ≡ with_rows t (input_rows feeder columns 0 c)
with_block t u v feeder columns a b c first next all =
    let zero_first : 0 + a ≡ a = omega arith in
    next ∙ ap (λ (w : Table). with_rows w (input_rows feeder columns a b)) first
    ∙ ap (λ (rows : List SourcedRow). record t { rows = rows }) (append_assoc t.rows (input_rows feeder columns 0 a) (input_rows feeder columns a b))
    ∙ ap (λ (rows : List SourcedRow). record t { rows = t.rows ++ rows })
    (ap (λ (r : ℕ). input_rows feeder columns 0 a ++ input_rows feeder columns r b) (sym zero_first) ∙ sym (input_rows-append feeder columns 0 a b) ∙ ap (input_rows feeder columns 0) all)

-- rows that fit
pub fitting-input_rows : (declared : List NamedColumn) (feeder : ℕ) (columns : List ColumnInput) (from n : ℕ)
    → ((r : ℕ) → r < from + n → fits declared (row_of columns r) ≡ true) → AreFitting declared (input_rows feeder columns from n)
fitting-input_rows declared feeder columns from zero each =
    subst (AreFitting declared) (sym (input_rows-none feeder columns from)) (All-nil (λ (row : SourcedRow). IsTrue (fits declared row.1)))
fitting-input_rows declared feeder columns from (suc n) each =
    let one : suc n ≡ n + 1 = omega arith in
    subst (AreFitting declared) (sym (ap (input_rows feeder columns from) one ∙ input_rows-more feeder columns from n))
    (All-push (λ (row : SourcedRow). IsTrue (fits declared row.1)) (input_rows feeder columns from n) (feeder, row_of columns (from + n))
    (fitting-input_rows declared feeder columns from n (λ r within. each r (omega (arith, within)))) (each (from + n) (omega arith)))

-- rows of a feeder that there is
pub from-input_rows : (feeders feeder : ℕ) (columns : List ColumnInput) (from n : ℕ) → feeder < feeders → AreFrom feeders (input_rows feeder columns from n)
from-input_rows feeders feeder columns from zero there =
    subst (AreFrom feeders) (sym (input_rows-none feeder columns from)) (All-nil (λ (row : SourcedRow). row.0 < feeders))
from-input_rows feeders feeder columns from (suc n) there =
    let one : suc n ≡ n + 1 = omega arith in
    subst (AreFrom feeders) (sym (ap (input_rows feeder columns from) one ∙ input_rows-more feeder columns from n))
    (All-push (λ (row : SourcedRow). row.0 < feeders) (input_rows feeder columns from n) (feeder, row_of columns (from + n)) (from-input_rows feeders feeder columns from n there) there)
