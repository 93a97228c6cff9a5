-- How many of the first rows a predicate selects, from what the spans say.
use Rattle.std.proofs.Common.{◌≡◌, ℕ, zero, suc, ◌+◌, ◌<◌, cond, List, map, refl, sym, ap, ◌∙◌, arith}
use Rattle.std.specs.Prelude.{count_by}
use Rattle.std.specs.List.{range_with_len}
use Rattle.std.proofs.lemmas.List.FromFn.{sum_by-map-range_with_len_more}
use Rattle.bsi_bits.specs.Packed.{bit_of, bits_of}
use Rattle.bsi_shift.specs.Shifted.{OffsetColumn}
use Rattle.bsi_rows.specs.declared.query.Pred.{Pred}
use Rattle.bsi_rows.specs.Rows.{holds}
use Rattle.bsi_table.specs.Encoded.{row_in, rows_in}
use Rattle.bsi_rows.proofs.BlockRows.{map_twice}

-- how many of the first n rows it selects
pub selected_before : List OffsetColumn → Pred → ℕ → ℕ
selected_before encoded pred n = count_by (λ b. b) (map (holds pred) (rows_in encoded n))

-- how many of the first n places of a span are set
set_before : ℕ → List ℕ → ℕ
set_before n span = count_by (λ b. b) (bits_of n span)

set_before_more : (n : ℕ) (span : List ℕ) → set_before (n + 1) span ≡ set_before n span + cond (bit_of span n) 1 0
unfolding set_before bits_of
set_before_more n span = sum_by-map-range_with_len_more (λ b. cond b 1 0) (bit_of span) 0 n n (omega arith)

selected_more : (encoded : List OffsetColumn) (pred : Pred) (n : ℕ) → selected_before encoded pred (n + 1) ≡ selected_before encoded pred n + cond (holds pred (row_in encoded n)) 1 0
unfolding selected_before rows_in
selected_more encoded pred n =
    ap (count_by (λ b. b)) (map_twice (holds pred) (row_in encoded) (range_with_len 0 (n + 1)))
    ∙ sum_by-map-range_with_len_more (λ b. cond b 1 0) (λ r. holds pred (row_in encoded r)) 0 n n (omega arith)
    ∙ ap (λ rows. count_by (λ b. b) rows + cond (holds pred (row_in encoded n)) 1 0) (sym (map_twice (holds pred) (row_in encoded) (range_with_len 0 n)))

none_set : (span : List ℕ) → set_before 0 span ≡ 0
unfolding set_before bits_of
none_set span = refl

-- a span of m rows, after the first n
pub counted_more : (encoded : List OffsetColumn) (pred : Pred) (n m : ℕ) (span : List ℕ)
    → ((p : ℕ) → p < m → bit_of span p ≡ holds pred (row_in encoded (n + p)))
    → selected_before encoded pred n + count_by (λ b. b) (bits_of m span) ≡ selected_before encoded pred (n + m)
unfolding set_before
counted_more encoded pred n zero span each =
    let next : n ≡ n + zero = omega arith in
    let same = ap (selected_before encoded pred) next in
    omega (arith, none_set span, same)
counted_more encoded pred n (suc m) span each =
    let one : m + 1 ≡ suc m = omega arith in
    let next : n + m + 1 ≡ n + suc m = omega arith in
    let before = counted_more encoded pred n m span (λ p below. each p (omega (arith, below))) in
    let here = set_before_more m span in
    let bit = ap {B = ℕ} (λ b. cond b 1 0) (each m (omega arith)) in
    let row = selected_more encoded pred (n + m) in
    let span_is = ap (λ j. count_by (λ b. b) (bits_of j span)) one in
    let rows_are = ap (selected_before encoded pred) next in
    omega (arith, before, here, bit, row, span_is, rows_are)

pub none_selected : (encoded : List OffsetColumn) (pred : Pred) → selected_before encoded pred 0 ≡ 0
unfolding selected_before rows_in
none_selected encoded pred = refl

pub all_selected : (encoded : List OffsetColumn) (pred : Pred) (n to count : ℕ) → n ≡ selected_before encoded pred to → to ≡ count
    → n ≡ count_by (λ b. b) (map (holds pred) (rows_in encoded count))
unfolding selected_before
all_selected encoded pred n to count is all = is ∙ ap (selected_before encoded pred) all
