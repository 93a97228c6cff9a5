-- Rows are what their feeders and their columns say.
use Rattle.std.proofs.Common.{◌≡◌, ℕ, ◌<◌, List, [], None, length, get_or, sym, ap, ap₂, ◌∙◌, arith}
use Rattle.std.proofs.lemmas.List.{ext_get_or, get_or-map, length-map}
use Rattle.std.proofs.lemmas.List.Elements.{All-get_or}
use Rattle.std.specs.Prelude.{IsTrue}
use Rattle.bsi_schema.specs.Columns.{fits, NamedColumn}
use Rattle.bsi_schema.proofs.Fitting.{fits-length}
use Rattle.bsi_rows.specs.Rows.{column_of, entry_at, feeders_of, Entries, SourcedRow}
use Rattle.bsi_rows.specs.Table.{AreFitting}

-- rows that fit are the same where each is of the same feeder, and each column is the same
pub same_rows : (declared : List NamedColumn) (xs ys : List SourcedRow) → AreFitting declared xs → AreFitting declared ys → feeders_of xs ≡ feeders_of ys
    → ((c : ℕ) → c < length declared → column_of xs c ≡ column_of ys c) → xs ≡ ys
same_rows declared xs ys fit_xs fit_ys fed same = ext_get_or none xs ys long each
  where
    none : SourcedRow
    none = (0, [])

    long : length xs ≡ length ys
    long = sym (length-map xs (λ row. row.0)) ∙ ap length fed ∙ length-map ys (λ row. row.0)

    wide : (rows : List SourcedRow) → AreFitting declared rows → (r : ℕ) → r < length rows → length (get_or rows r none).1 ≡ length declared
    wide rows fit r within = fits-length declared (get_or rows r none).1 (All-get_or (λ row. IsTrue (fits declared row.1)) rows r none within fit)

    each : (r : ℕ) → r < length xs → get_or xs r none ≡ get_or ys r none
    each r within =
        let there : r < length ys = omega (arith, within, long) in
        let feeder = sym (get_or-map (λ row. row.0) xs r none 0 within) ∙ ap (λ feeders. get_or feeders r 0) fed ∙ get_or-map (λ row. row.0) ys r none 0 there in
        let entries = ext_get_or None (get_or xs r none).1 (get_or ys r none).1 (wide xs fit_xs r within ∙ sym (wide ys fit_ys r there))
        (λ c below.
        sym (get_or-map (λ row. entry_at row.1 c) xs r none None within) ∙ ap (λ column. get_or column r None) (same c (omega (arith, below, wide xs fit_xs r within)))
        ∙ get_or-map (λ row. entry_at row.1 c) ys r none None there) in
        ap₂ (λ (feeder : ℕ) (row : Entries). (feeder, row)) feeder entries
