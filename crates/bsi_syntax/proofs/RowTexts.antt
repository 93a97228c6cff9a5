-- The text of rows, row by row.
use Rattle.std.proofs.Common.{◌≡◌, ℕ, ◌+◌, ◌<◌, ◌≤◌, List, ◌++◌, length, get_or, drop, codes, decimal, sym, ◌∙◌, ap}
use Rattle.std.proofs.lemmas.List.{at_drop_more, at_drop_all, append_assoc, append-nil}
use Rattle.bsi_syntax.specs.Lines.{rows_text}

-- the text after one more row
pub rows_more : (rows : List (ℕ × ℕ)) (i : ℕ) (d : ℕ × ℕ) (before line next : List ℕ) → i < length rows
    → next ≡ line ++ (codes " " ++ decimal (get_or rows i d).0 ++ codes ":" ++ decimal (get_or rows i d).1)
    → line ++ rows_text (drop i rows) ≡ before ++ rows_text rows → next ++ rows_text (drop (i + 1) rows) ≡ before ++ rows_text rows
unfolding rows_text
rows_more rows i d before line next within written so_far =
    let row = codes " " ++ decimal (get_or rows i d).0 ++ codes ":" ++ decimal (get_or rows i d).1 in
    ap (λ xs. xs ++ rows_text (drop (i + 1) rows)) written ∙ append_assoc line row (rows_text (drop (i + 1) rows))
    ∙ ap (λ xs. line ++ xs) (sym (at_drop_more rows_text rows i d within)) ∙ so_far

-- all rows were written
pub rows_all : (rows : List (ℕ × ℕ)) (i : ℕ) (before line : List ℕ) → length rows ≤ i
    → line ++ rows_text (drop i rows) ≡ before ++ rows_text rows → line ≡ before ++ rows_text rows
unfolding rows_text
rows_all rows i before line all so_far = sym (append-nil line) ∙ ap (λ xs. line ++ xs) (sym (at_drop_all rows_text rows i all)) ∙ so_far
