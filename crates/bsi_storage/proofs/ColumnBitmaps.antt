-- The words of bitmaps, one after another.
use Rattle.std.proofs.Common.{◌≡◌, ℕ, Bool, List, [], ◌∷◌, ◌++◌, sym, ap, ◌∙◌, append_assoc, append-nil}
use Rattle.std.specs.List.{flat_map}
use Rattle.std.proofs.lemmas.Grind.{flat_map-append}
use Rattle.bsi_segments.specs.Bitmaps.{packed}

-- further bitmaps
pub words-more : (old : List ℕ) (maps more : List (List Bool)) → (old ++ flat_map packed maps) ++ flat_map packed more ≡ old ++ flat_map packed (maps ++ more)
words-more old maps more =
    append_assoc old (flat_map packed maps) (flat_map packed more) ∙ ap (λ ws. old ++ ws) (sym (flat_map-append packed maps more))

-- one further bitmap
pub words-push : (old : List ℕ) (maps : List (List Bool)) (bits : List Bool) → (old ++ flat_map packed maps) ++ packed bits ≡ old ++ flat_map packed (maps ++ bits ∷ [])
words-push old maps bits = ap (λ ws. (old ++ flat_map packed maps) ++ ws) (sym (append-nil (packed bits))) ∙ words-more old maps (bits ∷ [])
