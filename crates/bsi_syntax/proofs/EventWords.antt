-- The words of the other events begin no query.
use Rattle.std.proofs.Common.{◌≡◌, List, [], ◌∷◌, None, refl, codes}
use Rattle.bsi_syntax.specs.Events.{total_of}
use Rattle.bsi_rows.specs.Fields.{Field}
use Rattle.bsi_syntax.specs.Vocabularies.{Words}

pub no_submit_total : (words : Words) (rest : List Field) → total_of words (codes "submit" ∷ rest) ≡ None
no_submit_total words [] = refl
no_submit_total words (name ∷ rest) = refl

pub no_load_total : (words : Words) (rest : List Field) → total_of words (codes "load" ∷ rest) ≡ None
no_load_total words [] = refl
no_load_total words (name ∷ rest) = refl

pub no_close_total : (words : Words) (rest : List Field) → total_of words (codes "close" ∷ rest) ≡ None
no_close_total words [] = refl
no_close_total words (name ∷ rest) = refl
