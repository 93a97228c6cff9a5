-- The checksum of words by four lanes (`lanes_of`), which a processor works on side by side.
use Rattle.std.specs.Prelude.{ℕ, List, [], ◌∷◌, length}
use Rattle.bsi_segments.specs.Segments.{checksum_from, checksum_step}

-- Each word goes into the first lane, which then stands last. At the end the other lanes go into the first.
unfoldable pub lanes_from : ℕ → ℕ → ℕ → ℕ → List ℕ → ℕ
lanes_from a b c d [] = checksum_from a (b ∷ c ∷ d ∷ [])
lanes_from a b c d (word ∷ words) = lanes_from b c d (checksum_step a word) words

-- The lanes begin with the number of words, 1, 2 and 3.
abbrev pub lanes_of : List ℕ → ℕ
lanes_of words = lanes_from (length words) 1 2 3 words
