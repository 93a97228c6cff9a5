-- The titles of columns: no two are the same (`AreDistinct`), or one stands before, too.
use Rattle.std.specs.Prelude.{◌≡◌, ℕ, ◌<◌, List, [], length, slice_index_or}
use Rattle.bsi_rows.specs.Fields.{Field}

-- The title of column c.
abbrev pub title_in : List Field → ℕ → Field
title_in titles c = slice_index_or titles c []

-- No two titles are the same.
abbrev pub AreDistinct : List Field → Type 0
AreDistinct titles =
    (a b : ℕ) → a < length titles → b < length titles → title_in titles a ≡ title_in titles b → a ≡ b

-- The title of column c is that of a column before it, too.
pub record IsRepeated (titles : List Field) (c : ℕ) : Type 0 where
  pub column : ℕ
  pub before : column < c
  pub same : title_in titles column ≡ title_in titles c

-- The first column whose title is that of a column before it, too.
pub record IsFirstRepeated (titles : List Field) (c : ℕ) : Type 0 where
  pub within : c < length titles
  pub repeated : IsRepeated titles c
  pub first : (k : ℕ) → k < c → IsRepeated titles k → ⊥
