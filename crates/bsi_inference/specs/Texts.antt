-- A list of distinct texts before and after one was added (`HasAddedText`).
use Rattle.std.specs.Prelude.{◌≡◌, ◌⊎◌, ◌+◌, ◌≤◌, List, length}
use Rattle.std.specs.List.{Contains}
use Rattle.bsi_rows.specs.Fields.{Field}

-- Texts before and after one was added.
pub record HasAddedText (old : List Field) (text : Field) (new : List Field) : Type 0 where
  -- The new texts contain the added one.
  pub added : Contains new text
  -- The new texts contain each old text.
  pub preserved : (f : Field) → Contains old f → Contains new f
  -- Each new text is an old one or the added one.
  pub only : (f : Field) → Contains new f → Contains old f ⊎ (f ≡ text)
  -- If the added text was among the old ones, nothing changes.
  pub same : Contains old text → new ≡ old
  -- There is at most one text more.
  pub len : length new ≤ length old + 1
