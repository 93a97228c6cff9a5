-- Whether a field is among the gathered texts of a column, if all were gathered (`HasText`), and whether it would be
-- one too many (`IsFullFor`).
use Rattle.std.specs.Prelude.{◌≡◌, List, length}
use Rattle.std.specs.List.{Contains}
use Rattle.bsi_rows.specs.Fields.{Field}
use Rattle.bsi_kinds.specs.Dictionaries.{max_texts}
use Rattle.bsi_inference.specs.declared.gathered.Gathered.{Gathered}
use Rattle.bsi_inference.specs.declared.gathered.Gathering.{Gathering}
use Rattle.bsi_inference.specs.declared.gathered.Gathering.TheVariants.{All, Missing, TooMany}

-- The text is one of those gathered, if all were gathered.
abbrev pub HasTextIn : Gathering → List Field → Field → Type 0
HasTextIn All texts f = Contains texts f
HasTextIn Missing texts f = Unit {0}
HasTextIn TooMany texts f = Unit {0}

abbrev pub HasText : Gathered → Field → Type 0
HasText gathered f = HasTextIn gathered.state gathered.texts f

-- There are as many texts as there may be, and the given one is not among them.
pub record IsFullFor (gathered : Gathered) (f : Field) : Type 0 where
  pub full : length gathered.texts ≡ max_texts
  pub other : Contains gathered.texts f → ⊥
