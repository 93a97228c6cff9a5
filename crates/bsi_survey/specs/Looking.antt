-- What the candidates of a column look for, and what they are once they observed fields, one after another.
use Rattle.std.specs.Prelude.{◌≡◌, ◌⊎◌, ℕ, ◌<◌, true, false, List, [], ◌∷◌, length, get_or, slice_index_or, Option}
use Rattle.bsi_rows.specs.Fields.{Field}
use Rattle.bsi_kinds.specs.declared.date.DateOrder.{DateOrder}
use Rattle.bsi_inference.specs.ColumnCandidates.{is_null_field, Accepts, AddsOnlyField, AddsOnlyOther, GathersOn, HasJoinedKinds, HasNextKinds, HasSameKinds, HaveSameForms, IsNewColumn, IsNewRoundedColumn, IsNewTextColumn, LooksFor, LooksForRounded, MissesTexts}
use Rattle.bsi_inference.specs.Decimals.{AcceptsDecimal}
use Rattle.bsi_inference.specs.declared.candidates.Candidates.{Candidates}
use Rattle.bsi_survey.specs.declared.options.ColumnStart.{ColumnStart}
use Rattle.bsi_survey.specs.declared.options.ColumnStart.TheVariants.{Any, Rounded, Texts}

-- ---- what is looked for

-- A column may have texts alone.
pub record LooksForTexts (c : Candidates) : Type 0 where
  -- There is no candidate of another form.
  pub forms : c.forms.items ≡ []
  -- Decimals are ruled out: they accept any field.
  pub decimals : (f : Field) → AcceptsDecimal c.point c.decimals f

-- A column may have each kind, with this decimal point, its decimals rounded or not, or texts alone.
abbrev pub IsLookedFor : ℕ → ColumnStart → Candidates → Type 0
IsLookedFor point Any c = LooksFor point c
IsLookedFor point Texts c = LooksForTexts c
IsLookedFor point (Rounded places) c = LooksForRounded places point c

-- What is said of a column; of one behind the last, nothing.
abbrev pub start_at : List ColumnStart → ℕ → ColumnStart
start_at starts c = slice_index_or starts c Any

-- What each column may have, by what is said of it.
abbrev pub AreLookedFor : ℕ → List ColumnStart → List Candidates → Type 0
AreLookedFor point starts columns =
    (c : ℕ) → (d : Candidates) → c < length columns → IsLookedFor point (start_at starts c) (slice_index_or columns c d)

-- The candidates of a column before any field.
abbrev pub IsNewBy : ℕ → Option DateOrder → ColumnStart → Candidates → Type 0
IsNewBy point order Any c = IsNewColumn point order c
IsNewBy point order Texts c = IsNewTextColumn c
IsNewBy point order (Rounded places) c = IsNewRoundedColumn places point order c

-- The candidates of each column before any field.
abbrev pub AreNewBy : ℕ → Option DateOrder → List ColumnStart → List Candidates → Type 0
AreNewBy point order starts columns =
    (c : ℕ) → (d : Candidates) → c < length columns → IsNewBy point order (start_at starts c) (slice_index_or columns c d)

-- ---- fields that are observed

-- The candidates of a column before and after they observed a field. `words` are the null words.
pub record IsStep (words : List Field) (field : Field) (old new : Candidates) : Type 0 where
  -- The field is accepted, and each field that was accepted before.
  pub accepts : Accepts new field
  pub preserved : (f : Field) → Accepts old f → Accepts new f
  -- A null changes no candidate.
  pub null : is_null_field words field ≡ true → HasSameKinds old new
  -- A value rules out the candidates that cannot read it.
  pub value : is_null_field words field ≡ false → HasNextKinds field old new
  -- Texts are gathered as long as they are needed.
  pub texts : GathersOn field old new
  -- At most the field was added to the null words and to the texts.
  pub only : AddsOnlyField words field old new
  -- The candidates are those of the same forms.
  pub alike : HaveSameForms old new

-- The candidates of a column have observed these fields, one after another, and no others.
abbrev pub HasObservedFields : List Field → List Field → Candidates → Candidates → Type 0
HasObservedFields words [] old new = new ≡ old
HasObservedFields words (field ∷ fields) old new =
    (next : Candidates) × IsStep words field old next × HasObservedFields words fields next new

-- Each column has observed its field of a record.
pub record AreSteps (words fields : List Field) (old new : List Candidates) : Type 0 where
  pub len : length new ≡ length old
  pub each : (c : ℕ) → (d : Candidates) → c < length old →
      IsStep words (get_or fields c []) (slice_index_or old c d) (slice_index_or new c d)

-- ---- what stays

-- The candidates of a column before and after they observed fields, or were joined.
pub record IsGrown (old new : Candidates) : Type 0 where
  -- Each field that was accepted is accepted.
  pub preserved : (f : Field) → Accepts old f → Accepts new f
  -- The candidates look for the same.
  pub looked : (point : ℕ) → (start : ColumnStart) → IsLookedFor point start old → IsLookedFor point start new

-- The same of each column.
pub record AreGrown (old new : List Candidates) : Type 0 where
  pub len : length new ≡ length old
  pub each : (c : ℕ) → (d : Candidates) → c < length old → IsGrown (slice_index_or old c d) (slice_index_or new c d)

-- Each field that the candidates of a column accept is accepted by the other candidates of that column.
pub record AcceptMore (first second : List Candidates) : Type 0 where
  pub len : length second ≡ length first
  pub each : (c : ℕ) → (d : Candidates) → c < length first → (f : Field) → Accepts (slice_index_or first c d) f
      → Accepts (slice_index_or second c d) f

-- The candidates of a column before and after they joined others: what neither saw was added to none.
pub record HasJoined (old other new : Candidates) : Type 0 where
  -- The candidates have seen what both had, and no more.
  pub kinds : HasJoinedKinds old other new
  -- Texts are missing only if they were missing before.
  pub missing : MissesTexts new → MissesTexts old ⊎ MissesTexts other
  -- No other null words and no other texts were added.
  pub only : AddsOnlyOther old other new

-- The same of each column.
pub record HaveJoined (old others new : List Candidates) : Type 0 where
  pub len : length new ≡ length old
  pub each : (c : ℕ) → (d : Candidates) → c < length old →
      HasJoined (slice_index_or old c d) (slice_index_or others c d) (slice_index_or new c d)

-- Each field of a record is accepted by the candidates of its column.
abbrev pub AcceptsRecord : List Candidates → List Field → Type 0
AcceptsRecord columns fields =
    (c : ℕ) → (d : Candidates) → c < length columns → Accepts (slice_index_or columns c d) (get_or fields c [])
