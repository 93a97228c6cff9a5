-- The first records of a text that were read, with what is left of it.
use Rattle.std.proofs.Common.{◌≡◌, ℕ, List, [], ◌∷◌, ◌++◌, Some, None, IfSome, MatchOption, refl, sym, subst}
use Rattle.csv.specs.Machine.{next_record}
use Rattle.csv.specs.Reading.{Reached, default_config, reader_state, source_of, strip_bom}
use Rattle.csv.specs.declared.parser.Config.{Config}
use Rattle.csv.specs.declared.parser.State.{State}
use Rattle.csv.specs.declared.parser.State.TheVariants as st
use Rattle.csv.specs.declared.reader.Reader.{Reader}
use Rattle.bsi_syntax.specs.Bytes.{KnownBytes}
use Rattle.bsi_rows.specs.Fields.{Field}
use Rattle.bsi_input.specs.Sources.{HasReadBy, HasReadRecords, IsOver}
use Rattle.bsi_input.specs.Texts.{AreAllRecords, AreFirstRecordsBy}
use Rattle.bsi_input.proofs.Joining.{reach_on}

-- the first records of a text were read, with what is left of it
pub record HasReadFirstBy (config : Config) (bytes : List ℕ) (state : State) (source : KnownBytes) (records : List (List Field)) : Type 0 where
  pub rest : List ℕ
  pub left : source ≡ Some rest
  pub first : AreFirstRecordsBy config bytes records state rest

abbrev pub HasReadFirst : List ℕ → State → KnownBytes → List (List Field) → Type 0
HasReadFirst bytes state source records = HasReadFirstBy default_config bytes state source records

pub first_none : (bytes : List ℕ) (state : State) (source : KnownBytes) → state ≡ st.StartRecord → source ≡ Some (strip_bom bytes)
    → HasReadFirst bytes state source []
unfolding Reached
first_none bytes state source start left = record { rest = strip_bom bytes; left = left; first = (sym start, refl) }

pub first_join_by : {R : Type 0} (config : Config) (rem : R → KnownBytes) (bytes : List ℕ) (a b : Reader R) (records more : List (List Field))
    → HasReadFirstBy config bytes (reader_state a) (source_of rem a) records → HasReadBy config rem a b more
    → HasReadFirstBy config bytes (reader_state b) (source_of rem b) (records ++ more)
first_join_by config rem bytes a b records more has read =
    by (source_of rem b) refl (subst (λ o. IfSome o (λ xs. MatchOption (source_of rem b) ⊥ (λ ys. Reached config (reader_state a) xs more (reader_state b) ys))) has.left read)
  where
    by : (o : KnownBytes) → source_of rem b ≡ o → MatchOption o ⊥ (λ ys. Reached config (reader_state a) has.rest more (reader_state b) ys)
        → HasReadFirstBy config bytes (reader_state b) (source_of rem b) (records ++ more)
    by None is reached = absurd reached
    by (Some ys) is reached = record {
      rest = ys;
      left = is;
      first = reach_on config st.StartRecord (reader_state a) (reader_state b) (strip_bom bytes) has.rest ys records more has.first reached;
    }

module _ {R : Type 0} (rem : R → KnownBytes) (bytes : List ℕ) (a b : Reader R) (records : List (List Field)) where
  pub first_join : (more : List (List Field)) → HasReadFirst bytes (reader_state a) (source_of rem a) records → HasReadRecords rem a b more
      → HasReadFirst bytes (reader_state b) (source_of rem b) (records ++ more)
  first_join more has read = first_join_by default_config rem bytes a b records more has read

  pub first_more : (fields : List Field) → HasReadFirst bytes (reader_state a) (source_of rem a) records → HasReadRecords rem a b (fields ∷ [])
      → HasReadFirst bytes (reader_state b) (source_of rem b) (records ++ fields ∷ [])
  first_more fields has read = first_join (fields ∷ []) has read

  pub first_all : HasReadFirst bytes (reader_state a) (source_of rem a) records → IsOver rem a → AreAllRecords bytes records
  first_all has over = (
    reader_state a,
    has.rest,
    has.first,
    subst (λ o. IfSome o (λ rest. next_record default_config (reader_state a) [] [] rest ≡ None)) has.left over,
  )
