-- What the records of the text of a schema of kinds say, one after another.
use Rattle.std.proofs.Common.{◌≡◌, ◌≤◌, ◌+◌, ℕ, length, IfSome, arith, length-append, List, [], ◌∷◌, ◌++◌, Some, Result, Ok, Err, refl, ap, sym, ◌∙◌, subst}
use Rattle.std.specs.Prelude.{◌≢◌, IfErr, IsErrAnd, IsOk, IsSome}
use Rattle.csv.specs.Machine.{next_record}
use Rattle.csv.specs.Reading.{default_config, reader_state, source_of, strip_bom}
use Rattle.csv.specs.declared.parser.State.{State}
use Rattle.csv.specs.declared.parser.State.TheVariants as st
use Rattle.csv.specs.declared.reader.Reader.{Reader}
use Rattle.bsi_rows.specs.Fields.{Field}
use Rattle.bsi_input.specs.Formats.{max_records}
use Rattle.bsi_input.specs.Sources.{HasNext, HasReadRecords, IsOver}
use Rattle.bsi_input.specs.Texts.{ForText}
use Rattle.bsi_input.specs.declared.rows.SourceFault.{SourceFault}
use Rattle.bsi_input.specs.declared.rows.SourceFault.TheVariants as source
use Rattle.bsi_input.proofs.FirstRecords.{first_all, first_more, first_none, HasReadFirst}
use Rattle.bsi_logical.specs.Logical.{nothing_said, Logical}
use Rattle.bsi_logical.specs.LogicalTexts.{fault_of, records_said, said_then, IsLogicalFault, IsRefusedRecord, Says, SaysTooLong}
use Rattle.bsi_logical.specs.Records.{record_said, Does, Said}
use Rattle.bsi_logical.specs.declared.logical_text.LogicalFault.{LogicalFault}
use Rattle.bsi_logical.specs.declared.logical_text.LogicalFault.TheVariants.{Source}
use Rattle.bsi_logical.specs.declared.refusal.DeclareError.{DeclareError}
use Rattle.bsi_logical.specs.declared.refusal.DeclareError.TheVariants.{NoMemory, Refused}
use Rattle.bsi_logical.specs.declared.refusal.Refusal.{Refusal}
use Rattle.bsi_syntax.specs.Bytes.{KnownBytes}

-- one record more
said_by_first : (records : List (List Field)) (fields : List Field) (now : Logical) (next o : Said)
    → said_then (λ a. records_said a records) o ≡ Ok now
    → ((a : Logical) → records_said a records ≡ Ok now → records_said a (records ++ fields ∷ []) ≡ next)
    → said_then (λ a. records_said a (records ++ fields ∷ [])) o ≡ next
said_by_first records fields now next (Err why) e behind = absurd (cc (e))
said_by_first records fields now next (Ok a) e behind = behind a e

said_alone : (said : Said) → said_then (λ a. records_said a []) said ≡ said
said_alone (Ok l) = refl
said_alone (Err why) = refl

pub said_push : (before : Logical) (records : List (List Field)) (fields : List Field) (now : Logical)
    → records_said before records ≡ Ok now → records_said before (records ++ fields ∷ []) ≡ record_said now fields
said_push before [] fields now is =
    let same : before ≡ now = cc (is) in
    said_alone (record_said before fields) ∙ ap (λ l. record_said l fields) same
said_push before (r ∷ records) fields now is =
    said_by_first records fields now (record_said now fields) (record_said before r) is (λ a e. said_push a records fields now e)

-- the first records of the text say this
pub record HasSaid (bytes : List ℕ) (state : State) (source : KnownBytes) (read_so_far : ℕ) (now : Logical) : Type 0 where
  pub records : List (List Field)
  pub begun : HasReadFirst bytes state source records
  pub many : length records ≡ read_so_far
  pub said : records_said nothing_said records ≡ Ok now

pub said_none : (bytes : List ℕ) (state : State) (source : KnownBytes) (read_so_far : ℕ) (now : Logical) → state ≡ st.StartRecord → read_so_far ≡ 0
    → now ≡ nothing_said → source ≡ Some (strip_bom bytes) → HasSaid bytes state source read_so_far now
said_none bytes state source read_so_far now start none first left = record {
  records = [];
  begun = first_none bytes state source start left;
  many = sym none;
  said = ap (λ t. Ok t) (sym first);
}

module _ {R : Type 0} (rem : R → KnownBytes) (bytes : List ℕ) (a b : Reader R) (read_so_far : ℕ) (now : Logical)
    (has : HasSaid bytes (reader_state a) (source_of rem a) read_so_far now) where
  pub said_more : (fields : List Field) (more : ℕ) (next : Logical) → HasReadRecords rem a b (fields ∷ []) → more ≡ read_so_far + 1
      → record_said now fields ≡ Ok next → HasSaid bytes (reader_state b) (source_of rem b) more next
  said_more fields more next read one is = record {
    records = has.records ++ fields ∷ [];
    begun = first_more rem bytes a b has.records fields has.begun read;
    many = omega (arith, length-append has.records (fields ∷ []), has.many, one);
    said = said_push nothing_said has.records fields now has.said ∙ is;
  }

  -- the next record says nothing
  said_bad : (fields : List Field) (number : ℕ) (why : Refusal) → HasReadRecords rem a b (fields ∷ []) → number ≡ read_so_far + 1 → number ≤ max_records
      → record_said now fields ≡ Err why → IsRefusedRecord bytes number why
  said_bad fields number why read is few bad =
      let begun = first_more rem bytes a b has.records fields has.begun read in
      record {
        records = has.records;
        fields = fields;
        before = now;
        state = reader_state b;
        rest = begun.rest;
        first = begun.first;
        number_is = omega (arith, has.many, is);
        few = few;
        said = has.said;
        bad = bad;
      }

  -- it was not carried out
  pub said_fault : (fields : List Field) (number : ℕ) (new : Logical) (e : DeclareError) → HasReadRecords rem a b (fields ∷ []) → number ≡ read_so_far + 1
      → number ≤ max_records → Does (record_said now fields) now new (Err e) → IsLogicalFault bytes (fault_of number e)
  said_fault fields number new (Refused why) read is few does = said_bad fields number why read is few does.0
  said_fault fields number new NoMemory read is few does = tt

  -- the most records said something, and one more is left
  said_long : read_so_far ≡ max_records → HasNext rem a → SaysTooLong bytes
  said_long all more = record {
    records = has.records;
    state = reader_state a;
    rest = has.begun.rest;
    first = has.begun.first;
    too_long = (
      has.many ∙ all,
      subst (λ o. IfSome o (λ rest. IsSome (next_record default_config (reader_state a) [] [] rest))) has.begun.left more,
    );
    said = subst (λ o. IsOk o) (sym has.said) refl;
  }

  -- the next record can't be read, or there are too many
  pub source_fault : (fault : SourceFault) → fault ≢ source.BadHeader → (fault ≡ source.TooLong → (read_so_far ≡ max_records) × HasNext rem a)
      → IsLogicalFault bytes (Source fault)
  source_fault source.TooLong later long = said_long (long refl).0 (long refl).1
  source_fault source.BadHeader later long = absurd (later refl)
  source_fault fault later long = tt

-- a fault of the source is passed on
pub passed_on : {T : Type 0} (source : KnownBytes) (r : Result T LogicalFault) (fault : SourceFault) → IsErrAnd r (λ e. e ≡ Source fault)
    → ForText source (λ bytes. IsLogicalFault bytes (Source fault)) → IfErr r (λ e. ForText source (λ bytes. IsLogicalFault bytes e))
passed_on source (Ok x) fault is met = tt
passed_on source (Err e) fault is met = subst (λ f. ForText source (λ bytes. IsLogicalFault bytes f)) (sym is) met
