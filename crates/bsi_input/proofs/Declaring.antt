-- What the records of the text of a schema declare, one after another.
use Rattle.std.proofs.Common.{◌≡◌, ◌≤◌, ◌+◌, ℕ, length, IfSome, MatchOption, arith, length-append, Bool, true, false, List, [], ◌∷◌, ◌++◌, Option, Some, None, Result, Ok, Err, refl, ap, sym, ◌∙◌, subst}
use Rattle.std.specs.Prelude.{◌≢◌, IfErr, IsErrAnd, IsSome, option_and_then}
use Rattle.csv.specs.Machine.{next_record}
use Rattle.csv.specs.Reading.{default_config, reader_state, source_of, strip_bom}
use Rattle.csv.specs.declared.parser.State.{State}
use Rattle.csv.specs.declared.parser.State.TheVariants as st
use Rattle.csv.specs.declared.reader.Reader.{Reader}
use Rattle.bsi_syntax.specs.Bytes.{KnownBytes}
use Rattle.bsi_rows.specs.Fields.{Field}
use Rattle.bsi_syntax.specs.Setups.{table_after, undeclared_table, IsChange}
use Rattle.bsi_syntax.specs.declared.setups.DeclaredTable.{DeclaredTable}
use Rattle.bsi_input.specs.SchemaTexts.{table_declared, Declares, DeclaresTooLong, IsBadDeclaration, IsSchemaFault}
use Rattle.bsi_input.specs.Formats.{max_records}
use Rattle.bsi_input.specs.Sources.{HasNext, HasReadRecords, IsOver}
use Rattle.bsi_input.specs.Texts.{ForText}
use Rattle.bsi_input.specs.declared.rows.SourceFault.{SourceFault}
use Rattle.bsi_input.specs.declared.rows.SourceFault.TheVariants as source
use Rattle.bsi_input.specs.declared.schema_text.SchemaFault.{SchemaFault}
use Rattle.bsi_input.specs.declared.schema_text.SchemaFault.TheVariants.{Source}
use Rattle.bsi_input.proofs.FirstRecords.{first_all, first_more, first_none, HasReadFirst}

declared_by : (records : List (List Field)) (fields : List Field) (now next : DeclaredTable) (o : Option (DeclaredTable))
    → option_and_then (λ a. table_declared a records) o ≡ Some now
    → ((a : DeclaredTable) → table_declared a records ≡ Some now → table_declared a (records ++ fields ∷ []) ≡ Some next)
    → option_and_then (λ a. table_declared a (records ++ fields ∷ [])) o ≡ Some next
declared_by records fields now next None e behind = absurd (cc (e))
declared_by records fields now next (Some a) e behind = behind a e

declared_push : (before : DeclaredTable) (records : List (List Field)) (fields : List Field) (now next : DeclaredTable)
    → table_declared before records ≡ Some now → table_after now fields ≡ Some next → table_declared before (records ++ fields ∷ []) ≡ Some next
declared_push before [] fields now next is after =
    let same : before ≡ now = cc (is) in
    let here : table_after before fields ≡ Some next = ap (λ (t : DeclaredTable). table_after t fields) same ∙ after in
    ap (λ o. option_and_then (λ a. table_declared a []) o) here
declared_push before (r ∷ records) fields now next is after =
    declared_by records fields now next (table_after before r) is (λ a e. declared_push a records fields now next e after)

-- a change that was done
change_is : {T : Type 0} (after : Option T) (old new : T) (done : Bool) → IsChange after old new done → done ≡ true → after ≡ Some new
change_is None old new done is did = absurd (cc (is.0, did))
change_is (Some x) old new done is did = ap (λ y. Some y) (sym is.1)

-- and one that was not
change_none : {T : Type 0} (after : Option T) (old new : T) (done : Bool) → IsChange after old new done → done ≡ false → after ≡ None
change_none None old new done is not = refl
change_none (Some x) old new done is not = absurd (cc (is.0, not))

-- the first records of the text declare this
pub record HasDeclared (bytes : List ℕ) (state : State) (source : KnownBytes) (read_so_far : ℕ) (now : DeclaredTable) : Type 0 where
  pub records : List (List Field)
  pub begun : HasReadFirst bytes state source records
  pub many : length records ≡ read_so_far
  pub declared : table_declared undeclared_table records ≡ Some now

pub declared_none : (bytes : List ℕ) (state : State) (source : KnownBytes) (read_so_far : ℕ) (now : DeclaredTable) → state ≡ st.StartRecord → read_so_far ≡ 0
    → now ≡ undeclared_table → source ≡ Some (strip_bom bytes) → HasDeclared bytes state source read_so_far now
declared_none bytes state source read_so_far now start none first left = record {
  records = [];
  begun = first_none bytes state source start left;
  many = sym none;
  declared = ap (λ t. Some t) (sym first);
}

module _ {R : Type 0} (rem : R → KnownBytes) (bytes : List ℕ) (a b : Reader R) (read_so_far : ℕ) (now : DeclaredTable)
    (has : HasDeclared bytes (reader_state a) (source_of rem a) read_so_far now) where
  pub declared_more : (fields : List Field) (more : ℕ) (next : DeclaredTable) (done : Bool) → HasReadRecords rem a b (fields ∷ []) → more ≡ read_so_far + 1
      → IsChange (table_after now fields) now next done → done ≡ true → HasDeclared bytes (reader_state b) (source_of rem b) more next
  declared_more fields more next done read one change did = record {
    records = has.records ++ fields ∷ [];
    begun = first_more rem bytes a b has.records fields has.begun read;
    many = omega (arith, length-append has.records (fields ∷ []), has.many, one);
    declared = declared_push undeclared_table has.records fields now next has.declared (change_is (table_after now fields) now next done change did);
  }

  -- the next record can't be done
  pub declared_bad : (fields : List Field) (number : ℕ) (next : DeclaredTable) (done : Bool) → HasReadRecords rem a b (fields ∷ []) → number ≡ read_so_far + 1 → number ≤ max_records
      → IsChange (table_after now fields) now next done → done ≡ false → IsBadDeclaration bytes number
  declared_bad fields number next done read is few change not =
      let begun = first_more rem bytes a b has.records fields has.begun read in
      record {
        records = has.records;
        fields = fields;
        state = reader_state b;
        rest = begun.rest;
        first = begun.first;
        number_is = omega (arith, has.many, is);
        few = few;
        bad = subst (λ o. MatchOption o ⊥ (λ (t : DeclaredTable). table_after t fields ≡ None)) (sym has.declared)
            (change_none (table_after now fields) now next done change not);
      }

  -- the most records were done, and one more is left
  declared_long : read_so_far ≡ max_records → HasNext rem a → DeclaresTooLong bytes
  declared_long all more = record {
    records = has.records;
    state = reader_state a;
    rest = has.begun.rest;
    first = has.begun.first;
    too_long = (
      has.many ∙ all,
      subst (λ o. IfSome o (λ rest. IsSome (next_record default_config (reader_state a) [] [] rest))) has.begun.left more,
    );
    declared = subst (λ o. IsSome o) (sym has.declared) refl;
  }

  -- the next record can't be read, or there are too many
  pub declared_fault : (fault : SourceFault) → fault ≢ source.BadHeader → (fault ≡ source.TooLong → (read_so_far ≡ max_records) × HasNext rem a)
      → IsSchemaFault bytes (Source fault)
  declared_fault source.TooLong later long = declared_long (long refl).0 (long refl).1
  declared_fault source.BadHeader later long = absurd (later refl)
  declared_fault fault later long = tt

-- a fault of the source is passed on
pub passed_on : {T : Type 0} (source : KnownBytes) (r : Result T SchemaFault) (fault : SourceFault) → IsErrAnd r (λ e. e ≡ Source fault)
    → ForText source (λ bytes. IsSchemaFault bytes (Source fault)) → IfErr r (λ e. ForText source (λ bytes. IsSchemaFault bytes e))
passed_on source (Ok x) fault is met = tt
passed_on source (Err e) fault is met = subst (λ f. ForText source (λ bytes. IsSchemaFault bytes f)) (sym is) met
