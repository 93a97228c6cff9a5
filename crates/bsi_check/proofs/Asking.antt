-- The asks, queries and others, one after another.
use Rattle.std.proofs.Common.{◌≡◌, ℕ, ◌+◌, ◌≤◌, Bool, true, false, List, [], ◌∷◌, ◌++◌, length, Option, Some, None, is_some, inl, inr, refl, sym, subst, ap, arith, length-append}
use Rattle.csv.specs.Reading.{ReadRecord, reader_state, source_of, strip_bom}
use Rattle.csv.specs.declared.parser.State.TheVariants as st
use Rattle.csv.specs.declared.reader.Reader.{Reader}
use Rattle.bsi_syntax.specs.Bytes.{KnownBytes}
use Rattle.bsi_syntax.specs.Events.{IsQuery}
use Rattle.bsi_rows.specs.Fields.{Field}
use Rattle.bsi_syntax.specs.Reading.{IsReadAs}
use Rattle.bsi_rows.specs.declared.query.Query.{Query}
use Rattle.bsi_schema.specs.Columns.{Declared}
use Rattle.bsi_logical.specs.declared.table_schema.TableSchema.{TableSchema}
use Rattle.bsi_logical.specs.declared.table_schema.TableSchema.TheVariants.{Logical as Logical', Plain}
use Rattle.bsi_logical.specs.Logical.{Logical}
use Rattle.bsi_logical.specs.Meanings.{logical_vocabulary}
use Rattle.bsi_rows.specs.declared.question.Question.{Question}
use Rattle.bsi_syntax.specs.Questions.{IsQuestion}
use Rattle.bsi_syntax.specs.declared.grammar.Grammar.TheVariants.{Index}
use Rattle.bsi_input.specs.Formats.{max_records}
use Rattle.bsi_input.specs.Sources.{IsPlainReader}
use Rattle.bsi_input.proofs.FirstRecords.{first_all, first_more, first_none, HasReadFirst}
use Rattle.bsi_input.proofs.Taking.{is_over, one_read}
use Rattle.bsi_check.specs.Checks.{AreCountedAsks, AsksNothing, Asks, HaveBadAsks, IsAskVerdict}

-- one more query
pub asked_more : (schema : TableSchema) (records : List (List Field)) (fields : List Field) (bad : ℕ) → HaveBadAsks schema records bad → Asks schema fields
    → HaveBadAsks schema (records ++ fields ∷ []) bad
unfolding HaveBadAsks
asked_more schema [] fields bad none asked = inl (asked, none)
asked_more schema (r ∷ records) fields bad (inl (good, rest)) asked = inl (good, asked_more schema records fields bad rest asked)
asked_more schema (r ∷ records) fields bad (inr (not, others, is, rest)) asked = inr (not, others, is, asked_more schema records fields others rest asked)

-- one more record that is none
pub bad_more : (schema : TableSchema) (records : List (List Field)) (fields : List Field) (bad : ℕ) → HaveBadAsks schema records bad → AsksNothing schema fields
    → HaveBadAsks schema (records ++ fields ∷ []) (bad + 1)
unfolding HaveBadAsks
bad_more schema [] fields bad none not = inr (not, bad, refl, none)
bad_more schema (r ∷ records) fields bad (inl (good, rest)) not = inl (good, bad_more schema records fields bad rest not)
bad_more schema (r ∷ records) fields bad (inr (other, others, is, rest)) not =
    inr (other, others + 1, ap (λ n. n + 1) is, bad_more schema records fields others rest not)

pub asked_none : (schema : TableSchema) → HaveBadAsks schema [] 0
unfolding HaveBadAsks
asked_none schema = refl

-- where the count of asks stands between two of them
pub record AreAsks (schema : TableSchema) (bytes : List ℕ) {R : Type 0} (rem : R → KnownBytes) (input : Reader R) (read_so_far bad : ℕ) : Type 0 where
  pub records : List (List Field)
  pub begun : HasReadFirst bytes (reader_state input) (source_of rem input) records
  pub many : length records ≡ read_so_far
  pub asked : HaveBadAsks schema records bad

pub asks_none : (schema : TableSchema) (bytes : List ℕ) {R : Type 0} (rem : R → KnownBytes) (input : Reader R) → reader_state input ≡ st.StartRecord
    → source_of rem input ≡ Some (strip_bom bytes) → AreAsks schema bytes rem input 0 0
asks_none schema bytes rem input start left = record {
  records = [];
  begun = first_none bytes (reader_state input) (source_of rem input) start left;
  many = refl;
  asked = asked_none schema;
}

module _ (schema : TableSchema) (bytes : List ℕ) {R : Type 0} (rem : R → KnownBytes) (b : Reader R) (read_so_far bad : ℕ)
    (are : AreAsks schema bytes rem b read_so_far bad) (plain : IsPlainReader b) (c : Reader R) (fields : List Field) where
  pub asks_good : ReadRecord rem b c true fields → Asks schema fields → AreAsks schema bytes rem c (read_so_far + 1) bad
  asks_good next good = record {
    records = are.records ++ fields ∷ [];
    begun = first_more rem bytes b c are.records fields are.begun (one_read rem b c fields plain.config next);
    many = omega (arith, length-append are.records (fields ∷ []), are.many);
    asked = asked_more schema are.records fields bad are.asked good;
  }

  pub asks_bad : ReadRecord rem b c true fields → AsksNothing schema fields → AreAsks schema bytes rem c (read_so_far + 1) (bad + 1)
  asks_bad next not = record {
    records = are.records ++ fields ∷ [];
    begun = first_more rem bytes b c are.records fields are.begun (one_read rem b c fields plain.config next);
    many = omega (arith, length-append are.records (fields ∷ []), are.many);
    asked = bad_more schema are.records fields bad are.asked not;
  }

  pub asks_all : ReadRecord rem b c false fields → read_so_far ≤ max_records → AreCountedAsks schema bad bytes
  asks_all none few = record {
    records = are.records;
    all = first_all rem bytes b b are.records are.begun (is_over rem b b c fields plain.config none);
    few = omega (arith, are.many, few);
    asked = are.asked;
  }

-- what is said of a record, by what was read of it
pub verdict_of : (schema : Declared) (fields : List Field) (read : Option Query) (asks : Bool) → IsReadAs (IsQuery schema fields) read → asks ≡ is_some read
    → IsAskVerdict (Plain schema) fields asks
verdict_of schema fields None true none is = cc (is)
verdict_of schema fields None false none is = λ asked. none asked.0 asked.1
verdict_of schema fields (Some query) true asked is = (query, asked)
verdict_of schema fields (Some query) false asked is = cc (is)

-- and of one that is read in kinds
module _ (logical : Logical) (given fields : List Field) (same : given ≡ fields) where
  pub asks_question : (question : Question) → IsQuestion Index (logical_vocabulary logical) given question → Asks (Logical' logical) fields
  asks_question question is = (question, subst (λ (fs : List Field). IsQuestion Index (logical_vocabulary logical) fs question) same is)

  pub asks_nothing : ((question : Question) → IsQuestion Index (logical_vocabulary logical) given question → ⊥) → AsksNothing (Logical' logical) fields
  asks_nothing none = λ asked. none asked.0 (subst (λ (fs : List Field). IsQuestion Index (logical_vocabulary logical) fs asked.0) (sym same) asked.1)
