-- Texts that a survey has seen, and the schema that is made of it.
use Rattle.std.proofs.Common.{◌≡◌, ◌∷◌, ℕ, true, List, length, get_or, nat_eq, IfOk, IfSome, IsTrue, Result, Ok, Err, option_map, sym, subst, ◌∙◌, eq-eqb}
use Rattle.std.specs.Prelude.{IsSome}
use Rattle.csv.specs.Reading.{ReadRecord, reader_config, reader_state, source_of, strip_bom}
use Rattle.csv.specs.declared.parser.State.TheVariants as st
use Rattle.csv.specs.declared.reader.Reader.{Reader}
use Rattle.bsi_syntax.specs.Bytes.{KnownBytes}
use Rattle.bsi_rows.specs.Fields.{Field}
use Rattle.bsi_input.specs.Formats.{config_of, fields_at, good_row}
use Rattle.bsi_inference.specs.declared.candidates.Candidates.{Candidates}
use Rattle.bsi_logical.specs.Logical.{Logical}
use Rattle.bsi_logical.specs.LogicalRows.{has_titles, logical_format}
use Rattle.bsi_logical.specs.declared.dialect.Dialect.{Dialect}
use Rattle.bsi_survey.specs.Choices.{chosen_fields}
use Rattle.bsi_survey.specs.Looking.{AcceptMore, AcceptsRecord, AreGrown}
use Rattle.bsi_survey.specs.Surveys.{header_of, AcceptsWhole, FitsText, HaveObservedAll, SeesText, Surveys}
use Rattle.bsi_survey.specs.TextRecords.{AreTextRecords}
use Rattle.bsi_survey.specs.declared.choice.Choice.{Choice}
use Rattle.bsi_survey.specs.declared.counts.Counts.{Counts}
use Rattle.bsi_survey.specs.declared.options.SurveyOptions.{SurveyOptions}
use Rattle.bsi_survey.specs.declared.survey.Survey.{Survey}
use Rattle.bsi_survey.proofs.Growing.{accepted_more, whole_still}
use Rattle.bsi_survey.proofs.Records.{all_records}
use Rattle.bsi_survey.proofs.Surveying.{if_some}

-- a text that was surveyed was seen
pub sees_of : (options : SurveyOptions) (survey : Survey) (bytes : List ℕ) → survey.dialect ≡ options.dialect → Surveys options bytes survey → SeesText survey bytes
sees_of options survey bytes same surveys = record {
  records = surveys.records;
  all = subst (λ (d : Dialect). AreTextRecords d.delimiter bytes (header_of survey ∷ surveys.records)) (sym same) surveys.all;
  accepted = surveys.accepted;
}

pub all_sees : (options : SurveyOptions) (survey : Survey) (known : KnownBytes) → survey.dialect ≡ options.dialect → IfSome known (λ bytes. Surveys options bytes survey)
    → IfSome known (SeesText survey)
all_sees options survey known same surveys = if_some known (λ bytes. Surveys options bytes survey) (SeesText survey) (λ bytes is. sees_of options survey bytes same is) surveys

-- what was seen is seen by columns that have grown
pub sees_still : (old new : Survey) (bytes : List ℕ) → new.choice ≡ old.choice → new.dialect ≡ old.dialect → header_of new ≡ header_of old → AreGrown old.columns.items new.columns.items
    → SeesText old bytes → SeesText new bytes
sees_still old new bytes choice dialect header grown sees = record {
  records = sees.records;
  all = subst (λ (d : Dialect). AreTextRecords d.delimiter bytes (header_of new ∷ sees.records)) (sym dialect)
      (subst (λ (h : List Field). AreTextRecords old.dialect.delimiter bytes (h ∷ sees.records)) (sym header) sees.all);
  accepted = subst (λ (h : Choice). AcceptsWhole h new.columns.items sees.records) (sym choice)
      (whole_still old.choice old.columns.items new.columns.items grown sees.records sees.accepted);
}

-- what another survey saw is seen by columns that have joined its own
pub sees_joined : (other new : Survey) (bytes : List ℕ) → new.dialect ≡ other.dialect → header_of new ≡ header_of other
    → other.choice.indexes.items ≡ new.choice.indexes.items → other.choice.many ≡ new.choice.many → AcceptMore other.columns.items new.columns.items
    → SeesText other bytes → SeesText new bytes
sees_joined other new bytes dialect header indexes many more sees = record {
  records = sees.records;
  all = subst (λ (d : Dialect). AreTextRecords d.delimiter bytes (header_of new ∷ sees.records)) (sym dialect)
      (subst (λ (h : List Field). AreTextRecords other.dialect.delimiter bytes (h ∷ sees.records)) (sym header) sees.all);
  accepted = λ k d within whole.
      let fields = get_or sees.records k d in
      accepted_more other.columns.items new.columns.items more (chosen_fields new.choice fields)
      (subst (λ (is : List ℕ). AcceptsRecord other.columns.items (fields_at is fields)) indexes
      (sees.accepted k d within (subst (λ (n : ℕ). IsTrue (nat_eq (length fields) n)) (sym many) whole)));
}

-- a further text
pub sees_more : {R : Type 0} (rem : R → KnownBytes) (survey : Survey) (a b : Reader R) (header : List Field) (first : List Candidates) (words : List Field) (before after : Counts)
    (known : KnownBytes)
    → reader_config a ≡ config_of survey.dialect.delimiter → reader_state a ≡ st.StartRecord → source_of rem a ≡ option_map strip_bom known → ReadRecord rem a b true header
    → header_of survey ≡ header → HaveObservedAll rem survey.choice words b first survey.columns.items before after → IfSome known (SeesText survey)
sees_more rem survey a b header first words before after known config start source read same all =
    if_some known (λ bytes. AreTextRecords survey.dialect.delimiter bytes (header ∷ all.records)) (SeesText survey)
    (λ bytes are. record {
      records = all.records;
      all = subst (λ (h : List Field). AreTextRecords survey.dialect.delimiter bytes (h ∷ all.records)) (sym same) are;
      accepted = all.accepted;
    })
    (all_records rem a b survey.dialect.delimiter header config start known all.records source read all.left)

-- the schema that is made fits
pub fits_all : {E : Type 0} (survey : Survey) (r : Result Logical E) → survey.choice.many ≡ length (header_of survey)
    → IfOk r (λ l. IsTrue (has_titles l (header_of survey)))
    → IfOk r (λ l. (fields : List Field) → length fields ≡ length (header_of survey) → AcceptsRecord survey.columns.items (chosen_fields survey.choice fields)
    → IsSome (good_row (logical_format l) (header_of survey) fields))
    → IfOk r (λ l. l.dialect ≡ survey.dialect) → IfOk r (λ l. (bytes : List ℕ) → SeesText survey bytes → FitsText l bytes)
fits_all survey (Err e) many titles rows dialect = tt
fits_all survey (Ok l) many titles rows dialect = λ bytes sees. record {
  header = header_of survey;
  records = sees.records;
  all = subst (λ (d : Dialect). AreTextRecords d.delimiter bytes (header_of survey ∷ sees.records)) (sym dialect) sees.all;
  header_is = titles;
  rows = λ k d within long. rows (get_or sees.records k d) long
      (sees.accepted k d within (eq-eqb (length (get_or sees.records k d)) survey.choice.many (long ∙ sym many)));
}
