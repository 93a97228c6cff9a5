-- What a survey says of a text that was read.
use Rattle.std.proofs.Common.{◌≡◌, ℕ, ◌∷◌, [], true, List, get_or, Some, None, IfSome, option_map, sym, subst}
use Rattle.csv.specs.Reading.{ReadRecord, reader_config, reader_state, source_of, strip_bom}
use Rattle.csv.specs.declared.parser.State.TheVariants as st
use Rattle.csv.specs.declared.reader.Reader.{Reader}
use Rattle.bsi_syntax.specs.Bytes.{KnownBytes}
use Rattle.bsi_rows.specs.Fields.{Field}
use Rattle.bsi_inference.specs.declared.candidates.Candidates.{Candidates}
use Rattle.bsi_logical.specs.HeaderTitles.{titles_of}
use Rattle.bsi_survey.specs.Choices.{chosen_indexes, wanted_titles}
use Rattle.bsi_survey.specs.Looking.{AreGrown, AreLookedFor, AreNewBy, HasObservedFields, IsGrown}
use Rattle.bsi_survey.specs.Surveys.{header_of, no_counts, null_words, AreCounted, HaveObservedAll, HaveObservedEach, Surveys}
use Rattle.bsi_input.specs.Formats.{config_of}
use Rattle.bsi_survey.specs.TextRecords.{AreTextRecords}
use Rattle.bsi_survey.specs.declared.options.ColumnStart.{ColumnStart}
use Rattle.bsi_survey.specs.declared.choice.Choice.{Choice}
use Rattle.bsi_survey.specs.declared.counts.Counts.{Counts}
use Rattle.bsi_survey.specs.declared.options.SurveyOptions.{SurveyOptions}
use Rattle.bsi_survey.specs.declared.survey.Survey.{Survey}
use Rattle.bsi_survey.proofs.Growing.{all_looked, grown_same, grown_then, observed}
use Rattle.bsi_survey.proofs.Records.{all_records}

-- ---- columns that observed fields have grown

fields_grown : (words fields : List Field) (old new : Candidates) → HasObservedFields words fields old new → IsGrown old new
fields_grown words [] old new same = subst (λ (c : Candidates). IsGrown old c) (sym same) (grown_same old)
fields_grown words (field ∷ fields) old new seen = grown_then old seen.0 new (observed words field old seen.0 seen.1) (fields_grown words fields seen.0 new seen.2)

pub each_grown : (choice : Choice) (words : List Field) (records : List (List Field)) (old new : List Candidates) → HaveObservedEach choice words records old new → AreGrown old new
each_grown choice words records old new each = record {
  len = each.len;
  each = λ c d within. fields_grown words _ (get_or old c d) (get_or new c d) (each.each c d within);
}

pub still_looked : {R : Type 0} (rem : R → KnownBytes) (choice : Choice) (words : List Field) (input : Reader R) (old new : List Candidates) (before after : Counts)
    → HaveObservedAll rem choice words input old new before after → (point : ℕ) (starts : List ColumnStart) → AreLookedFor point starts old → AreLookedFor point starts new
still_looked rem choice words input old new before after all = all_looked old new (each_grown choice words all.records old new all.observed)

-- ---- a text

pub if_some : (known : KnownBytes) (P Q : List ℕ → Type 0) → ((bytes : List ℕ) → P bytes → Q bytes) → IfSome known P → IfSome known Q
if_some None P Q follows holds = tt
if_some (Some bytes) P Q follows holds = follows bytes holds

module _ {R : Type 0} (rem : R → KnownBytes) (options : SurveyOptions) (survey : Survey) (a b : Reader R) (header : List Field) (first : List Candidates) (words : List Field)
    (before : Counts) (known : KnownBytes) where
  pub surveyed : reader_config a ≡ config_of options.dialect.delimiter → reader_state a ≡ st.StartRecord → source_of rem a ≡ option_map strip_bom known
      → ReadRecord rem a b true header → header_of survey ≡ header → AreNewBy options.dialect.point options.order options.starts.items first
      → survey.choice.indexes.items ≡ chosen_indexes (wanted_titles options.columns) 0 (titles_of header)
      → words ≡ null_words options → before ≡ no_counts → HaveObservedAll rem survey.choice words b first survey.columns.items before survey.counts
      → IfSome known (λ bytes. Surveys options bytes survey)
  surveyed config start source read same new chosen usual none all =
      if_some known (λ bytes. AreTextRecords options.dialect.delimiter bytes (header ∷ all.records)) (λ bytes. Surveys options bytes survey)
      (λ bytes are. record {
        records = all.records;
        all = subst (λ (h : List Field). AreTextRecords options.dialect.delimiter bytes (h ∷ all.records)) (sym same) are;
        first = first;
        begun = new;
        chosen = subst (λ (h : List Field). survey.choice.indexes.items ≡ chosen_indexes (wanted_titles options.columns) 0 (titles_of h)) (sym same) chosen;
        observed = subst (λ (ws : List Field). HaveObservedEach survey.choice ws all.records first survey.columns.items) usual all.observed;
        accepted = all.accepted;
        counts = subst (λ (c : Counts). AreCounted survey.choice all.records c survey.counts) none all.counts;
      })
      (all_records rem a b options.dialect.delimiter header config start known all.records source read all.left)
