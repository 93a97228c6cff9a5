-- What a survey of row files says of the schema that it makes (`HasSurveyed`).
use Rattle.std.specs.Prelude.{◌≡◌, ℕ, List, All, IfSome, length}
use Rattle.bsi_logical.specs.Logical.{Logical}
use Rattle.bsi_logical.specs.LogicalTexts.{IsLogicalText}
use Rattle.bsi_survey.specs.Looking.{AreLookedFor}
use Rattle.bsi_survey.specs.Surveys.{FitsText, SeesText}
use Rattle.bsi_survey.specs.declared.options.SurveyOptions.{SurveyOptions}
use Rattle.bsi_survey.specs.declared.survey.Survey.{Survey}
use Rattle.bsi_syntax.specs.Bytes.{Bytes, KnownBytes}

-- So many files were opened, and a survey has seen the text of each whose bytes are known.
pub record HasSeen {S : Type 0} (rem : S → KnownBytes) (count : ℕ) (survey : Survey) : Type 0 where
  pub files : List S
  pub many : length files ≡ count
  pub seen : All (λ file. IfSome (rem file) (SeesText survey)) files

-- So many files were opened, and a survey by some options has seen their texts.
pub record AreSurveyed {S : Type 0} (rem : S → KnownBytes) (options : SurveyOptions) (count : ℕ) (survey : Survey) : Type 0 where
  pub seen : HasSeen rem count survey
  -- The dialect is that of the options.
  pub dialect : survey.dialect ≡ options.dialect
  -- The columns look for what the options say.
  pub looked : AreLookedFor options.dialect.point options.starts.items survey.columns.items

-- So many files were opened, and the text of each whose bytes are known fits the schema: its header has the titles, and
-- each of its records that is as long as the header is a row.
pub record HasSurveyed {S : Type 0} (rem : S → KnownBytes) (count : ℕ) (l : Logical) : Type 0 where
  pub files : List S
  pub many : length files ≡ count
  pub fit : All (λ file. IfSome (rem file) (FitsText l)) files

-- The text of a schema of kinds that the text of each of so many files fits.
pub record HasDescribed {S : Type 0} (rem : S → KnownBytes) (count : ℕ) (text : Bytes) : Type 0 where
  pub logical : Logical
  pub found : HasSurveyed rem count logical
  pub says : IsLogicalText text logical
