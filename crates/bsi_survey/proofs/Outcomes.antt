-- What was decided of a column that has texts.
use Rattle.std.proofs.Common.{◌≡◌, true, List, [], refl, ap}
use Rattle.bsi_rows.specs.Fields.{Field}
use Rattle.bsi_kinds.specs.declared.kind.Kind.{Kind}
use Rattle.bsi_kinds.specs.declared.kind.Kind.TheVariants.{Boolean, Date, Decimal, Rounded, Text, Time}
use Rattle.bsi_inference.specs.Decisions.{Decides}
use Rattle.bsi_inference.specs.declared.candidates.Candidates.{Candidates}
use Rattle.bsi_inference.specs.declared.decision.Column.{Column}
use Rattle.bsi_inference.specs.declared.decision.Decision.TheVariants.{Column as DecidedColumn}
use Rattle.bsi_inference.proofs.CallerLemmas as caller
use Rattle.bsi_logical.specs.Entries.{is_text}
use Rattle.bsi_survey.specs.Looking.{LooksForTexts}

-- the texts of a kind of texts
pub record HasTexts (kind : Kind) : Type 0 where
  pub texts : List Field
  pub is : kind ≡ Text texts

texts_of : (kind : Kind) → is_text kind ≡ true → HasTexts kind
texts_of (Decimal places) is = absurd (cc)
texts_of (Rounded places) is = absurd (cc)
texts_of (Date form) is = absurd (cc)
texts_of (Time form) is = absurd (cc)
texts_of (Boolean form) is = absurd (cc)
texts_of (Text texts) is = record { texts = texts; is = refl }

-- a column of texts has no null words
pub no_words : (c : Candidates) (column : Column) → Decides c (DecidedColumn column) → is_text column.kind ≡ true → column.nulls.items ≡ []
no_words c column decides text = let has = texts_of column.kind text in caller.no_words c column has.texts decides has.is

-- candidates of texts alone come to a column of texts
pub text_kind : (c : Candidates) (column : Column) → LooksForTexts c → Decides c (DecidedColumn column) → is_text column.kind ≡ true
text_kind c column looks decides = ap is_text (caller.text_kind c column looks.forms looks.decimals decides)
