-- Row files that a survey has seen.
use Rattle.std.proofs.Common.{◌≡◌, ◌+◌, ℕ, ◌<◌, List, [], ◌∷◌, ◌++◌, length, zero, suc, Some, None, Result, Ok, Err, IfOk, IfSome, length-append, get_or, arith, refl, subst, sym, ap, ◌∙◌}
use Rattle.std.specs.List.{All, AllZip}
use Rattle.std.proofs.lemmas.List.Elements.{All-append, All-nil, All-push}
use Rattle.bsi_logical.specs.Logical.{Logical}
use Rattle.bsi_inference.specs.ColumnCandidates.{LooksFor as LooksForKinds}
use Rattle.bsi_store.specs.Surveyed.{AreSurveyed, HasSeen, HasSurveyed}
use Rattle.bsi_survey.specs.Looking.{AreLookedFor}
use Rattle.bsi_survey.specs.Surveys.{FitsText, LooksFor, SeesText}
use Rattle.bsi_survey.specs.declared.options.ColumnStart.{ColumnStart}
use Rattle.bsi_survey.specs.declared.options.SurveyOptions.{SurveyOptions}
use Rattle.bsi_survey.specs.declared.survey.Survey.{Survey}
use Rattle.bsi_syntax.specs.Bytes.{KnownBytes}

if_some : (known : KnownBytes) (P Q : List ℕ → Type 0) → ((bytes : List ℕ) → P bytes → Q bytes) → IfSome known P → IfSome known Q
if_some None P Q follows holds = tt
if_some (Some bytes) P Q follows holds = follows bytes holds

module _ {S : Type 0} (rem : S → KnownBytes) where
  -- the first file
  pub seen_first : (file : S) (survey : Survey) → IfSome (rem file) (SeesText survey) → HasSeen rem 1 survey
  seen_first file survey sees = record {
    files = file ∷ [];
    many = refl;
    seen = All-push (λ (f : S). IfSome (rem f) (SeesText survey)) [] file (All-nil (λ (f : S). IfSome (rem f) (SeesText survey))) sees;
  }

  pub surveyed_first : {E : Type 0} (options : SurveyOptions) (file : S) (r : Result Survey E) → IfOk r (λ survey. IfSome (rem file) (SeesText survey))
      → IfOk r (λ survey. survey.dialect ≡ options.dialect) → IfOk r (λ survey. AreLookedFor options.dialect.point options.starts.items survey.columns.items)
      → IfOk r (AreSurveyed rem options 1)
  surveyed_first options file (Ok survey) sees dialect looked = record { seen = seen_first file survey sees; dialect = dialect; looked = looked }
  surveyed_first options file (Err e) sees dialect looked = tt

  -- what a survey goes on to see
  seen_still : (count : ℕ) (old new : Survey) (has : HasSeen rem count old) → ((bytes : List ℕ) → SeesText old bytes → SeesText new bytes)
      → All (λ (f : S). IfSome (rem f) (SeesText new)) has.files
  seen_still count old new has still = λ k d within. if_some (rem (get_or has.files k d)) (SeesText old) (SeesText new) still (has.seen k d within)

  -- the files of two surveys
  seen_both : (count other : ℕ) (old next new : Survey) → HasSeen rem count old → HasSeen rem other next → ((bytes : List ℕ) → SeesText old bytes → SeesText new bytes)
      → ((bytes : List ℕ) → SeesText next bytes → SeesText new bytes) → HasSeen rem (count + other) new
  seen_both count other old next new has more still sees = record {
    files = has.files ++ more.files;
    many = omega (arith, length-append has.files more.files, has.many, more.many);
    seen = All-append (λ (f : S). IfSome (rem f) (SeesText new)) has.files more.files (seen_still count old new has still) (seen_still other next new more sees);
  }

  -- one more file
  pub surveyed_more : (options : SurveyOptions) (count : ℕ) (old new : Survey) (file : S) → AreSurveyed rem options count old → new.dialect ≡ old.dialect
      → ((bytes : List ℕ) → SeesText old bytes → SeesText new bytes) → IfSome (rem file) (SeesText new)
      → ((starts : List ColumnStart) → AreLookedFor old.dialect.point starts old.columns.items → AreLookedFor new.dialect.point starts new.columns.items)
      → AreSurveyed rem options (count + 1) new
  surveyed_more options count old new file were same still sees looks = record {
    seen = seen_both count 1 old new new were.seen (seen_first file new sees) still (λ bytes seen. seen);
    dialect = same ∙ were.dialect;
    looked = subst (λ (p : ℕ). AreLookedFor p options.starts.items new.columns.items) (ap (λ d. d.point) (same ∙ were.dialect))
        (looks options.starts.items (subst (λ (p : ℕ). AreLookedFor p options.starts.items old.columns.items) (sym (ap (λ d. d.point) were.dialect)) were.looked));
  }

  -- nothing is said of the columns, so each looks for each kind
  pub looks_all : (options : SurveyOptions) (count : ℕ) (survey : Survey) → options.starts.items ≡ [] → AreSurveyed rem options count survey
      → All (LooksForKinds options.dialect.point) survey.columns.items
  looks_all options count survey none were = λ c d within.
      subst (λ (starts : List ColumnStart). AreLookedFor options.dialect.point starts survey.columns.items) none were.looked c d within

  -- another survey is joined
  pub surveyed_joined : (options : SurveyOptions) (count : ℕ) (old next new : Survey) → options.starts.items ≡ [] → AreSurveyed rem options count old
      → AreSurveyed rem options 1 next → new.dialect ≡ old.dialect → ((bytes : List ℕ) → SeesText old bytes → SeesText new bytes)
      → (next.dialect ≡ old.dialect → (bytes : List ℕ) → SeesText next bytes → SeesText new bytes)
      → ((point : ℕ) → All (LooksForKinds point) old.columns.items → All (LooksForKinds point) new.columns.items) → AreSurveyed rem options (count + 1) new
  surveyed_joined options count old next new none were is same still sees looks = record {
    seen = seen_both count 1 old next new were.seen is.seen still (sees (is.dialect ∙ sym were.dialect));
    dialect = same ∙ were.dialect;
    looked = subst (λ (starts : List ColumnStart). AreLookedFor options.dialect.point starts new.columns.items) (sym none)
        (λ c d within. looks options.dialect.point (looks_all options count old none were) c d within);
  }

  pub looks_of : (options : SurveyOptions) (count : ℕ) (survey : Survey) → AreSurveyed rem options count survey → LooksFor survey
  looks_of options count survey were = record {
    starts = options.starts.items;
    each = subst (λ (p : ℕ). AreLookedFor p options.starts.items survey.columns.items) (sym (ap (λ d. d.point) were.dialect)) were.looked;
  }

  -- the schema that is made of the survey
  pub surveyed : (count : ℕ) (survey : Survey) (l : Logical) → HasSeen rem count survey → ((bytes : List ℕ) → SeesText survey bytes → FitsText l bytes) → HasSurveyed rem count l
  surveyed count survey l has fits = record {
    files = has.files;
    many = has.many;
    fit = λ k d within. if_some (rem (get_or has.files k d)) (SeesText survey) (FitsText l) fits (has.seen k d within);
  }

-- what holds of each item of a second list
pub all_right : {A B : Type 0} (P : B → Type 0) (xs : List A) (ys : List B) → AllZip (λ _ y. P y) xs ys → (k : ℕ) (d : B) → k < length ys → P (get_or ys k d)
all_right P [] [] zip k d within = absurd (omega (arith, within))
all_right P [] (y ∷ ys) zip k d within = absurd zip
all_right P (x ∷ xs) [] zip k d within = absurd zip
all_right P (x ∷ xs) (y ∷ ys) zip zero d within = zip.0
all_right P (x ∷ xs) (y ∷ ys) zip (suc k) d within = all_right P xs ys zip.1 k d (omega (arith, within))
