-- A run that wrote all its lines had a schema, and a header of it in each file.
use Rattle.std.proofs.Common.{◌≡◌, ℕ, true, List, [], ◌∷◌, All, Option, MatchOption, sym, subst}
use Rattle.std.proofs.lemmas.List.Elements.{All-cons, All-nil}
use Rattle.csv.specs.Machine.{Read}
use Rattle.csv.specs.Reading.{Reached, strip_bom}
use Rattle.csv.specs.declared.parser.State.{State}
use Rattle.csv.specs.declared.parser.State.TheVariants as st
use Rattle.bsi_rows.specs.Fields.{Field}
use Rattle.bsi_input.specs.Formats.{Format}
use Rattle.bsi_input.specs.RowFiles.{plain_format}
use Rattle.bsi_files.specs.Headers.{HasHeader}
use Rattle.std.specs.List.{AllZip}
use Rattle.bsi_answers.specs.RowFiles.{IsRowFile, RowFile}
use Rattle.bsi_files.specs.RunFaults.{RowTextsAreValid}
use Rattle.bsi_answers.specs.Runs.{IsRun}

header_read : (format : Format) (bytes : List ℕ) (header : List Field) (records : List (List Field)) (state : State) (rest : List ℕ)
    → Reached format.config st.StartRecord (strip_bom bytes) (header ∷ records) state rest → format.is_header header ≡ true → HasHeader format bytes
unfolding Reached
header_read format bytes header records state rest read is =
    subst (λ (o : Option Read). MatchOption o ⊥ (λ first. format.is_header first.0 ≡ true)) (sym read.1)
    (subst (λ (h : List Field). format.is_header h ≡ true) read.2 is)

headers_read : (format : Format) (texts : List (List ℕ)) (files : List RowFile) → AllZip (IsRowFile format) texts files → All (HasHeader format) texts
headers_read format [] files are = All-nil (HasHeader format)
headers_read format (text ∷ texts) [] are = absurd are
headers_read format (text ∷ texts) (file ∷ files) are =
    let one = are.0 in
    All-cons (HasHeader format) text texts (header_read format text one.header one.records one.all.0 one.all.1 one.all.2 one.header_is) (headers_read format texts files are.1)

pub run_good : (declared : List ℕ) (texts : List (List ℕ)) (records : List (List Field)) (lines : List (List ℕ)) → IsRun declared texts records lines → RowTextsAreValid declared texts
run_good declared texts records lines run = record {
  schema = run.schema;
  limit = run.limit;
  schema_is = run.schema_is;
  holds = headers_read (plain_format run.schema) texts run.files run.files_are;
}
