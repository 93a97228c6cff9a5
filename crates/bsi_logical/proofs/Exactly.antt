-- A text says at most one schema of kinds, and one that says a schema is read.
use Rattle.std.proofs.Common.{◌≡◌, ◌<◌, ℕ, length, length-append, arith, List, [], ◌∷◌, ◌++◌, None, Result, Ok, Err, refl, ap, ◌∙◌}
use Rattle.std.specs.Prelude.{IfErr, IfOk, IsSome}
use Rattle.csv.specs.Machine.{next_record}
use Rattle.csv.specs.Reading.{default_config, strip_bom, AreRecords, Reached}
use Rattle.csv.specs.declared.parser.State.{State}
use Rattle.csv.specs.declared.parser.State.TheVariants as st
use Rattle.bsi_rows.specs.Fields.{Field}
use Rattle.bsi_input.specs.Texts.{AreAllRecords}
use Rattle.bsi_input.specs.declared.rows.SourceFault.TheVariants as source
use Rattle.bsi_input.proofs.AllRecords.{all_records, one_reading, records_behind}
use Rattle.bsi_logical.specs.Logical.{nothing_said, Logical}
use Rattle.bsi_logical.specs.LogicalTexts.{records_said, said_then, IsLogicalFault, IsLogicalText, IsRefusedRecord, Reads, Says, SaysTooLong}
use Rattle.bsi_logical.specs.Records.{record_said, Said}
use Rattle.bsi_logical.specs.declared.logical_text.LogicalFault.{LogicalFault}
use Rattle.bsi_logical.specs.declared.logical_text.LogicalFault.TheVariants.{BadRecord, NoColumns, Source}
use Rattle.bsi_logical.specs.declared.refusal.Refusal.{Refusal}
use Rattle.bsi_logical.proofs.Saying.{said_push}

after_first : (xs ys : List (List Field)) (o : Said)
    → ((a : Logical) → records_said a (xs ++ ys) ≡ said_then (λ b. records_said b ys) (records_said a xs))
    → said_then (λ a. records_said a (xs ++ ys)) o ≡ said_then (λ b. records_said b ys) (said_then (λ a. records_said a xs) o)
after_first xs ys (Ok a) each = each a
after_first xs ys (Err why) each = refl

said-append : (xs ys : List (List Field)) (l : Logical) → records_said l (xs ++ ys) ≡ said_then (λ b. records_said b ys) (records_said l xs)
said-append [] ys l = refl
said-append (x ∷ xs) ys l = after_first xs ys (record_said l x) (λ a. said-append xs ys a)

same_ok : (a b : Logical) (o : Said) → o ≡ Ok a → o ≡ Ok b → a ≡ b
same_ok a b o first second = cc (first, second)

module _ (bytes : List ℕ) (l : Logical) (text : Says bytes l) where
  -- at most one schema
  pub says_one : (other : Logical) → Says bytes other → other ≡ l
  says_one other says =
      let same = one_reading default_config st.StartRecord (strip_bom bytes) says.records text.records says.all text.all in
      same_ok other l (records_said nothing_said says.records) says.said (ap (records_said nothing_said) same ∙ text.said)

  -- no record is bad
  no_bad : (number : ℕ) (why : Refusal) → IsRefusedRecord bytes number why → ⊥
  no_bad number why bad =
      let behind = all_records default_config bad.state bad.rest in
      let first = bad.records ++ bad.fields ∷ [] in
      let all : AreAllRecords bytes (first ++ behind.records) =
      records_behind default_config st.StartRecord bad.state (strip_bom bytes) bad.rest first behind.records bad.first behind.are in
      let same : first ++ behind.records ≡ text.records =
      one_reading default_config st.StartRecord (strip_bom bytes) (first ++ behind.records) text.records all text.all in
      let refused : records_said nothing_said (first ++ behind.records) ≡ Err why =
      said-append first behind.records nothing_said
      ∙ ap (said_then (λ b. records_said b behind.records)) (said_push nothing_said bad.records bad.fields bad.before bad.said ∙ bad.bad) in
      let said : records_said nothing_said (first ++ behind.records) ≡ Ok l = ap (records_said nothing_said) same ∙ text.said in
      cc (refused, said)

  -- there are not too many
  last_some : (state : State) (rest : List ℕ) (last : List (List Field)) → AreRecords default_config state rest last
      → IsSome (next_record default_config state [] [] rest) → 0 < length last
  unfolding Reached
  last_some state rest [] are some =
      let none : next_record default_config state [] [] rest ≡ None = rw (are.2.0, are.2.1) are.3 in
      absurd (cc (none, some))
  last_some state rest (x ∷ last) are some = omega arith

  no_long : SaysTooLong bytes → ⊥
  no_long long =
      let behind = all_records default_config long.state long.rest in
      let all : AreAllRecords bytes (long.records ++ behind.records) =
      records_behind default_config st.StartRecord long.state (strip_bom bytes) long.rest long.records behind.records long.first behind.are in
      let same : long.records ++ behind.records ≡ text.records =
      one_reading default_config st.StartRecord (strip_bom bytes) (long.records ++ behind.records) text.records all text.all in
      let more : 0 < length behind.records = last_some long.state long.rest behind.records behind.are long.too_long.1 in
      absurd (omega (arith, more, long.too_long.0, text.few, ap length same, length-append long.records behind.records))

-- one that says a schema is read
pub reads : (bytes : List ℕ) (l : Logical) (r : Result Logical LogicalFault) → IfOk r (λ found. IsLogicalText bytes found)
    → IfErr r (λ fault. IsLogicalFault bytes fault) → IsLogicalText bytes l → Reads l r
reads bytes l (Ok found) said fault text = says_one bytes l text.says found said.says
reads bytes l (Err (BadRecord number why)) said fault text = no_bad bytes l text.says number why fault
reads bytes l (Err NoColumns) said fault text =
    let same : fault.logical ≡ l = says_one bytes l text.says fault.logical fault.says in
    absurd (omega (arith, fault.none, ap (λ (s : Logical). length s.schema.columns) same, text.some))
reads bytes l (Err (Source source.BadHeader)) said fault text = fault
reads bytes l (Err (Source source.Read)) said fault text = tt
reads bytes l (Err (Source source.NoMemory)) said fault text = tt
reads bytes l (Err (Source source.TooLong)) said fault text = no_long bytes l text.says fault
