-- A text declares at most one schema of whole numbers, and one that declares a schema is read.
use Rattle.std.proofs.Common.{◌≡◌, ◌⊎◌, inl, inr, ◌<◌, ℕ, length, length-append, arith, List, [], ◌∷◌, ◌++◌, Option, None, Some, Result, Ok, Err, option_and_then, refl, ap, ◌∙◌}
use Rattle.std.specs.Prelude.{IfErr, IfOk, IsSome, MatchOption}
use Rattle.csv.specs.Machine.{next_record}
use Rattle.csv.specs.Reading.{default_config, strip_bom, AreRecords, Reached}
use Rattle.csv.specs.declared.parser.State.{State}
use Rattle.csv.specs.declared.parser.State.TheVariants as st
use Rattle.bsi_rows.specs.Fields.{Field}
use Rattle.bsi_schema.specs.Columns.{Declared}
use Rattle.bsi_syntax.specs.Setups.{table_after, undeclared_table}
use Rattle.bsi_syntax.specs.declared.setups.DeclaredTable.{DeclaredTable}
use Rattle.bsi_input.specs.SchemaTexts.{table_declared, Declares, DeclaresTooLong, IsBadDeclaration, IsSchemaText}
use Rattle.bsi_input.specs.Texts.{AreAllRecords}
use Rattle.bsi_input.specs.declared.rows.SourceFault.TheVariants as source
use Rattle.bsi_input.proofs.AllRecords.{all_records, one_reading, records_behind}
use Rattle.bsi_logical.specs.SchemaFiles.{DeclaresSchema, IsOfKinds, IsPlainFault, IsSchemaFileFault, ReadsPlain}
use Rattle.bsi_logical.specs.declared.logical_text.LogicalFault.{LogicalFault}
use Rattle.bsi_logical.specs.declared.logical_text.LogicalFault.TheVariants.{BadRecord, NoColumns, Source}
use Rattle.bsi_logical.specs.declared.schema_file.DeclaredSchema.{DeclaredSchema}
use Rattle.bsi_logical.specs.declared.table_schema.TableSchema.{TableSchema}
use Rattle.bsi_logical.specs.declared.table_schema.TableSchema.TheVariants.{Logical, Plain}

-- records behind others
behind_first : (xs ys : List (List Field)) (o : Option DeclaredTable)
    → ((a : DeclaredTable) → table_declared a (xs ++ ys) ≡ option_and_then (λ b. table_declared b ys) (table_declared a xs))
    → option_and_then (λ a. table_declared a (xs ++ ys)) o ≡ option_and_then (λ b. table_declared b ys) (option_and_then (λ a. table_declared a xs) o)
behind_first xs ys None each = refl
behind_first xs ys (Some a) each = each a

declared-append : (xs ys : List (List Field)) (t : DeclaredTable) → table_declared t (xs ++ ys) ≡ option_and_then (λ b. table_declared b ys) (table_declared t xs)
declared-append [] ys t = refl
declared-append (x ∷ xs) ys t = behind_first xs ys (table_after t x) (λ a. declared-append xs ys a)

-- a bad record behind others
bad_behind : (fields : List Field) (o : Option DeclaredTable) → MatchOption o ⊥ (λ now. table_after now fields ≡ None)
    → option_and_then (λ b. table_declared b (fields ∷ [])) o ≡ None
bad_behind fields None bad = absurd bad
bad_behind fields (Some now) bad = ap (option_and_then (λ a. Some a)) bad

same_table : (a b : DeclaredTable) (o : Option DeclaredTable) → o ≡ Some a → o ≡ Some b → a ≡ b
same_table a b o first second = cc (first, second)

-- there is one more record
last_some : (state : State) (rest : List ℕ) (last : List (List Field)) → AreRecords default_config state rest last
    → IsSome (next_record default_config state [] [] rest) → 0 < length last
unfolding Reached
last_some state rest [] are some =
    let none : next_record default_config state [] [] rest ≡ None = rw (are.2.0, are.2.1) are.3 in
    absurd (cc (none, some))
last_some state rest (x ∷ last) are some = omega arith

module _ (bytes : List ℕ) (t : DeclaredTable) (text : Declares bytes t) where
  declares_one : (other : DeclaredTable) → Declares bytes other → other ≡ t
  declares_one other declares =
      let same = one_reading default_config st.StartRecord (strip_bom bytes) declares.records text.records declares.all text.all in
      same_table other t (table_declared undeclared_table declares.records) declares.declared_is (ap (table_declared undeclared_table) same ∙ text.declared_is)

  no_bad : (number : ℕ) → IsBadDeclaration bytes number → ⊥
  no_bad number bad =
      let behind = all_records default_config bad.state bad.rest in
      let first = bad.records ++ bad.fields ∷ [] in
      let all : AreAllRecords bytes (first ++ behind.records) =
      records_behind default_config st.StartRecord bad.state (strip_bom bytes) bad.rest first behind.records bad.first behind.are in
      let same : first ++ behind.records ≡ text.records =
      one_reading default_config st.StartRecord (strip_bom bytes) (first ++ behind.records) text.records all text.all in
      let none : table_declared undeclared_table first ≡ None =
      declared-append bad.records (bad.fields ∷ []) undeclared_table ∙ bad_behind bad.fields (table_declared undeclared_table bad.records) bad.bad in
      let refused : table_declared undeclared_table (first ++ behind.records) ≡ None =
      declared-append first behind.records undeclared_table ∙ ap (option_and_then (λ b. table_declared b behind.records)) none in
      let declared : table_declared undeclared_table (first ++ behind.records) ≡ Some t = ap (table_declared undeclared_table) same ∙ text.declared_is in
      cc (refused, declared)

  no_long : DeclaresTooLong bytes → ⊥
  no_long long =
      let behind = all_records default_config long.state long.rest in
      let all : AreAllRecords bytes (long.records ++ behind.records) =
      records_behind default_config st.StartRecord long.state (strip_bom bytes) long.rest long.records behind.records long.first behind.are in
      let same : long.records ++ behind.records ≡ text.records =
      one_reading default_config st.StartRecord (strip_bom bytes) (long.records ++ behind.records) text.records all text.all in
      let more : 0 < length behind.records = last_some long.state long.rest behind.records behind.are long.too_long.1 in
      absurd (omega (arith, more, long.too_long.0, text.few, ap length same, length-append long.records behind.records))

module _ (bytes : List ℕ) (schema : Declared) (limit : ℕ) (text : IsSchemaText bytes schema limit) where
  abbrev table : DeclaredTable
  table = record { schema = schema; limit = limit }

  no_kinds : IsOfKinds bytes → ⊥
  no_kinds kinds = no_bad bytes table text.declares kinds.0 kinds.1

  plain_only : (s : TableSchema) (l : ℕ) → DeclaresSchema bytes s l → (s ≡ Plain schema) × (l ≡ limit)
  plain_only (Plain other) l is =
      let same : record { schema = other; limit = l } ≡ table = declares_one bytes table text.declares (record { schema = other; limit = l }) is.declares in
      (ap (λ (d : DeclaredTable). Plain d.schema) same, ap (λ (d : DeclaredTable). d.limit) same)
  plain_only (Logical logical) l is = absurd (no_kinds is.0)

  plain_fault : (fault : LogicalFault) → IsPlainFault bytes fault → ReadsPlain schema limit (Err fault)
  plain_fault (BadRecord number why) is = is
  plain_fault NoColumns is =
      let same : is.declared ≡ table = declares_one bytes table text.declares is.declared is.declares in
      absurd (omega (arith, is.none, ap (λ (d : DeclaredTable). length d.schema.columns) same, text.some))
  plain_fault (Source source.BadHeader) is = is
  plain_fault (Source source.Read) is = tt
  plain_fault (Source source.NoMemory) is = tt
  plain_fault (Source source.TooLong) is = no_long bytes table text.declares is

  -- one that declares a schema is read
  pub reads_plain : (r : Result DeclaredSchema LogicalFault) → IfOk r (λ file. DeclaresSchema bytes file.schema file.limit) → IfErr r (λ fault. IsSchemaFileFault bytes fault)
      → ReadsPlain schema limit r
  reads_plain (Ok file) declared fault = plain_only file.schema file.limit declared
  reads_plain (Err why) declared fault = elim fault [ inl kinds ↦ absurd (no_kinds kinds.0) | inr plain ↦ plain_fault why plain ]
