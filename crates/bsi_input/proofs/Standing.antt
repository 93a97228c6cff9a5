-- Where the loop of a script stands: the records that were read, and the lines that were written.
use Rattle.std.proofs.Common.{◌≡◌, ℕ, ◌+◌, ◌≤◌, true, false, List, [], ◌∷◌, ◌++◌, length, min, take, Option, Some, None, Result, Ok, Err, refl, ap, sym, ◌∙◌, subst, arith}
use Rattle.std.specs.Prelude.{IsSome, IsTrue, IfErr, OnErr, ◌≢◌}
use Rattle.std.specs.Io.KnownBytes.{Appends}
use Rattle.std.specs.List.{concat}
use Rattle.std.proofs.lemmas.List.{append-nil, length-append, take-append-le, take_all, take_min}
use Rattle.std.proofs.lemmas.List.Folds.{concat-append}
use Rattle.std.proofs.lemmas.List.Elements.{All-nil}
use Rattle.csv.proofs.ReadFacts.{rows-end, rows-more}
use Rattle.csv.proofs.WriteFacts.{appends-none}
use Rattle.csv.specs.Machine.{Read, next_record}
use Rattle.csv.specs.Reading.{NextIs, ReadRecord, ReadsNext, Reached, default_config, reader_config, reader_state, source_of, strip_bom}
use Rattle.csv.specs.declared.parser.Config.{Config}
use Rattle.csv.specs.declared.parser.State.{State}
use Rattle.csv.specs.declared.parser.State.TheVariants as st
use Rattle.csv.specs.declared.reader.Reader.{Reader}
use Rattle.bsi_schema.specs.Columns.{NamedColumn}
use Rattle.bsi_schema.specs.Names.{is_name}
use Rattle.bsi_syntax.specs.Bytes.{KnownBytes}
use Rattle.bsi_rows.specs.Fields.{Field}
use Rattle.bsi_input.specs.Scripts.{Phase, Declaring, IsTurn, AreTurns}
use Rattle.bsi_syntax.specs.Setups.{nothing_declared}
use Rattle.bsi_input.specs.Formats.{max_records}
use Rattle.bsi_input.specs.Texts.{AreFirstRecords, IsAnswered, IsTooLong, WrotePrefix, WroteWholeLines}
use Rattle.bsi_input.specs.BufferedOutput.{AppendsAllBut, AppendsPrefix, HoldsAfterAnyPartialFlush, HoldsAfterFlush}
use Rattle.bsi_input.proofs.AllRecords.{all_records, records_behind, records_end}
use Rattle.bsi_input.proofs.Named.{turns_named}
use Rattle.bsi_input.proofs.Turns.{extended, no_turn, one_turn, turns_behind}
use Rattle.bsi_input.proofs.Waiting.{put_all, put_cut, put_more, put_written}

-- so many records were read, and of the lines of all of them a first part was written, and the rest waits
pub record HasServed (phase : Phase) (bytes : List ℕ) (state : State) (source : KnownBytes) (count : ℕ) (before now : KnownBytes) (waiting : List ℕ) : Type 0 where
  pub rest : List ℕ
  pub records : List (List Field)
  pub lines : List (List ℕ)
  pub left : source ≡ Some rest
  pub first : AreFirstRecords bytes records state rest
  pub many : length records ≡ count
  pub run : AreTurns (Declaring nothing_declared) records lines phase
  pub put : AppendsAllBut before now waiting (concat lines)

pub served_first : (phase : Phase) (bytes : List ℕ) (state : State) (source : KnownBytes) (before : KnownBytes) (waiting : List ℕ)
    → phase ≡ Declaring nothing_declared → state ≡ st.StartRecord → source ≡ Some (strip_bom bytes) → waiting ≡ []
    → HasServed phase bytes state source 0 before before waiting
unfolding Reached
served_first phase bytes state source before waiting first start left none = record {
  rest = strip_bom bytes;
  records = [];
  lines = [];
  left = left;
  first = (sym start, refl);
  many = refl;
  run = subst (AreTurns (Declaring nothing_declared) [] []) (sym first) (no_turn (Declaring nothing_declared));
  put = put_all before before [] waiting (appends-none before) none;
}

concat_one : (line : List ℕ) → concat (line ∷ []) ≡ line
concat_one line = append-nil line

concat_more : (lines : List (List ℕ)) (line : List ℕ) → concat (lines ++ line ∷ []) ≡ concat lines ++ line
concat_more lines line = concat-append lines (line ∷ []) ∙ ap (λ last. concat lines ++ last) (concat_one line)

-- a part of the lines of the first records is one of those of all records
begun : (phase : Phase) (bytes : List ℕ) (state : State) (rest : List ℕ) (records : List (List Field)) (lines : List (List ℕ)) (n : ℕ) (before after : KnownBytes)
    → AreFirstRecords bytes records state rest → AreTurns (Declaring nothing_declared) records lines phase → n ≤ length (concat lines)
    → Appends before after (take n (concat lines)) → WrotePrefix bytes before after
begun phase bytes state rest records lines n before after first run within written =
    let more = all_records default_config state rest in
    let named = turns_named (Declaring nothing_declared) records lines phase (All-nil (λ (column : NamedColumn). IsTrue (is_name column.name))) run in
    let others = extended phase more.records named in
    let part : take n (concat lines) ≡ take n (concat (lines ++ others.0)) =
    sym (ap (take n) (concat-append lines others.0) ∙ take-append-le n (concat lines) (concat others.0) within) in
    record {
      records = records ++ more.records;
      all = records_behind default_config st.StartRecord state (strip_bom bytes) rest records more.records first more.are;
      written = (
        lines ++ others.0,
        n,
        (others.1, turns_behind (Declaring nothing_declared) phase others.1 records more.records lines others.0 run others.2),
        subst (Appends before after) part written,
      );
    }

-- the same of any first part
begun_by : (phase : Phase) (bytes : List ℕ) (state : State) (rest : List ℕ) (records : List (List Field)) (lines : List (List ℕ)) (before after : KnownBytes)
    → AreFirstRecords bytes records state rest → AreTurns (Declaring nothing_declared) records lines phase → AppendsPrefix before after (concat lines) → WrotePrefix bytes before after
begun_by phase bytes state rest records lines before after first run cut =
    let m : ℕ = min cut.0 (length (concat lines)) in
    begun phase bytes state rest records lines m before after first run (omega arith)
    (subst (Appends before after) (sym (take_min cut.0 (concat lines))) cut.1)

module _ (phase : Phase) (bytes : List ℕ) (state : State) (source : KnownBytes) (count : ℕ) (before now : KnownBytes) (waiting : List ℕ)
    (served : HasServed phase bytes state source count before now waiting) where
  -- whatever part of the lines that wait is written
  pub served_cut : HoldsAfterAnyPartialFlush now waiting (WrotePrefix bytes before)
  served_cut after cut =
      begun_by phase bytes state served.rest served.records served.lines before after served.first served.run
      (subst (AppendsPrefix before after) (append-nil (concat served.lines))
      (put_cut before now after waiting (concat served.lines) served.put [] (subst (AppendsPrefix now after) (sym (append-nil waiting)) cut)))

  -- once they are written, whole lines were
  pub served_stopped : HoldsAfterFlush now waiting (WroteWholeLines bytes before)
  served_stopped after written = record {
    records = served.records;
    state = state;
    rest = served.rest;
    first = served.first;
    written = (served.lines, (phase, served.run), put_written before now after waiting (concat served.lines) served.put written);
  }

  -- some of them were written
  pub served_way : (after : KnownBytes) (rest : List ℕ) → AppendsAllBut now after rest waiting → HasServed phase bytes state source count before after rest
  served_way after rest put = record {
    rest = served.rest;
    records = served.records;
    lines = served.lines;
    left = served.left;
    first = served.first;
    many = served.many;
    run = served.run;
    put = subst (AppendsAllBut before after rest) (append-nil (concat served.lines))
        (put_more before now after waiting (concat served.lines) served.put rest [] (subst (AppendsAllBut now after rest) (sym (append-nil waiting)) put));
  }

-- what a read that found a record says of the bytes before it
next_is : (o : Option Read) (fields : List Field) (state : State) (rest : List ℕ) → NextIs o true fields state rest → IsSome o
next_is None fields state rest next = sym next
next_is (Some p) fields state rest next = refl

there_is : (cfg : Config) (s : State) (xs : List ℕ) (k : KnownBytes) (fields : List Field) (s2 : State) → ReadsNext cfg s (Some xs) k true fields s2 → IsSome (next_record cfg s [] [] xs)
there_is cfg s xs None fields s2 reads = absurd reads
there_is cfg s xs (Some ys) fields s2 reads = next_is (next_record cfg s [] [] xs) fields s2 ys reads

-- all lines are a first part of themselves
pub answered_begun : (bytes : List ℕ) (before after : KnownBytes) → IsAnswered bytes before after → WrotePrefix bytes before after
answered_begun bytes before after answered =
    let lines = answered.written.0 in
    record {
      records = answered.records;
      all = answered.all;
      written = (
        lines,
        length (concat lines),
        answered.written.1,
        subst (Appends before after) (sym (take_all (length (concat lines)) (concat lines) (omega arith))) answered.written.2,
      );
    }

-- and so are none
pub nothing_begun : (bytes : List ℕ) (before : KnownBytes) → WrotePrefix bytes before before
unfolding Reached
nothing_begun bytes before =
    begun (Declaring nothing_declared) bytes st.StartRecord (strip_bom bytes) [] [] 0 before before (refl, refl) (no_turn (Declaring nothing_declared)) (omega arith)
    (appends-none before)

module _ {R : Type 0} (rem : R → KnownBytes) (a b : Reader R) (fields : List Field) (phase : Phase) (bytes : List ℕ) (count : ℕ) (before now : KnownBytes) (waiting : List ℕ)
    (served : HasServed phase bytes (reader_state a) (source_of rem a) count before now waiting) (config : reader_config a ≡ default_config) where
  -- one more record, whose line waits or was written
  pub served_next : (next : Phase) (line : List ℕ) (after : KnownBytes) (rest : List ℕ) → ReadRecord rem a b true fields → IsTurn phase fields line next
      → AppendsAllBut now after rest (waiting ++ line) → HasServed next bytes (reader_state b) (source_of rem b) (count + 1) before after rest
  served_next next line after rest reads turn put =
      let more = rows-more rem a b fields default_config st.StartRecord (strip_bom bytes) served.rest served.records config served.left served.first reads in
      record {
        rest = more.0;
        records = served.records ++ fields ∷ [];
        lines = served.lines ++ line ∷ [];
        left = more.1;
        first = more.2;
        many = length-append served.records (fields ∷ []) ∙ ap (λ n. n + 1) served.many;
        run = turns_behind (Declaring nothing_declared) phase next served.records (fields ∷ []) served.lines (line ∷ []) served.run (one_turn phase fields line next turn);
        put = subst (AppendsAllBut before after rest) (sym (concat_more served.lines line)) (put_more before now after waiting (concat served.lines) served.put rest line put);
      }

  -- one more record, and a first part of what waited and of its line was written
  pub served_part : (next : Phase) (line : List ℕ) (after : KnownBytes) → ReadRecord rem a b true fields → IsTurn phase fields line next → AppendsPrefix now after (waiting ++ line)
      → WrotePrefix bytes before after
  served_part next line after reads turn cut =
      let more = rows-more rem a b fields default_config st.StartRecord (strip_bom bytes) served.rest served.records config served.left served.first reads in
      begun_by next bytes (reader_state b) more.0 (served.records ++ fields ∷ []) (served.lines ++ line ∷ []) before after more.2
      (turns_behind (Declaring nothing_declared) phase next served.records (fields ∷ []) served.lines (line ∷ []) served.run (one_turn phase fields line next turn))
      (subst (AppendsPrefix before after) (sym (concat_more served.lines line)) (put_cut before now after waiting (concat served.lines) served.put line cut))

  -- there is no more
  pub served_answered : ReadRecord rem a b false fields → count ≤ max_records → HoldsAfterFlush now waiting (IsAnswered bytes before)
  served_answered reads small after written = record {
    records = served.records;
    all = records_end default_config st.StartRecord (reader_state a) (strip_bom bytes) served.rest served.records served.first (rows-end rem a b fields default_config served.rest config served.left reads);
    few = omega (arith, served.many, small);
    written = (served.lines, (phase, served.run), put_written before now after waiting (concat served.lines) served.put written);
  }

  -- there is one more than may be
  pub served_long : ReadRecord rem a b true fields → count ≡ max_records → HoldsAfterFlush now waiting (IsTooLong bytes before)
  served_long reads many after written = record {
    records = served.records;
    state = reader_state a;
    rest = served.rest;
    first = served.first;
    many = served.many ∙ many;
    more = there_is default_config (reader_state a) served.rest _ fields (reader_state b) (rw (config, served.left) at reads.0);
    written = (served.lines, (phase, served.run), put_written before now after waiting (concat served.lines) served.put written);
  }

-- a fact that holds anyway
pub on_err : {T E : Type 0} {P : Type 0} (r : Result T E) → P → OnErr r P
on_err (Ok x) p = tt
on_err (Err e) p = p

pub if_err : {T E : Type 0} {P : Type 0} (wrong : E) (r : Result T E) → P → IfErr r (λ e. e ≢ wrong → P)
if_err wrong (Ok x) p = tt
if_err wrong (Err e) p = λ other. p
