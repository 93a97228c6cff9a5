-- Where the answers to the records of a text stand: the records that were read, and the lines that were written.
use Rattle.std.proofs.Common.{◌≡◌, ℕ, ◌+◌, List, [], ◌∷◌, ◌++◌, length, take, Some, IfSome, refl, ap, sym, ◌∙◌, subst, arith, ◌≤◌, true, inl, inr}
use Rattle.std.specs.Prelude.{◌≢◌, IsSome}
use Rattle.std.specs.Io.KnownBytes.{Appends}
use Rattle.std.specs.List.{concat, AllZip}
use Rattle.std.proofs.lemmas.List.{append-nil, length-append, take_all}
use Rattle.std.proofs.Math.Seq.{take-append-add}
use Rattle.std.proofs.lemmas.List.Folds.{concat-append}
use Rattle.csv.proofs.WriteFacts.{appends-more, appends-none}
use Rattle.csv.specs.Machine.{next_record}
use Rattle.csv.specs.Reading.{Reached, default_config, reader_state, source_of, strip_bom}
use Rattle.csv.specs.declared.parser.State.{State}
use Rattle.csv.specs.declared.parser.State.TheVariants as st
use Rattle.csv.specs.declared.reader.Reader.{Reader}
use Rattle.bsi_syntax.specs.Bytes.{KnownBytes}
use Rattle.bsi_rows.specs.Fields.{Field}
use Rattle.bsi_input.specs.Formats.{max_records}
use Rattle.bsi_input.specs.Sources.{HasNext, HasReadRecords, IsOver}
use Rattle.bsi_input.specs.declared.rows.SourceFault.{SourceFault}
use Rattle.bsi_input.specs.declared.rows.SourceFault.TheVariants as source
use Rattle.bsi_input.specs.BufferedOutput.{AppendsPrefix}
use Rattle.bsi_input.proofs.Waiting.{cut_all, cut_whole}
use Rattle.bsi_input.proofs.FirstRecords.{first_all, first_more, first_none, HasReadFirst}
use Rattle.bsi_schema.specs.Columns.{Declared}
use Rattle.bsi_rows.specs.Rows.{SourcedRow}
use Rattle.bsi_answers.specs.AskLines.{IsAskLine}
use Rattle.bsi_syntax.specs.declared.grammar.Grammar.TheVariants.{Script}
use Rattle.bsi_answers.specs.Faults.{may_follow_output, text_fault}
use Rattle.bsi_answers.specs.declared.faults.FilesFault.{FilesFault}
use Rattle.bsi_answers.specs.declared.faults.FilesFault.TheVariants.{Read, TooLong, NoMemory, Write}
use Rattle.bsi_answers.specs.declared.faults.Which.TheVariants.{AsksFile}
use Rattle.bsi_answers.specs.RowFiles.{FedCounts}
use Rattle.bsi_answers.specs.Runs.{fed_lines, AreLines}
use Rattle.bsi_answers.specs.Writing.{AreWrittenBefore, Leaves, WritesAll, WritesFirst}

-- ---- lists that match

pub matched_push : {A B : Type 0} (Is : A → B → Type 0) (xs : List A) (ys : List B) (x : A) (y : B) → AllZip Is xs ys → Is x y
    → AllZip Is (xs ++ x ∷ []) (ys ++ y ∷ [])
matched_push Is [] [] x y all one = (one, tt)
matched_push Is [] (b ∷ ys) x y all one = absurd all
matched_push Is (a ∷ xs) [] x y all one = absurd all
matched_push Is (a ∷ xs) (b ∷ ys) x y all one = (all.0, matched_push Is xs ys x y all.1 one)

-- ---- bytes

-- all of these lines went out, also with others before them
pub out_all : (fault : FilesFault) (lines : List (List ℕ)) (before after : KnownBytes) → Appends before after (concat lines) → AreWrittenBefore fault lines before after
out_all Write lines before after written = cut_all before after (concat lines) written
out_all (Read AsksFile) lines before after written = written
out_all (TooLong AsksFile) lines before after written = written
out_all fault lines before after written =
    (length lines, subst (λ ls. Appends before after (concat ls)) (sym (take_all (length lines) lines (omega arith))) written)

pub out_after : (fault : FilesFault) (head lines : List (List ℕ)) (before middle after : KnownBytes) → Appends before middle (concat head)
    → AreWrittenBefore fault lines middle after → AreWrittenBefore fault (head ++ lines) before after
out_after Write head lines before middle after written out =
    subst (AppendsPrefix before after) (sym (concat-append head lines)) (cut_whole before middle after (concat head) (concat lines) written out)
out_after (Read AsksFile) head lines before middle after written out =
    subst (Appends before after) (sym (concat-append head lines)) (appends-more before middle after (concat head) (concat lines) written out)
out_after (TooLong AsksFile) head lines before middle after written out =
    subst (Appends before after) (sym (concat-append head lines)) (appends-more before middle after (concat head) (concat lines) written out)
out_after fault head lines before middle after written out = (
  length head + out.0,
  subst (λ ls. Appends before after (concat ls)) (sym (take-append-add head lines out.0))
      (subst (Appends before after) (sym (concat-append head (take out.0 lines))) (appends-more before middle after (concat head) (concat (take out.0 lines)) written out.1)),
)

pub concat_more : (lines : List (List ℕ)) (line : List ℕ) → concat (lines ++ line ∷ []) ≡ concat lines ++ line
concat_more lines line = concat-append lines (line ∷ []) ∙ ap (λ last. concat lines ++ last) (append-nil line)

-- ---- records and their lines

-- so many records were read, and the lines of all of them were written
pub record HasWritten (Is : List Field → List ℕ → Type 0) (bytes : List ℕ) (state : State) (source : KnownBytes) (read_so_far : ℕ)
    (before now : KnownBytes) : Type 0 where
  pub records : List (List Field)
  pub lines : List (List ℕ)
  pub begun : HasReadFirst bytes state source records
  pub many : length records ≡ read_so_far
  pub each : AllZip Is records lines
  pub written : Appends before now (concat lines)

pub wrote_none : (Is : List Field → List ℕ → Type 0) (bytes : List ℕ) (state : State) (source : KnownBytes) (read_so_far : ℕ) (now : KnownBytes)
    → state ≡ st.StartRecord → read_so_far ≡ 0 → source ≡ Some (strip_bom bytes) → HasWritten Is bytes state source read_so_far now now
wrote_none Is bytes state source read_so_far now start none left = record {
  records = [];
  lines = [];
  begun = first_none bytes state source start left;
  many = sym none;
  each = tt;
  written = appends-none now;
}

module _ (Is : List Field → List ℕ → Type 0) {R : Type 0} (rem : R → KnownBytes) (bytes : List ℕ) (a b : Reader R) (read_so_far : ℕ) (few : read_so_far ≤ max_records)
    (before now : KnownBytes) (wrote : HasWritten Is bytes (reader_state a) (source_of rem a) read_so_far before now) where
  pub wrote_all : IsOver rem a → WritesAll (AllZip Is) bytes before now
  wrote_all over = record {
    records = wrote.records;
    lines = wrote.lines;
    all = first_all rem bytes a a wrote.records wrote.begun over;
    few = omega (arith, few, wrote.many);
    are = wrote.each;
    written = wrote.written;
  }

  -- all lines so far stand before a fault; too many records were read where one more is left
  pub wrote_part : (fault : FilesFault) → (fault ≡ TooLong AsksFile → (read_so_far ≡ max_records) × HasNext rem a) → WritesFirst (AllZip Is) bytes fault before now
  wrote_part fault long = record {
    records = wrote.records;
    lines = wrote.lines;
    state = reader_state a;
    rest = wrote.begun.rest;
    first = wrote.begun.first;
    few = omega (arith, few, wrote.many);
    too_long = λ is. (
      wrote.many ∙ (long is).0,
      subst (λ o. IfSome o (λ rest. IsSome (next_record default_config (reader_state a) [] [] rest))) wrote.begun.left (long is).1,
    );
    are = wrote.each;
    out = out_all fault wrote.lines before now wrote.written;
  }

-- ---- the lines of the feeders stand before them

module _ (schema : Declared) (rows : List SourcedRow) (counts : List FedCounts) (bytes : List ℕ) (before middle after : KnownBytes) where
  pub headed_all : Appends before middle (concat (fed_lines 0 counts)) → WritesAll (AllZip (IsAskLine Script schema rows)) bytes middle after
      → WritesAll (AreLines schema rows counts) bytes before after
  headed_all written all = record {
    records = all.records;
    lines = fed_lines 0 counts ++ all.lines;
    all = all.all;
    few = all.few;
    are = record { answers = all.lines; each = all.are; lines_are = refl };
    written = subst (Appends before after) (sym (concat-append (fed_lines 0 counts) all.lines))
        (appends-more before middle after (concat (fed_lines 0 counts)) (concat all.lines) written all.written);
  }

  pub headed_part : (fault : FilesFault) → Appends before middle (concat (fed_lines 0 counts))
      → WritesFirst (AllZip (IsAskLine Script schema rows)) bytes fault middle after → WritesFirst (AreLines schema rows counts) bytes fault before after
  headed_part fault written part = record {
    records = part.records;
    lines = fed_lines 0 counts ++ part.lines;
    state = part.state;
    rest = part.rest;
    first = part.first;
    few = part.few;
    too_long = part.too_long;
    are = record { answers = part.lines; each = part.are; lines_are = refl };
    out = out_after fault (fed_lines 0 counts) part.lines before middle after written part.out;
  }

-- some lines of the feeders alone
pub head_part : (schema : Declared) (rows : List SourcedRow) (counts : List FedCounts) (bytes : List ℕ) (before after : KnownBytes) (fault : FilesFault)
    → fault ≢ TooLong AsksFile → AreWrittenBefore fault (fed_lines 0 counts) before after → WritesFirst (AreLines schema rows counts) bytes fault before after
unfolding Reached
head_part schema rows counts bytes before after fault short out = record {
  records = [];
  lines = fed_lines 0 counts;
  state = st.StartRecord;
  rest = strip_bom bytes;
  first = (refl, refl);
  few = omega arith;
  too_long = λ is. absurd (short is);
  are = record { answers = []; each = tt; lines_are = sym (append-nil (fed_lines 0 counts)) };
  out = out;
}

-- only a text that is too long has this fault
pub only_long : (fault : SourceFault) → text_fault AsksFile fault ≡ TooLong AsksFile → fault ≡ source.TooLong
only_long source.TooLong is = refl
only_long source.NoMemory is = absurd (cc (is))
only_long source.Read is = absurd (cc (is))
only_long source.BadHeader is = absurd (cc (is))

-- ---- what follows of lines follows of all that was written, and of a part

pub all_follows : {Is Too : List (List Field) → List (List ℕ) → Type 0} → ((records : List (List Field)) → (lines : List (List ℕ)) → Is records lines → Too records lines)
    → (asked : List ℕ) (before after : KnownBytes) → WritesAll Is asked before after → WritesAll Too asked before after
all_follows follows asked before after all = record {
  records = all.records;
  lines = all.lines;
  all = all.all;
  few = all.few;
  are = follows all.records all.lines all.are;
  written = all.written;
}

pub part_follows : {Is Too : List (List Field) → List (List ℕ) → Type 0} → ((records : List (List Field)) → (lines : List (List ℕ)) → Is records lines → Too records lines)
    → (asked : List ℕ) (fault : FilesFault) (before after : KnownBytes) → WritesFirst Is asked fault before after → WritesFirst Too asked fault before after
part_follows follows asked fault before after part = record {
  records = part.records;
  lines = part.lines;
  state = part.state;
  rest = part.rest;
  first = part.first;
  few = part.few;
  too_long = part.too_long;
  are = follows part.records part.lines part.are;
  out = part.out;
}

-- while lines are written
pub leaves_late : (Is : List (List Field) → List (List ℕ) → Type 0) (asked : List ℕ) (fault : FilesFault) (before after : KnownBytes) → may_follow_output fault ≡ true
    → WritesFirst Is asked fault before after → Leaves Is asked fault before after
leaves_late Is asked (Read AsksFile) before after late part = part
leaves_late Is asked (TooLong AsksFile) before after late part = part
leaves_late Is asked Write before after late part = part
leaves_late Is asked NoMemory before after late part = inr part
leaves_late Is asked fault before after late part = absurd (cc (late))
