-- Records that are read ahead, as they grow, and the lines that are written of them.
use Rattle.std.proofs.Common.{◌≡◌, ◌≤◌, ◌<◌, ℕ, zero, suc, ◌+◌, List, [], ◌∷◌, ◌++◌, get_or, length, take, drop, Bool, true, false, Bor, Option, Some, None, IfSome, MatchOption, Result, Ok, Err, inl, inr, refl, ap, sym, subst, arith, ◌∙◌}
use Rattle.std.specs.Prelude.{◌⊎◌, All, IfErr, IfOk}
use Rattle.std.specs.Io.KnownBytes.{Appends}
use Rattle.std.specs.List.{concat, AllZip}
use Rattle.std.proofs.lemmas.List.{append-nil, append_assoc, drop_more, length-append, take-append-drop, take_more}
use Rattle.std.proofs.lemmas.List.Elements.{All-cons, All-head, All-nil, All-tail}
use Rattle.std.proofs.lemmas.List.Folds.{concat-append}
use Rattle.csv.proofs.WriteFacts.{appends-more, appends-none}
use Rattle.csv.specs.Reading.{reader_state, source_of}
use Rattle.csv.specs.declared.reader.Reader.{Reader}
use Rattle.bsi_answers.proofs.Asking.{out_after, out_all, HasWritten}
use Rattle.bsi_answers.specs.Writing.{WritesFirst}
use Rattle.bsi_answers.specs.declared.faults.FilesFault.{FilesFault}
use Rattle.bsi_answers.specs.declared.faults.FilesFault.TheVariants.{NoMemory, TooLong, Write}
use Rattle.bsi_answers.specs.declared.faults.Which.TheVariants.{AsksFile}
use Rattle.bsi_input.proofs.FirstRecords.{first_more, HasReadFirst}
use Rattle.bsi_input.specs.BufferedOutput.{AppendsPrefix}
use Rattle.bsi_input.specs.Formats.{max_records}
use Rattle.bsi_input.specs.RecordSources.{RecordSource}
use Rattle.bsi_input.specs.Sources.{HasReadRecords}
use Rattle.bsi_answers.specs.ReadAhead.{FailsAhead, GaveRecords, GivesRecords, ReadsAhead, ReadsMore, ReadsOne, WritesFirstLines, WritesLines}
use Rattle.bsi_rows.specs.Fields.{Field}
use Rattle.bsi_syntax.specs.Bytes.{Bytes, KnownBytes}
use Rattle.bsi_syntax.specs.Notations.{AppendsText}

-- ---- the records of a ahead

module _ {R : Type 0} (rem : R → KnownBytes) where
  gives_push : (old at new : Reader R) (records : List (List Field)) (fields : List Field) → GivesRecords rem old records at
      → HasReadRecords rem at new (fields ∷ []) → GivesRecords rem old (records ++ fields ∷ []) new
  gives_push old at new [] fields same read = (new, subst (λ r. HasReadRecords rem r new (fields ∷ [])) (sym same) read, refl)
  gives_push old at new (first ∷ records) fields gives read = (gives.0, gives.1, gives_push gives.0 at new records fields gives.2 read)

  pub gave_none : (old : RecordSource R) (records : List (List Field)) → old.read_so_far ≤ max_records → records ≡ [] → GaveRecords rem old records old.input old.read_so_far
  gave_none old records few none = subst (λ rs. GaveRecords rem old rs old.input old.read_so_far) (sym none) (record { gives = refl; counted = omega arith; few = few })

  pub gave_push : (old middle new : RecordSource R) (records after : List (List Field)) (fields : List Field) → GaveRecords rem old records middle.input middle.read_so_far
      → after ≡ records ++ fields ∷ [] → ReadsMore rem middle new fields → GaveRecords rem old after new.input new.read_so_far
  gave_push old middle new records after fields gave is reads = subst (λ rs. GaveRecords rem old rs new.input new.read_so_far) (sym is) (record {
    gives = gives_push old.input middle.input new.input records fields gave.gives reads.read;
    counted = omega (arith, length-append records (fields ∷ []), gave.counted, reads.counted);
    few = reads.few;
  })

  -- a ahead ends where a record was read, or none was left
  pub ahead_of : (old middle new : RecordSource R) (records after : List (List Field)) (more : Bool) → GaveRecords rem old records middle.input middle.read_so_far
      → ReadsOne rem middle new records after more → ReadsAhead rem old new after more
  ahead_of old middle new records after true gave reads = (
    gave_push old middle new records after reads.0 gave reads.1 reads.2,
    omega (arith, length-append records (reads.0 ∷ []), subst (λ rs. length rs ≡ length (records ++ reads.0 ∷ [])) (sym reads.1) refl),
    reads.2.going,
  )
  ahead_of old middle new records after false gave reads =
      (middle.input, middle.read_so_far, subst (λ rs. GaveRecords rem old rs middle.input middle.read_so_far) (sym reads.0) gave, reads.1)

  -- however a ahead ended, the source gave its records
  pub gave_some : (old new : RecordSource R) (records : List (List Field)) (read : Result Bool FilesFault)
      → IfOk read (ReadsAhead rem old new records) → IfErr read (FailsAhead rem old records)
      → (at : Reader R) × (read_so_far : ℕ) × GaveRecords rem old records at read_so_far
  gave_some old new records (Ok true) reads stops = (new.input, new.read_so_far, reads.0)
  gave_some old new records (Ok false) reads stops = (reads.0, reads.1, reads.2)
  gave_some old new records (Err fault) reads stops = (stops.at, stops.read_so_far, stops.gave)

  module _ (bytes : List ℕ) where
    -- the records of a ahead were read behind others
    records_on : (old at : Reader R) (more : List (List Field)) (records : List (List Field)) → GivesRecords rem old more at
        → HasReadFirst bytes (reader_state old) (source_of rem old) records → HasReadFirst bytes (reader_state at) (source_of rem at) (records ++ more)
    records_on old at [] records same read =
        subst (λ (r : Reader R). HasReadFirst bytes (reader_state r) (source_of rem r) (records ++ [])) same
        (subst (HasReadFirst bytes (reader_state old) (source_of rem old)) (sym (append-nil records)) read)
    records_on old at (fields ∷ more) records gives read =
        subst (HasReadFirst bytes (reader_state at) (source_of rem at)) (append_assoc records (fields ∷ []) more)
        (records_on gives.0 at more (records ++ fields ∷ []) gives.2 (first_more rem bytes old gives.0 records fields read gives.1))

  -- and the first ones of it
  gives_first : (old at : Reader R) (first rest : List (List Field)) → GivesRecords rem old (first ++ rest) at
      → (middle : Reader R) × GivesRecords rem old first middle
  gives_first old at [] rest gives = (old, refl)
  gives_first old at (fields ∷ first) rest gives =
      let more = gives_first gives.0 at first rest gives.2 in (more.0, (gives.0, gives.1, more.1))

-- ---- records and their lines

matched_append : {A B : Type 0} (Is : A → B → Type 0) (xs xs' : List A) (ys ys' : List B) → AllZip Is xs ys → AllZip Is xs' ys'
    → AllZip Is (xs ++ xs') (ys ++ ys')
matched_append Is [] xs' [] ys' first last = last
matched_append Is [] xs' (y ∷ ys) ys' first last = absurd first
matched_append Is (x ∷ xs) xs' [] ys' first last = absurd first
matched_append Is (x ∷ xs) xs' (y ∷ ys) ys' first last = (first.0, matched_append Is xs xs' ys ys' first.1 last)

-- a fault of memory or of the writer is none of the text
late_fault : (fault : FilesFault) → (fault ≡ NoMemory) ⊎ (fault ≡ Write) → fault ≡ TooLong AsksFile → ⊥
late_fault fault (inl memory) is = absurd (cc (memory, is))
late_fault fault (inr write) is = absurd (cc (write, is))

module _ (Is : List Field → Bytes → Type 0) {R : Type 0} (rem : R → KnownBytes) (bytes : List ℕ) (old : RecordSource R) (before now after : KnownBytes)
    (stands : HasWritten Is bytes (reader_state old.input) (source_of rem old.input) old.read_so_far before now)
    (records : List (List Field)) (at : Reader R) (read_so_far : ℕ) (gave : GaveRecords rem old records at read_so_far) where
  -- the lines of the ahead were written too
  pub ahead_stands : WritesLines Is records now after → HasWritten Is bytes (reader_state at) (source_of rem at) read_so_far before after
  ahead_stands wrote = record {
    records = stands.records ++ records;
    lines = stands.lines ++ wrote.lines;
    begun = records_on rem bytes old.input at records stands.records gave.gives stands.begun;
    many = omega (arith, length-append stands.records records, stands.many, gave.counted);
    each = matched_append Is stands.records records stands.lines wrote.lines stands.each wrote.each;
    written = subst (Appends before after) (sym (concat-append stands.lines wrote.lines))
        (appends-more before now after (concat stands.lines) (concat wrote.lines) stands.written wrote.written);
  }

  -- lines of its first records were, before a fault
  pub ahead_prefix : (fault : FilesFault) → WritesFirstLines Is records now after fault → WritesFirst (AllZip Is) bytes fault before after
  ahead_prefix fault wrote =
      let first = gives_first rem old.input at wrote.first wrote.rest (subst (λ rs. GivesRecords rem old.input rs at) wrote.are gave.gives) in
      let begun = records_on rem bytes old.input first.0 wrote.first stands.records first.1 stands.begun in
      let long : length records ≡ length (wrote.first ++ wrote.rest) = ap (λ (rs : List (List Field)). length rs) wrote.are in
      record {
        records = stands.records ++ wrote.first;
        lines = stands.lines ++ wrote.lines;
        state = reader_state first.0;
        rest = begun.rest;
        first = begun.first;
        few = omega (arith, length-append stands.records wrote.first, length-append wrote.first wrote.rest, long, stands.many, gave.counted, gave.few);
        too_long = λ is. absurd (late_fault fault wrote.late is);
        are = matched_append Is stands.records wrote.first stands.lines wrote.lines stands.each wrote.each;
        out = out_after fault stands.lines wrote.lines before now after stands.written wrote.out;
      }

-- ---- lines that are written one after the other

pub lines_none : (Is : List Field → Bytes → Type 0) (now : KnownBytes) → WritesLines Is [] now now
lines_none Is now = record { lines = []; each = tt; written = appends-none now }

module _ (Is : List Field → Bytes → Type 0) (before now after : KnownBytes) (records : List (List Field)) (k : ℕ) (fields d : List Field) (within : k < length records)
    (at : fields ≡ get_or records k d) (wrote : WritesLines Is (take k records) before now) where
  pub lines_more : WritesLines Is (fields ∷ []) now after → WritesLines Is (take (k + 1) records) before after
  lines_more one = subst (λ rs. WritesLines Is rs before after) (ap (λ fs. take k records ++ fs ∷ []) at ∙ sym (take_more records k d within)) (record {
    lines = wrote.lines ++ one.lines;
    each = matched_append Is (take k records) (fields ∷ []) wrote.lines one.lines wrote.each one.each;
    written = subst (Appends before after) (sym (concat-append wrote.lines one.lines)) (appends-more before now after (concat wrote.lines) (concat one.lines) wrote.written one.written);
  })

  pub lines_cut : (fault : FilesFault) → WritesFirstLines Is (fields ∷ []) now after fault → WritesFirstLines Is records before after fault
  lines_cut fault one = record {
    first = take k records ++ one.first;
    rest = one.rest ++ drop (k + 1) records;
    are = sym (take-append-drop k records) ∙ ap (λ rs. take k records ++ rs) (drop_more records k d within ∙ ap (λ fs. fs ∷ drop (k + 1) records) (sym at)
        ∙ ap (λ rs. rs ++ drop (k + 1) records) one.are ∙ append_assoc one.first one.rest (drop (k + 1) records))
        ∙ sym (append_assoc (take k records) one.first (one.rest ++ drop (k + 1) records));
    lines = wrote.lines ++ one.lines;
    each = matched_append Is (take k records) one.first wrote.lines one.lines wrote.each one.each;
    out = out_after fault wrote.lines one.lines before now after wrote.written one.out;
    late = one.late;
  }

-- a line that was made of the record at a place
zip_at : {A B : Type 0} (Is : A → B → Type 0) (xs : List A) (ys : List B) (k : ℕ) (d : A) (e : B) → AllZip Is xs ys → k < length ys → Is (get_or xs k d) (get_or ys k e)
zip_at Is [] [] k d e are within = let no : ⊥ = omega (arith, within) in absurd no
zip_at Is [] (y ∷ ys) k d e are within = absurd are
zip_at Is (x ∷ xs) [] k d e are within = absurd are
zip_at Is (x ∷ xs) (y ∷ ys) zero d e are within = are.0
zip_at Is (x ∷ xs) (y ∷ ys) (suc k) d e are within = zip_at Is xs ys k d e are.1 (omega (arith, within))

pub made_at : {A B : Type 0} (Is : A → B → Type 0) (xs : List A) (ys : List B) (k : ℕ) (x d : A) → x ≡ get_or xs k d → (ys ≡ []) ⊎ AllZip Is xs ys
    → (made : Option (Bor B)) → IfSome made (λ lent. lent.now ≡ get_or ys k lent.now) → IfSome made (λ lent. k < length ys) → IfSome made (λ lent. Is x lent.now)
made_at Is xs ys k x d at are None same within = tt
made_at Is xs ys k x d at (inl none) (Some lent) same within =
    let long : length ys ≡ 0 = ap (λ zs. length zs) none in let no : ⊥ = omega (arith, within, long) in absurd no
made_at Is xs ys k x d at (inr are) (Some lent) same within =
    subst (Is x) (sym same) (subst (λ z. Is z (get_or ys k lent.now)) (sym at) (zip_at Is xs ys k d lent.now are within))

pub within_of : {B : Type 0} (P : Bor B → Type 0) (made : Option (Bor B)) (k n : ℕ) → MatchOption made (n ≤ k) (λ lent. (k < n) × P lent) → IfSome made (λ lent. k < n)
within_of P None k n is = tt
within_of P (Some lent) k n is = is.0

-- one line, or a first part of it
module _ (Is : List Field → Bytes → Type 0) (now after : KnownBytes) (fields : List Field) (line : Bytes) (is : Is fields line) where
  pub line_written : Appends now after line → WritesLines Is (fields ∷ []) now after
  line_written written = record { lines = line ∷ []; each = (is, tt); written = subst (Appends now after) (sym (append-nil line)) written }

  pub line_cut : (fault : FilesFault) → fault ≡ Write → AppendsPrefix now after line → WritesFirstLines Is (fields ∷ []) now after fault
  line_cut fault failed cut = subst (WritesFirstLines Is (fields ∷ []) now after) (sym failed) (record {
    first = fields ∷ [];
    rest = [];
    are = refl;
    lines = line ∷ [];
    each = (is, tt);
    out = subst (AppendsPrefix now after) (sym (append-nil line)) cut;
    late = inr refl;
  })

-- a line that was appended to no bytes
pub line_alone : (Is : List Field → Bytes → Type 0) (lent fields : List Field) (old new : Bytes) → lent ≡ fields → old ≡ [] → AppendsText (Is lent) old new → Is fields new
line_alone Is lent fields old new same none appended =
    subst (λ (fs : List Field). Is fs new) same (subst (Is lent) (sym (appended.written ∙ ap (λ o. o ++ appended.text) none)) appended.is)

-- no line, for want of memory
pub no_line : (Is : List Field → Bytes → Type 0) (now : KnownBytes) (records : List (List Field)) (fault : FilesFault) → fault ≡ NoMemory → WritesFirstLines Is records now now fault
no_line Is now records fault memory = record {
  first = [];
  rest = records;
  are = refl;
  lines = [];
  each = tt;
  out = out_all fault [] now now (appends-none now);
  late = inl memory;
}

-- ---- what follows of the lines of a ahead

matched_follows : {A B : Type 0} (Is Too : A → B → Type 0) (xs : List A) (ys : List B) → All (λ (x : A). (y : B) → Is x y → Too x y) xs → AllZip Is xs ys → AllZip Too xs ys
matched_follows Is Too [] [] follows all = tt
matched_follows Is Too [] (y ∷ ys) follows all = absurd all
matched_follows Is Too (x ∷ xs) [] follows all = absurd all
matched_follows {A} {B} Is Too (x ∷ xs) (y ∷ ys) follows all =
    let Each : A → Type 0 = λ a. (b : B) → Is a b → Too a b in
    (All-head Each x xs follows y all.0, matched_follows Is Too xs ys (All-tail Each x xs follows) all.1)

all_left : {X : Type 0} (P : X → Type 0) (xs ys : List X) → All P (xs ++ ys) → All P xs
all_left P [] ys are = All-nil P
all_left P (x ∷ xs) ys are = All-cons P x xs (All-head P x (xs ++ ys) are) (all_left P xs ys (All-tail P x (xs ++ ys) are))

module _ (Is Too : List Field → Bytes → Type 0) (records : List (List Field)) (before after : KnownBytes)
    (follows : All (λ (fields : List Field). (line : Bytes) → Is fields line → Too fields line) records) where
  pub lines_follow : WritesLines Is records before after → WritesLines Too records before after
  lines_follow wrote = record { lines = wrote.lines; each = matched_follows Is Too records wrote.lines follows wrote.each; written = wrote.written }

  pub first_lines_follow : (fault : FilesFault) → WritesFirstLines Is records before after fault → WritesFirstLines Too records before after fault
  first_lines_follow fault wrote =
      let Each : List Field → Type 0 = λ fields. (line : Bytes) → Is fields line → Too fields line in
      record {
        first = wrote.first;
        rest = wrote.rest;
        are = wrote.are;
        lines = wrote.lines;
        each = matched_follows Is Too wrote.first wrote.lines (all_left Each wrote.first wrote.rest (subst (All Each) wrote.are follows)) wrote.each;
        out = wrote.out;
        late = wrote.late;
      }
