-- What a run leaves in its output, whether it met a fault or not.
use Rattle.std.proofs.Common.{◌≡◌, ◌↔◌, ◌⊎◌, ◌<◌, ◌≤◌, ℕ, true, false, leb, List, length, Some, None, map, Result, Ok, Err, inl, inr, refl, sym, subst, ◌∙◌}
use Rattle.std.proofs.lemmas.Bool.Decides.{leb_tells}
use Rattle.std.specs.Io.KnownBytes.{Appends, Keeps}
use Rattle.std.specs.Prelude.{IfErr, IfSome, OnErr, OnOk}
use Rattle.std.specs.Result.{result_and}
use Rattle.bsi_files.proofs.Good.{run_good}
use Rattle.bsi_files.specs.RunFaults.{IsFaultOf}
use Rattle.bsi_answers.specs.Runs.{IsRun}
use Rattle.bsi_answers.specs.Writing.{Leaves, WhereFilesKnown, WhereKnown, WritesAll}
use Rattle.bsi_answers.specs.declared.faults.FilesFault.{FilesFault}
use Rattle.bsi_answers.specs.declared.faults.FilesFault.TheVariants.{TooManyFiles, Write}
use Rattle.bsi_input.proofs.Waiting.{cut_all}
use Rattle.bsi_input.specs.Texts.{IsAnswered, WrotePrefix}
use Rattle.bsi_shell.specs.FileRuns.{HasFailedRunOver, HasRunOver}
use Rattle.bsi_syntax.specs.Bytes.{KnownBytes}

-- what holds anyway holds after a refusal
pub on_err : {T E : Type 0} {P : Type 0} (r : Result T E) → P → OnErr r P
on_err (Ok x) p = tt
on_err (Err e) p = p

-- a premise that is so
pub on_ok_so : {T E : Type 0} (P Q : Type 0) (r : Result T E) → OnOk r (Q → P) → Q → OnOk r P
on_ok_so P Q (Ok x) holds q = holds q
on_ok_so P Q (Err e) holds q = tt

pub if_err_so : {T E : Type 0} (P : E → Type 0) (Q : Type 0) (r : Result T E) → IfErr r (λ e. Q → P e) → Q → IfErr r P
if_err_so P Q (Ok x) holds q = tt
if_err_so P Q (Err e) holds q = holds q

-- what follows where a call met no fault follows where neither it nor another did
pub on_both : {T U E P Q : Type 0} (first : Result T E) (other : Result U E) (both : Result U E) → both ≡ result_and first other → OnOk first P → (P → Q)
    → OnOk both Q
on_both {T} {U} {E} {P} {Q} first other both is holds follows = subst (λ r. OnOk r Q) (sym is) (by first other holds)
  where
    by : (f : Result T E) (o : Result U E) → OnOk f P → OnOk (result_and f o) Q
    by (Ok x) (Ok y) p = follows p
    by (Ok x) (Err e) p = tt
    by (Err e) o p = tt

pub on_ok_both : {T E : Type 0} (P Q : Type 0) (r : Result T E) → OnOk r P → OnOk r Q → OnOk r (P × Q)
on_ok_both P Q (Ok x) p q = (p, q)
on_ok_both P Q (Err e) p q = tt

-- a fact of an input that is known
pub if_some : {P Q : List ℕ → Type 0} (known : KnownBytes) → ((bytes : List ℕ) → P bytes → Q bytes) → IfSome known P → IfSome known Q
if_some None follows p = tt
if_some (Some bytes) follows p = follows bytes p

-- what follows of one that was answered, and holds of one that was not, holds of each
pub of_each : {T E : Type 0} {P Q : List ℕ → Type 0} (known : KnownBytes) (r : Result T E) → ((bytes : List ℕ) → P bytes → Q bytes)
    → OnOk r (IfSome known P) → OnErr r (IfSome known Q) → IfSome known Q
of_each known (Ok x) follows answered fault = if_some known follows answered
of_each known (Err e) follows answered fault = fault

-- bytes that were appended, and then keeps
pub appends_flushed : (before middle after : KnownBytes) (bytes : List ℕ) → Appends before middle bytes → Keeps middle after → Appends before after bytes
appends_flushed None middle after bytes appended keeps = tt
appends_flushed (Some xs) None after bytes appended keeps = absurd appended
appends_flushed (Some xs) (Some ys) None bytes appended keeps = absurd keeps
appends_flushed (Some xs) (Some ys) (Some zs) bytes appended keeps = keeps ∙ appended

-- the lines of all records, and then no more
pub answered_flushed : (before middle after : KnownBytes) → Keeps middle after → (bytes : List ℕ) → IsAnswered bytes before middle → IsAnswered bytes before after
answered_flushed before middle after keeps bytes answered =
    let w = answered.written in
    record {
      records = answered.records;
      all = answered.all;
      few = answered.few;
      written = (w.0, w.1, appends_flushed before middle after _ w.2 keeps);
    }

-- a first prefix of the lines, and then no more
pub begun_flushed : (before middle after : KnownBytes) → Keeps middle after → (bytes : List ℕ) → WrotePrefix bytes before middle → WrotePrefix bytes before after
begun_flushed before middle after keeps bytes begun =
    let w = begun.written in
    record {
      records = begun.records;
      all = begun.all;
      written = (w.0, w.1, w.2, appends_flushed before middle after _ w.3 keeps);
    }

-- a run that was not reported of too many files has no more than there may be
pub few_files : {T : Type 0} (run : Result T FilesFault) (n : ℕ) → (run ≡ Err TooManyFiles) ↔ (64 < n) → OnOk run (n ≤ 64)
few_files (Err e) n reported = tt
few_files (Ok x) n reported = by (leb_tells n 64)
  where
    by : ((leb n 64 ≡ true) × (n ≤ 64)) ⊎ ((leb n 64 ≡ false) × (64 < n)) → n ≤ 64
    by (inl within) = within.1
    by (inr past) = absurd (cc (reported.1 past.1))

-- the lines of a run over files, and then no more
pub run_flushed : {S : Type 0} (rem : S → KnownBytes) (schema asks : S) (rows : List S) (before middle after : KnownBytes) → Keeps middle after
    → 0 < length rows → length rows ≤ 64 → WhereKnown (rem schema) (map rem rows) (rem asks) (λ declared texts asked. WritesAll (IsRun declared texts) asked before middle) → HasRunOver rem before after
run_flushed rem schema asks rows before middle after keeps some few run = record {
  schema = schema;
  asks = asks;
  rows = rows;
  some = some;
  few = few;
  written = λ declared texts asked s r a.
      let all = run declared texts asked s r a in
      record {
        records = all.records;
        lines = all.lines;
        all = all.all;
        few = all.few;
        are = all.are;
        written = appends_flushed before middle after _ all.written keeps;
      };
}

-- how a run over files and the flush after it ended by a fault
module _ {S : Type 0} (rem : S → KnownBytes) (schema asks : S) (rows : List S) (before middle after : KnownBytes) (keeps : Keeps middle after)
    (some : 0 < length rows) where
  abbrev Over : (List ℕ → List (List ℕ) → List ℕ → Type 0) → Type 0
  Over = WhereKnown (rem schema) (map rem rows) (rem asks)

  -- the run met it
  met : (fault : FilesFault) → WhereFilesKnown (rem schema) (map rem rows) (λ declared texts. IsFaultOf false declared texts fault)
      → Over (λ declared texts asked. Leaves (IsRun declared texts) asked fault before middle) → HasFailedRunOver rem fault before after
  met fault is left = record {
    schema = schema;
    asks = asks;
    rows = rows;
    some = some;
    fault_is = λ declared texts asked s r a. is declared texts s r;
    written = λ declared texts asked s r a. (middle, left declared texts asked s r a, keeps);
  }

  -- the flush met it once all lines were written
  met_last : Over (λ declared texts asked. WritesAll (IsRun declared texts) asked before middle) → HasFailedRunOver rem Write before after
  met_last run = record {
    schema = schema;
    asks = asks;
    rows = rows;
    some = some;
    fault_is = λ declared texts asked s r a.
        let all = run declared texts asked s r a in
        run_good declared texts all.records all.lines all.are;
    written = λ declared texts asked s r a.
        let all = run declared texts asked s r a in (
          middle,
          record {
            records = all.records;
            lines = all.lines;
            state = all.all.0;
            rest = all.all.1;
            first = all.all.2;
            few = all.few;
            too_long = λ same. cc (same);
            are = all.are;
            out = cut_all before middle _ all.written;
          },
          keeps,
        );
  }

  pub failed_over : (run flushed both : Result Unit FilesFault) → both ≡ result_and run flushed
      → OnOk run (Over (λ declared texts asked. WritesAll (IsRun declared texts) asked before middle))
      → IfErr run (λ fault. WhereFilesKnown (rem schema) (map rem rows) (λ declared texts. IsFaultOf false declared texts fault))
      → IfErr run (λ fault. Over (λ declared texts asked. Leaves (IsRun declared texts) asked fault before middle))
      → IfErr flushed (λ fault. fault ≡ Write) → IfErr both (λ fault. HasFailedRunOver rem fault before after)
  failed_over run flushed both is lines fault left last =
      subst (λ (r : Result Unit FilesFault). IfErr r (λ fault. HasFailedRunOver rem fault before after)) (sym is) (by run flushed lines fault left last)
    where
      by : (r f : Result Unit FilesFault) → OnOk r (Over (λ declared texts asked. WritesAll (IsRun declared texts) asked before middle))
          → IfErr r (λ fault. WhereFilesKnown (rem schema) (map rem rows) (λ declared texts. IsFaultOf false declared texts fault))
          → IfErr r (λ fault. Over (λ declared texts asked. Leaves (IsRun declared texts) asked fault before middle))
          → IfErr f (λ fault. fault ≡ Write) → IfErr (result_and r f) (λ fault. HasFailedRunOver rem fault before after)
      by (Ok x) (Ok y) lines fault left last = tt
      by (Ok x) (Err e) lines fault left last = subst (λ (g : FilesFault). HasFailedRunOver rem g before after) (sym last) (met_last lines)
      by (Err e) f lines fault left last = met e fault left

pub flush_same : (before after : KnownBytes) → after ≡ before → Keeps before after
flush_same None after same = tt
flush_same (Some xs) after same = subst (λ o. Keeps (Some xs) o) (sym same) refl

-- what is so of every input is so of one that is known
pub of_any : {Q : List ℕ → Type 0} (known : KnownBytes) → ((bytes : List ℕ) → Q bytes) → IfSome known Q
of_any None each = tt
of_any (Some bytes) each = each bytes
