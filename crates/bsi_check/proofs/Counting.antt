-- The records of a row file, good ones and bad ones, one after another.
use Rattle.std.proofs.Common.{◌≡◌, ℕ, ◌+◌, ◌<◌, ◌≤◌, true, false, List, [], ◌∷◌, ◌++◌, Option, Some, None, IfSome, is_some, option_map, refl, sym, ap₂, subst, arith}
use Rattle.csv.specs.Reading.{ReadRecord, source_of, strip_bom}
use Rattle.csv.specs.declared.reader.Reader.{Reader}
use Rattle.bsi_rows.specs.Rows.{Entries}
use Rattle.bsi_syntax.specs.Bytes.{KnownBytes}
use Rattle.bsi_rows.specs.Fields.{Field}
use Rattle.bsi_input.specs.Formats.{good_row, Format}
use Rattle.bsi_input.specs.Sources.{counts_of, Counts, HasReadRows, IsAfterHeader, IsReaderBy, Layout}
use Rattle.bsi_input.proofs.Joining.{is_whole, taken_both}
use Rattle.bsi_input.proofs.Taking.{has_more, is_over, of_text, taken_bad, taken_good, taken_none, AreTaken}
use Rattle.bsi_check.specs.Checks.{layout_of, HasCounted, HasMoreRecords, IsCountedFile}
use Rattle.bsi_check.specs.declared.finding.FileCounts.{FileCounts}

-- where the count of records stands between two of them
pub record AreCounted {R : Type 0} (rem : R → KnownBytes) (layout : Layout) (old new : Reader R) (records bad : ℕ) : Type 0 where
  pub rows : List Entries
  pub read_so_far : HasReadRows rem layout old new (counts_of 0 0) (counts_of records bad) rows
  pub plain : IsReaderBy layout.format.config new
  pub few : records ≤ layout.format.most
  pub fewer : bad ≤ records

pub counted_none : {R : Type 0} (rem : R → KnownBytes) (layout : Layout) (input : Reader R) → IsReaderBy layout.format.config input → AreCounted rem layout input input 0 0
counted_none rem layout input plain = record {
  rows = [];
  read_so_far = taken_none rem layout input (counts_of 0 0);
  plain = plain;
  few = omega arith;
  fewer = omega arith;
}

module _ {R : Type 0} (rem : R → KnownBytes) (layout : Layout) (old b : Reader R) (records bad : ℕ)
    (are : AreCounted rem layout old b records bad) where
  abbrev now : Counts
  now = counts_of records bad

  here : AreTaken rem layout b b now now
  here = record {
    read_so_far = taken_none rem layout b now;
    plain = are.plain;
    counts = record { few = are.few; bad = are.fewer };
  }

  pub counted_good : (c : Reader R) (fields : List Field) → ReadRecord rem b c true fields → IsReaderBy layout.format.config c → records < layout.format.most
      → true ≡ is_some (good_row layout.format layout.header fields) → AreCounted rem layout old c (records + 1) bad
  counted_good c fields next plain few good = by (good_row layout.format layout.header fields) refl good
    where
      by : (o : Option Entries) → good_row layout.format layout.header fields ≡ o → true ≡ is_some o → AreCounted rem layout old c (records + 1) bad
      by None is good = cc (good)
      by (Some row) is good = record {
        rows = are.rows ++ row ∷ [];
        read_so_far = taken_both rem layout old b c (counts_of 0 0) now (counts_of (records + 1) bad) are.rows (row ∷ []) are.read_so_far
            (taken_good rem layout b b now now here c fields row next (sym is));
        plain = plain;
        few = omega (arith, few);
        fewer = omega (arith, are.fewer);
      }

  pub counted_bad : (c : Reader R) (fields : List Field) → ReadRecord rem b c true fields → IsReaderBy layout.format.config c → records < layout.format.most
      → false ≡ is_some (good_row layout.format layout.header fields) → AreCounted rem layout old c (records + 1) (bad + 1)
  counted_bad c fields next plain few good = by (good_row layout.format layout.header fields) refl good
    where
      by : (o : Option Entries) → good_row layout.format layout.header fields ≡ o → false ≡ is_some o → AreCounted rem layout old c (records + 1) (bad + 1)
      by (Some row) is good = cc (good)
      by None is good =
          let one = taken_bad rem layout b b now now here c fields next plain few (sym is) in
          record {
            rows = are.rows ++ [];
            read_so_far = taken_both rem layout old b c (counts_of 0 0) now (counts_of (records + 1) (bad + 1)) are.rows [] are.read_so_far one.read_so_far;
            plain = plain;
            few = omega (arith, few);
            fewer = omega (arith, are.fewer);
          }

  pub counted_all : (c : Reader R) (fields : List Field) (counts : FileCounts) → counts.records ≡ records → counts.bad ≡ bad
      → ReadRecord rem b c false fields → HasCounted rem layout old counts
  counted_all c fields counts many others none = record {
    at = b;
    rows = are.rows;
    read_so_far = subst (λ (cs : Counts). HasReadRows rem layout old b (counts_of 0 0) cs are.rows) (ap₂ (λ m n. counts_of m n) (sym many) (sym others)) are.read_so_far;
    over = is_over rem old b c fields are.plain.config none;
    few = omega (arith, many, are.few);
  }

  -- the most records were read, and there is one more
  pub counted_long : (c : Reader R) (fields : List Field) → layout.format.most ≤ records → ReadRecord rem b c true fields
      → HasMoreRecords rem layout.format old
  counted_long c fields most next = record {
    at = b;
    records = are.read_so_far.records;
    read = are.read_so_far.read;
    many = omega (arith, are.read_so_far.read_so_far, are.few, most);
    more = has_more rem old b c fields are.plain.config next;
  }

-- a file whose header was read, and then its records
pub counted_text : {R : Type 0} (rem : R → KnownBytes) (format : Format) (header : List Field) (a b : Reader R) (counts : FileCounts) (known : KnownBytes)
    → format.is_header header ≡ true → source_of rem a ≡ option_map strip_bom known → IfSome (source_of rem a) (IsAfterHeader rem (layout_of format header) b)
    → HasCounted rem (layout_of format header) b counts → IfSome known (IsCountedFile format counts)
counted_text rem format header a b counts known named is stands counted =
    by known (of_text (λ text. IsAfterHeader rem (layout_of format header) b text) known (source_of rem a) is stands)
  where
    by : (o : KnownBytes) → IfSome o (λ bytes. IsAfterHeader rem (layout_of format header) b (strip_bom bytes)) → IfSome o (IsCountedFile format counts)
    by None after = tt
    by (Some bytes) after = record {
      header = header;
      rows = counted.rows;
      named = named;
      whole = is_whole rem (layout_of format header) b counted.at (strip_bom bytes) (counts_of 0 0) (counts_of counts.records counts.bad) counted.rows after counted.read_so_far counted.over;
    }
