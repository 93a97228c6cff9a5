use Rattle.std.proofs.Common.{◌≡◌, ◌≤◌, None}
use Rattle.csv.specs.Reading.{reader_state, source_of}
use Rattle.bsi_input.specs.Formats.{max_records}
use Rattle.bsi_input.specs.Texts.{ForText}
use Rattle.bsi_logical.proofs.Saying.{HasSaid}
use Rattle.bsi_logical.proofs.logical_text.declare_all.Given as goal

-- the records so far were carried out
abbrev pub invariant-records : goal.invariant-records
invariant-records g l = record {
  going : l.records.end ≡ None;
  counted : l.records.read_so_far ≡ l.before;
  few : l.records.read_so_far ≤ max_records;
  said : ForText (source_of g.R.Read.remaining l.initial.records.input) (λ bytes.
      HasSaid bytes (reader_state l.records.input) (source_of g.R.Read.remaining l.records.input) l.records.read_so_far l.logical);
}
