use Rattle.std.proofs.Common.{◌≡◌, None, length, map}
use Rattle.csv.specs.Records.{fields_of}
use Rattle.bsi_answers.specs.ReadAhead.{GaveRecords}
use Rattle.bsi_answers.proofs.ahead.read_ahead.Given as goal

-- the source gave the records so far
abbrev pub invariant-records : goal.invariant-records
invariant-records g l = record {
  going : l.records.end ≡ None;
  gave : GaveRecords (λ w. g.A.Read.remaining w.inner) l.initial.records (map fields_of l.ahead.items) l.records.input l.records.read_so_far;
  many : length l.ahead.items ≡ l.counter;
}
