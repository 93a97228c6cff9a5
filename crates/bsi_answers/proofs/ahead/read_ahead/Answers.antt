use Rattle.std.proofs.Common.{◌≡◌, ◌∷◌, ◌++◌, [], List, ap, arith, length, map, rules, subst, sym, true}
use Rattle.std.specs.Prelude.{IfErr}
use Rattle.std.proofs.lemmas.List.{length-append, length-map}
use Rattle.csv.specs.Records.{fields_of}
use Rattle.bsi_rows.specs.Fields.{Field}
use Rattle.bsi_input.specs.declared.record_aware.RecordAwareReader.{RecordAwareReader}
use Rattle.bsi_syntax.specs.Bytes.{KnownBytes}
use Rattle.bsi_input.specs.Formats.{max_records}
use Rattle.bsi_input.specs.Sources.{HasNext}
use Rattle.bsi_answers.proofs.Passing.{if_err_both}
use Rattle.bsi_answers.specs.declared.faults.FilesFault.TheVariants.{TooLong}
use Rattle.bsi_answers.specs.declared.faults.Which.TheVariants.{AsksFile}
use Rattle.bsi_answers.specs.ReadAhead.{GaveRecords, ReadsOne}
use Rattle.bsi_answers.proofs.ReadingAhead.{ahead_of, gave_none, gave_push}
use Rattle.bsi_answers.proofs.ahead.read_ahead.Goals as goal

pub records-init : goal.records-init
records-init g c =
    let none : c.clear.new.self.items ≡ [] = search rules in
    record {
      going = c.requires.going;
      gave = gave_none (λ w. g.A.Read.remaining w.inner) c.args.records.now (map fields_of c.clear.new.self.items) c.requires.few (ap (map fields_of) none);
      many = rw none (omega arith);
    }

-- the records so far stand before a fault
pub returns-in_err-more-clause-stopped : goal.returns-in_err-more-clause-stopped
returns-in_err-more-clause-stopped g c =
    let before = c.records.ahead.items in
    let after = c.read_one.new.ahead.items in
    let unchanged : IfErr c.from_residual.result (λ fault. after ≡ before) = search rules in
    let long : IfErr c.from_residual.result (λ fault. fault ≡ TooLong AsksFile → (c.records.records.read_so_far ≡ max_records)
    × HasNext (λ w. g.A.Read.remaining w.inner) c.records.records.input) = search rules in
    if_err_both c.from_residual.result
    (λ fault is long. record {
      at = c.records.records.input;
      read_so_far = c.records.records.read_so_far;
      gave = subst (λ (rs : List (List Field)). GaveRecords (λ w. g.A.Read.remaining w.inner) c.args.records.now rs c.records.records.input c.records.records.read_so_far)
          (sym (ap (map fields_of) is)) c.records.invariant.gave;
      too_long = long;
    }) unchanged long

-- the last record was read, or none was left
pub returns-then-not-more-clause-reads : goal.returns-then-not-more-clause-reads
returns-then-not-more-clause-reads g c =
    ahead_of (λ w. g.A.Read.remaining w.inner) c.args.records.now c.records.records c.read_one.new.records (map fields_of c.records.ahead.items)
    (map fields_of c.read_one.new.ahead.items) c.in_ok-more.more c.records.invariant.gave c.in_ok-more.ensures.reads

pub records-preserved : goal.records-preserved
records-preserved g c =
    let rem : RecordAwareReader g.row.A.Denot → KnownBytes = λ w. g.A.Read.remaining w.inner in
    let before = map fields_of c.records.ahead.items in
    let after = map fields_of c.read_one.new.ahead.items in
    let is : c.in_ok-more.more ≡ true = search rules in
    let reads : ReadsOne rem c.records.records c.read_one.new.records before after true =
    subst (ReadsOne rem c.records.records c.read_one.new.records before after) is c.in_ok-more.ensures.reads in
    let long : length after ≡ length (before ++ reads.0 ∷ []) = ap (λ (rs : List (List Field)). length rs) reads.1 in
    record {
      going = reads.2.going;
      gave = gave_push rem c.args.records.now c.records.records c.read_one.new.records before after reads.0 c.records.invariant.gave reads.1 reads.2;
      many = omega (arith, length-map c.read_one.new.ahead.items fields_of, length-map c.records.ahead.items fields_of, long, length-append before (reads.0 ∷ []), c.records.invariant.many);
    }
