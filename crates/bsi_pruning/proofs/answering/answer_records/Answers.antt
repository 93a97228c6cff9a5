use Rattle.std.proofs.Common.{◌≡◌, List, ℕ, arith, map, rules, subst, sym, true, false}
use Rattle.std.specs.Prelude.{IfErr}
use Rattle.csv.specs.Records.{fields_of}
use Rattle.bsi_answers.specs.AskLines.{IsAskLineBy}
use Rattle.bsi_answers.specs.ReadAhead.{FailsAhead, ReadsAhead, WritesFirstLines, WritesLines}
use Rattle.std.specs.List.{AllZip}
use Rattle.bsi_answers.specs.Writing.{WritesFirst}
use Rattle.bsi_answers.proofs.Asking.{wrote_all, wrote_none, wrote_part}
use Rattle.bsi_answers.proofs.ReadingAhead.{ahead_prefix, ahead_stands, gave_some}
use Rattle.bsi_answers.proofs.Passing.{if_err}
use Rattle.bsi_input.specs.declared.record_aware.RecordAwareReader.{RecordAwareReader}
use Rattle.bsi_pruning.specs.Named.{output_fault}
use Rattle.bsi_pruning.specs.declared.fault.NamedFault.{NamedFault}
use Rattle.bsi_pruning.proofs.answering.answer_records.Goals as goal
use Rattle.bsi_rows.specs.Fields.{Field}
use Rattle.bsi_rows.specs.Table.{Table}
use Rattle.bsi_syntax.specs.Bytes.{KnownBytes}

pub rounds-init : goal.rounds-init
rounds-init g c = record {
  going = c.requires.fresh.1;
  counted = omega arith;
  few = omega (arith, c.requires.fresh.0);
  open_of = tt;
  stands = λ t notes kinds are bytes left. wrote_none _ bytes _ _ _ _ c.requires.start c.requires.fresh.0 left;
}

-- lines of first records of the ahead were written
pub returns-in_err-opened-clause-prefix : goal.returns-in_err-opened-clause-prefix
returns-in_err-opened-clause-prefix g c =
    let Is : Table → List Field → List ℕ → Type 0 = λ t.
    IsAskLineBy c.args.grammar (g.V.Vocabulary.words c.args.vocabulary.now) (g.V.Notation.number_texts c.args.vocabulary.now) t.schema t.rows in
    let rem : RecordAwareReader g.row.A.Denot → KnownBytes = λ w. g.A.Read.remaining w.inner in
    let ahead = c.read_ahead-more.new.ahead.items in
    let before = g.W.Write.contents c.args.writer.now in
    let now = g.W.Write.contents c.rounds.writer in
    let after = g.W.Write.contents c.answer_ahead.new.writer in
    let gave = gave_some rem c.rounds.records c.read_ahead-more.new.records (map fields_of ahead) c.read_ahead-more.result c.read_ahead-more.ensures.reads c.read_ahead-more.ensures.stopped in
    let reported = c.in_err-opened.field-0.0 in
    let same : IfErr c.from_residual.result (λ (fault : NamedFault). fault ≡ reported) = search rules in
    if_err c.from_residual.result (λ fault is t notes kinds are bytes left.
    subst (λ (f : NamedFault). WritesFirst (AllZip (Is t)) bytes (output_fault f) before after) (sym is)
    (ahead_prefix (Is t) rem bytes c.rounds.records before now after (c.rounds.invariant.stands t notes kinds are bytes left) (map fields_of ahead) gave.0 gave.1 gave.2 (output_fault reported)
    (subst (λ items. WritesFirstLines (Is t) (map fields_of items) now after (output_fault reported)) c.deref.ensures.value (c.in_err-opened.ensures.prefix t notes kinds are)))) same

-- all of them were, and no record is left
pub returns-in-Ok-false-clause-ok : goal.returns-in-Ok-false-clause-ok
returns-in-Ok-false-clause-ok g c = λ t notes kinds are bytes left.
    let Is : List Field → List ℕ → Type 0 =
    IsAskLineBy c.args.grammar (g.V.Vocabulary.words c.args.vocabulary.now) (g.V.Notation.number_texts c.args.vocabulary.now) t.schema t.rows in
    let rem : RecordAwareReader g.row.A.Denot → KnownBytes = λ w. g.A.Read.remaining w.inner in
    let records = map fields_of c.read_ahead-more.new.ahead.items in
    let before = g.W.Write.contents c.args.writer.now in
    let now = g.W.Write.contents c.rounds.writer in
    let after = g.W.Write.contents c.answer_ahead.new.writer in
    let wrote : WritesLines Is records now after = subst (λ items. WritesLines Is (map fields_of items) now after) c.deref.ensures.value (c.in_ok-opened.ensures.ok t notes kinds are) in
    let reads : ReadsAhead rem c.rounds.records c.read_ahead-more.new.records records false = search rules in
    wrote_all Is rem bytes reads.0 reads.0 reads.1 reads.2.few before after
    (ahead_stands Is rem bytes c.rounds.records before now after (c.rounds.invariant.stands t notes kinds are bytes left) records reads.0 reads.1 reads.2 wrote) reads.3

-- or a fault was met
pub returns-in-Err-clause-prefix : goal.returns-in-Err-clause-prefix
returns-in-Err-clause-prefix g c = λ t notes kinds are bytes left.
    let Is : List Field → List ℕ → Type 0 =
    IsAskLineBy c.args.grammar (g.V.Vocabulary.words c.args.vocabulary.now) (g.V.Notation.number_texts c.args.vocabulary.now) t.schema t.rows in
    let rem : RecordAwareReader g.row.A.Denot → KnownBytes = λ w. g.A.Read.remaining w.inner in
    let records = map fields_of c.read_ahead-more.new.ahead.items in
    let before = g.W.Write.contents c.args.writer.now in
    let now = g.W.Write.contents c.rounds.writer in
    let after = g.W.Write.contents c.answer_ahead.new.writer in
    let wrote : WritesLines Is records now after = subst (λ items. WritesLines Is (map fields_of items) now after) c.deref.ensures.value (c.in_ok-opened.ensures.ok t notes kinds are) in
    let stops : FailsAhead rem c.rounds.records records c.in-Err.fault = search rules in
    wrote_part Is rem bytes stops.at stops.at stops.read_so_far stops.gave.few before after
    (ahead_stands Is rem bytes c.rounds.records before now after (c.rounds.invariant.stands t notes kinds are bytes left) records stops.at stops.read_so_far stops.gave wrote)
    c.in-Err.fault stops.too_long

pub rounds-preserved : goal.rounds-preserved
rounds-preserved g c =
    let Is : Table → List Field → List ℕ → Type 0 = λ t.
    IsAskLineBy c.args.grammar (g.V.Vocabulary.words c.args.vocabulary.now) (g.V.Notation.number_texts c.args.vocabulary.now) t.schema t.rows in
    let rem : RecordAwareReader g.row.A.Denot → KnownBytes = λ w. g.A.Read.remaining w.inner in
    let records = map fields_of c.read_ahead-more.new.ahead.items in
    let before = g.W.Write.contents c.args.writer.now in
    let now = g.W.Write.contents c.rounds.writer in
    let after = g.W.Write.contents c.answer_ahead.new.writer in
    let reads : ReadsAhead rem c.rounds.records c.read_ahead-more.new.records records true = search rules in
    record {
      going = reads.2;
      counted = omega (arith, reads.0.counted, reads.1, c.rounds.invariant.counted);
      few = reads.0.few;
      open_of = c.in_ok-opened.ensures.open_of;
      stands = λ t notes kinds are bytes left. ahead_stands (Is t) rem bytes c.rounds.records before now after (c.rounds.invariant.stands t notes kinds are bytes left) records
          c.read_ahead-more.new.records.input c.read_ahead-more.new.records.read_so_far reads.0
          (subst (λ items. WritesLines (Is t) (map fields_of items) now after) c.deref.ensures.value (c.in_ok-opened.ensures.ok t notes kinds are));
    }
