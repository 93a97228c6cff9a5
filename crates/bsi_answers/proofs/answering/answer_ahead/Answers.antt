use Rattle.std.proofs.Common.{List, ℕ, arith, map, rules, subst, true, false}
use Rattle.std.specs.Prelude.{IfErr}
use Rattle.csv.specs.Records.{fields_of}
use Rattle.bsi_rows.specs.Fields.{Field}
use Rattle.bsi_answers.proofs.Asking.{wrote_all, wrote_none, wrote_part}
use Rattle.bsi_answers.proofs.Passing.{if_err}
use Rattle.bsi_answers.specs.AskLines.{IsAskLineBy}
use Rattle.bsi_answers.specs.ReadAhead.{FailsAhead, ReadsAhead, WritesFirstLines, WritesLines}
use Rattle.bsi_answers.proofs.ReadingAhead.{ahead_prefix, ahead_stands, gave_some}
use Rattle.bsi_answers.proofs.answering.answer_ahead.Goals as goal

pub rounds-init : goal.rounds-init
rounds-init g c = record {
  going = c.requires.fresh.1;
  counted = omega arith;
  few = omega (arith, c.requires.fresh.0);
  stands = λ bytes left. wrote_none _ bytes _ _ _ _ c.requires.start c.requires.fresh.0 left;
}

-- lines of first records of the ahead were written
pub returns-in_err-write_answer_lines-clause-prefix : goal.returns-in_err-write_answer_lines-clause-prefix
returns-in_err-write_answer_lines-clause-prefix g c =
    let Is : List Field → List ℕ → Type 0 =
    IsAskLineBy c.args.grammar (g.V.Vocabulary.words c.args.vocabulary.now) (g.V.Notation.number_texts c.args.vocabulary.now) c.args.table.now.schema c.args.table.now.rows in
    let ahead = c.read_ahead-more.new.ahead.items in
    let now = g.W.Write.contents c.rounds.writer in
    let after = g.W.Write.contents c.write_answer_lines.new.writer in
    let gave = gave_some (λ w. g.A.Read.remaining w.inner) c.rounds.records c.read_ahead-more.new.records (map fields_of ahead) c.read_ahead-more.result c.read_ahead-more.ensures.reads
    c.read_ahead-more.ensures.stopped in
    let wrote : IfErr c.from_residual.result (WritesFirstLines Is (map fields_of c.deref.result.now) now after) = search rules in
    if_err c.from_residual.result (λ fault wrote bytes left. ahead_prefix Is (λ w. g.A.Read.remaining w.inner) bytes c.rounds.records (g.W.Write.contents c.args.writer.now) now after
    (c.rounds.invariant.stands bytes left) (map fields_of ahead) gave.0 gave.1 gave.2 fault
    (subst (λ items. WritesFirstLines Is (map fields_of items) now after fault) c.deref.ensures.value wrote)) wrote

-- all of them were, and then a fault was met
pub returns-in_err-more-clause-prefix : goal.returns-in_err-more-clause-prefix
returns-in_err-more-clause-prefix g c =
    let Is : List Field → List ℕ → Type 0 =
    IsAskLineBy c.args.grammar (g.V.Vocabulary.words c.args.vocabulary.now) (g.V.Notation.number_texts c.args.vocabulary.now) c.args.table.now.schema c.args.table.now.rows in
    let records = map fields_of c.read_ahead-more.new.ahead.items in
    let before = g.W.Write.contents c.args.writer.now in
    let now = g.W.Write.contents c.rounds.writer in
    let after = g.W.Write.contents c.write_answer_lines.new.writer in
    let wrote : WritesLines Is records now after = subst (λ items. WritesLines Is (map fields_of items) now after) c.deref.ensures.value c.in_ok-write_answer_lines.ensures.ok in
    let stops : IfErr c.from_residual-in_err-more.result (FailsAhead (λ w. g.A.Read.remaining w.inner) c.rounds.records records) = search rules in
    if_err c.from_residual-in_err-more.result (λ fault stopped bytes left. wrote_part Is (λ w. g.A.Read.remaining w.inner) bytes stopped.at stopped.at stopped.read_so_far stopped.gave.few before after
    (ahead_stands Is (λ w. g.A.Read.remaining w.inner) bytes c.rounds.records before now after (c.rounds.invariant.stands bytes left) records stopped.at stopped.read_so_far stopped.gave wrote)
    fault stopped.too_long) stops

-- no record is left
pub returns-then-not-branch-clause-ok : goal.returns-then-not-branch-clause-ok
returns-then-not-branch-clause-ok g c = λ bytes left.
    let Is : List Field → List ℕ → Type 0 =
    IsAskLineBy c.args.grammar (g.V.Vocabulary.words c.args.vocabulary.now) (g.V.Notation.number_texts c.args.vocabulary.now) c.args.table.now.schema c.args.table.now.rows in
    let records = map fields_of c.read_ahead-more.new.ahead.items in
    let before = g.W.Write.contents c.args.writer.now in
    let now = g.W.Write.contents c.rounds.writer in
    let after = g.W.Write.contents c.write_answer_lines.new.writer in
    let wrote : WritesLines Is records now after = subst (λ items. WritesLines Is (map fields_of items) now after) c.deref.ensures.value c.in_ok-write_answer_lines.ensures.ok in
    let reads : ReadsAhead (λ w. g.A.Read.remaining w.inner) c.rounds.records c.read_ahead-more.new.records records false = search rules in
    wrote_all Is (λ w. g.A.Read.remaining w.inner) bytes reads.0 reads.0 reads.1 reads.2.few before after
    (ahead_stands Is (λ w. g.A.Read.remaining w.inner) bytes c.rounds.records before now after (c.rounds.invariant.stands bytes left) records reads.0 reads.1 reads.2 wrote) reads.3

pub rounds-preserved : goal.rounds-preserved
rounds-preserved g c =
    let Is : List Field → List ℕ → Type 0 =
    IsAskLineBy c.args.grammar (g.V.Vocabulary.words c.args.vocabulary.now) (g.V.Notation.number_texts c.args.vocabulary.now) c.args.table.now.schema c.args.table.now.rows in
    let records = map fields_of c.read_ahead-more.new.ahead.items in
    let before = g.W.Write.contents c.args.writer.now in
    let now = g.W.Write.contents c.rounds.writer in
    let after = g.W.Write.contents c.write_answer_lines.new.writer in
    let wrote : WritesLines Is records now after = subst (λ items. WritesLines Is (map fields_of items) now after) c.deref.ensures.value c.in_ok-write_answer_lines.ensures.ok in
    let reads : ReadsAhead (λ w. g.A.Read.remaining w.inner) c.rounds.records c.read_ahead-more.new.records records true = search rules in
    record {
      going = reads.2;
      counted = omega (arith, reads.0.counted, reads.1, c.rounds.invariant.counted);
      few = reads.0.few;
      stands = λ bytes left. ahead_stands Is (λ w. g.A.Read.remaining w.inner) bytes c.rounds.records before now after (c.rounds.invariant.stands bytes left) records
          c.read_ahead-more.new.records.input c.read_ahead-more.new.records.read_so_far reads.0 wrote;
    }
