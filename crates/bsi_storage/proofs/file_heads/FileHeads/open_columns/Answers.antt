use Rattle.std.proofs.Common.{◌<◌, ◌≤◌, All, List, ap, get_or, length, rules, subst, sym, take, ◌∙◌}
use Rattle.std.proofs.lemmas.List.{take_all}
use Rattle.std.proofs.lemmas.Result.{err_from_is_err_and}
use Rattle.bsi_projection.specs.Chosen.{chosen_table}
use Rattle.bsi_rows.specs.Rows.{SourcedRow}
use Rattle.bsi_rows.specs.Table.{Table}
use Rattle.bsi_schema.specs.Columns.{Declared}
use Rattle.bsi_storage.specs.Choices.{IsChoice}
use Rattle.bsi_storage.specs.ChosenFiles.{parts_in, AreFileHeads, SaysAllChosen}
use Rattle.bsi_storage.specs.declared.segment_head.SegmentHead.{SegmentHead}
use Rattle.bsi_storage.specs.Opens.{IsReadOrNoMemory}
use Rattle.bsi_storage.specs.Saved.{with_only}
use Rattle.bsi_storage.proofs.FileWalk.{head_is, rows_all, rows_in, rows_more, rows_within, said_first, said_more, some_head}
use Rattle.bsi_syntax.specs.Bytes.{Bytes}
use Rattle.bsi_table.specs.Index.{table_of}
use Rattle.bsi_storage.proofs.file_heads.FileHeads.open_columns.Goals as goal

pub returns-in_err-first-clause-fault : goal.returns-in_err-first-clause-fault
returns-in_err-first-clause-fault g c =
    let known = g.R.ReadAt.all_bytes c.args.reader.now in
    let heads = c.args.self.now.heads.items in
    let p = err_from_is_err_and c.from_residual.result c.from_residual.ensures.1 in
    let met : (t : Table) → (notes kinds : Bytes) → AreFileHeads known heads t notes kinds → IsReadOrNoMemory c.in_err-first.field-0.0 =
    λ t notes kinds are.
    (let own = head_is known heads t notes kinds are 0 c.index.result.now c.index.ensures (some_head known heads t notes kinds are) in
    let part = get_or (parts_in are.keeps) 0 are.keeps.file.last in
    c.in_err-first.ensures.fault own.at (with_only t part.rows) part.notes kinds own.begins own.is) in
    rw (p.1, p.2) met

pub segments-init : goal.segments-init
segments-init g c = record {
  first = λ t notes kinds are.
      (let known = g.R.ReadAt.all_bytes c.args.reader.now in
      let heads = c.args.self.now.heads.items in
      let some = some_head known heads t notes kinds are in
      let own = head_is known heads t notes kinds are 0 c.index.result.now c.index.ensures some in
      let part = get_or (parts_in are.keeps) 0 are.keeps.file.last in
      let opened = rw c.in-Some.is at c.in_ok-first.ensures.opened in
      opened own.at (with_only t part.rows) part.notes kinds own.begins own.is
      ∙ ap (λ (rows : List SourcedRow). chosen_table c.args.chosen.now (with_only t rows)) (sym (rows_more known heads t notes kinds are 0 some)));
  said = said_first (g.R.ReadAt.all_bytes c.args.reader.now) c.args.self.now.heads.items c.args.chosen.now c.in-Some.first.schema c.in-Some.first.rows c.index.result.now c.index.ensures
      c.args.self.now.some (rw c.in-Some.is at c.in_ok-first.ensures.said);
}

pub returns-in_err-append_segment-clause-fault : goal.returns-in_err-append_segment-clause-fault
returns-in_err-append_segment-clause-fault g c =
    let known = g.R.ReadAt.all_bytes c.args.reader.now in
    let heads = c.args.self.now.heads.items in
    let k = c.segments.k in
    let within : k < length heads = search rules in
    let p = err_from_is_err_and c.from_residual-in_err-append_segment.result c.from_residual-in_err-append_segment.ensures.1 in
    let met : (t : Table) → (notes kinds : Bytes) → AreFileHeads known heads t notes kinds → IsReadOrNoMemory c.in_err-append_segment.field-0.0 =
    λ t notes kinds are.
    (let own = head_is known heads t notes kinds are k c.index-in-segments.result.now c.index-in-segments.ensures within in
    let part = get_or (parts_in are.keeps) k are.keeps.file.last in
    c.in_err-append_segment.ensures.fault t kinds part (rows_in (take k (parts_in are.keeps))) own (c.segments.invariant.first t notes kinds are)
    (rows_within known heads t notes kinds are k within)) in
    rw (p.1, p.2) met

pub returns-then-not-branch-clause-none : goal.returns-then-not-branch-clause-none
returns-then-not-branch-clause-none g c = λ t notes kinds are choice.
    (let known = g.R.ReadAt.all_bytes c.args.reader.now in
    let heads = c.args.self.now.heads.items in
    let k = c.segments.k in
    let within : k < length heads = search rules in
    let own = head_is known heads t notes kinds are k c.index-in-segments.result.now c.index-in-segments.ensures within in
    c.in_ok-append_segment.ensures.none c.if-not-branch.true
    (subst (λ (s : Declared). IsChoice (length s.columns) c.args.chosen.now) (sym own.is.schema) choice))

pub segments-preserved : goal.segments-preserved
segments-preserved g c =
    let known = g.R.ReadAt.all_bytes c.args.reader.now in
    let heads = c.args.self.now.heads.items in
    let k = c.segments.k in
    let within : k < length heads = search rules in
    let done = c.in_ok-append_segment.ensures.said c.if-not-branch.false in
    record {
      first = λ t notes kinds are.
          (let own = head_is known heads t notes kinds are k c.index-in-segments.result.now c.index-in-segments.ensures within in
          let part = get_or (parts_in are.keeps) k are.keeps.file.last in
          c.in_ok-append_segment.ensures.appended c.if-not-branch.false t kinds part (rows_in (take k (parts_in are.keeps))) own (c.segments.invariant.first t notes kinds are)
          ∙ ap (λ (rows : List SourcedRow). chosen_table c.args.chosen.now (with_only t rows)) (sym (rows_more known heads t notes kinds are k within)));
      said = said_more known heads c.args.chosen.now k c.index-in-segments.result.now c.index-in-segments.ensures within (table_of c.segments.whole) (table_of c.append_segment.new.whole) done.0
          c.segments.invariant.said done.1 done.2;
    }

pub returns-clause-opened : goal.returns-clause-opened
returns-clause-opened g c = λ t notes kinds are.
    (let known = g.R.ReadAt.all_bytes c.args.reader.now in
    let heads = c.args.self.now.heads.items in
    let past : length heads ≤ c.segments.k = search rules in
    c.segments.invariant.first t notes kinds are
    ∙ ap (λ (rows : List SourcedRow). chosen_table c.args.chosen.now (with_only t rows)) (rows_all known heads t notes kinds are c.segments.k past))

pub returns-clause-there : goal.returns-clause-there
returns-clause-there g c = λ t notes kinds are.
    (let known = g.R.ReadAt.all_bytes c.args.reader.now in
    let heads = c.args.self.now.heads.items in
    let own = head_is known heads t notes kinds are 0 c.index.result.now c.index.ensures (some_head known heads t notes kinds are) in
    let there = rw c.in-Some.is at c.in_ok-first.ensures.there in
    subst (λ (s : Declared). All (λ c'. c' < length s.columns) c.args.chosen.now) own.is.schema there)

pub returns-clause-said : goal.returns-clause-said
returns-clause-said g c =
    let known = g.R.ReadAt.all_bytes c.args.reader.now in
    let heads = c.args.self.now.heads.items in
    let past : length heads ≤ c.segments.k = search rules in
    subst (λ (hs : List SegmentHead). SaysAllChosen known hs c.args.chosen.now c.segments.whole.schema c.segments.whole.rows) (take_all c.segments.k heads past) c.segments.invariant.said
