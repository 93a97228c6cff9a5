use Rattle.std.proofs.Common.{◌≡◌, ◌∷◌, ◌++◌, [], List, rules, subst, sym, refl}
use Rattle.std.specs.Prelude.{All}
use Rattle.std.specs.List.{AllZip}
use Rattle.std.proofs.lemmas.Result.{err_from_is_err_and}
use Rattle.std.proofs.lemmas.List.Elements.{All-append, All-cons, All-nil}
use Rattle.bsi_rows.specs.Table.{Table}
use Rattle.bsi_storage.specs.ChosenFiles.{AreFileHeads, HasSizes, IsHeadAt, KeepsTable}
use Rattle.bsi_storage.specs.Opens.{IsReadOrNoMemory}
use Rattle.bsi_syntax.specs.Bytes.{Bytes}
use Rattle.bsi_storage.specs.Saved.{with_only}
use Rattle.bsi_storage.specs.declared.segment_head.SegmentHead.{SegmentHead}
use Rattle.bsi_storage.proofs.FileWalk.{all_walked, begins_two, next, next_not_one, next_two, none_so, some_heads, some_so, walk_on, walk_start}
use Rattle.bsi_storage.proofs.file_heads.read_heads.Goals as goal

pub segments-init : goal.segments-init
segments-init g c = record {
  walked = λ t notes kinds keeps. walk_start (g.R.ReadAt.all_bytes c.args.reader.now) t notes kinds keeps c.new-heads.result.items c.new-heads.ensures.items;
  sizes = subst (All HasSizes) (sym c.new-heads.ensures.items) (All-nil HasSizes);
}

pub segments-preserved : goal.segments-preserved
segments-preserved g c =
    let known = g.R.ReadAt.all_bytes c.args.reader.now in
    let held = c.segments.invariant in
    let heads = c.segments.heads.items in
    let at = c.segments.at in
    let head = c.in-Some.head in
    let is = rw c.in-Some.is at c.in_ok-head.ensures.is in
    let not_one = rw c.in-Some.is at c.in_ok-head.ensures.not_one in
    let sizes = rw c.in-Some.is at c.in_ok-head.ensures.sizes in
    let more : c.push.new.self.items ≡ heads ++ head ∷ [] = search rules in
    record {
      walked = λ t notes kinds keeps.
          (let walked = held.walked t notes kinds keeps in
          let n = next known t notes kinds keeps heads at walked (c.in_ok-has_ended.ensures.no c.if-branch.false) in
          let two = next_not_one known t notes kinds keeps heads at walked n not_one in
          let begins = begins_two known t notes kinds keeps heads at walked n two in
          walk_on known t notes kinds keeps heads at walked n two head (is (with_only t n.p.rows) n.p.notes kinds begins) c.push.new.self.items more c.in-Some-find_end.end c.in-Some-find_end.ensures);
      sizes = subst (All HasSizes) (sym more) (All-append HasSizes heads (head ∷ []) held.sizes (All-cons HasSizes head [] sizes (All-nil HasSizes)));
    }

-- the bytes end behind the segments whose heads were read
pub returns-then-branch-clause-heads : goal.returns-then-branch-clause-heads
returns-then-branch-clause-heads g c =
    let known = g.R.ReadAt.all_bytes c.args.reader.now in
    some_so c.of.result
    (λ file same t notes kinds keeps.
    subst (λ (hs : List SegmentHead). AreFileHeads known hs t notes kinds) (sym same)
    (all_walked known t notes kinds keeps c.segments.heads.items c.segments.at (c.segments.invariant.walked t notes kinds keeps) (c.in_ok-has_ended.ensures.yes c.if-branch.true)))
    c.of.ensures.some

pub returns-then-branch-clause-none : goal.returns-then-branch-clause-none
returns-then-branch-clause-none g c =
    let known = g.R.ReadAt.all_bytes c.args.reader.now in
    none_so c.of.result
    (λ none t notes kinds keeps two.
    some_heads known c.segments.heads.items t notes kinds
    (all_walked known t notes kinds keeps c.segments.heads.items c.segments.at (c.segments.invariant.walked t notes kinds keeps) (c.in_ok-has_ended.ensures.yes c.if-branch.true)) none)
    c.of.ensures.none

-- or a segment begins there
pub returns-in_err-head-clause-fault : goal.returns-in_err-head-clause-fault
returns-in_err-head-clause-fault g c =
    let known = g.R.ReadAt.all_bytes c.args.reader.now in
    let p = err_from_is_err_and c.from_residual-in_err-head.result c.from_residual-in_err-head.ensures.1 in
    let met : (t : Table) → (notes kinds : Bytes) → KeepsTable known t notes kinds → IsReadOrNoMemory c.in_err-head.field-0.0 =
    λ t notes kinds keeps.
    (let n = next known t notes kinds keeps c.segments.heads.items c.segments.at (c.segments.invariant.walked t notes kinds keeps) (c.in_ok-has_ended.ensures.no c.if-branch.false) in
    c.in_err-head.ensures.fault n.p.version (with_only t n.p.rows) n.p.notes kinds n.begins) in
    rw (p.1, p.2) met

pub returns-in_default-clause-none : goal.returns-in_default-clause-none
returns-in_default-clause-none g c = λ t notes kinds keeps two.
    (let known = g.R.ReadAt.all_bytes c.args.reader.now in
    let walked = c.segments.invariant.walked t notes kinds keeps in
    let none = rw c.in_default.is at c.in_ok-head.ensures.none in
    let n = next known t notes kinds keeps c.segments.heads.items c.segments.at walked (c.in_ok-has_ended.ensures.no c.if-branch.false) in
    none (with_only t n.p.rows) n.p.notes kinds
    (begins_two known t notes kinds keeps c.segments.heads.items c.segments.at walked n (next_two known t notes kinds keeps c.segments.heads.items c.segments.at walked n two)))

-- and belongs there
pub returns-then-not-follows-clause-none : goal.returns-then-not-follows-clause-none
returns-then-not-follows-clause-none g c = λ t notes kinds keeps two.
    (let known = g.R.ReadAt.all_bytes c.args.reader.now in
    let heads = c.segments.heads.items in
    let at = c.segments.at in
    let walked = c.segments.invariant.walked t notes kinds keeps in
    let n = next known t notes kinds keeps heads at walked (c.in_ok-has_ended.ensures.no c.if-branch.false) in
    let begins = begins_two known t notes kinds keeps heads at walked n (next_two known t notes kinds keeps heads at walked n two) in
    let is = rw c.in-Some.is at c.in_ok-head.ensures.is in
    c.if-not-follows.ensures refl known t kinds walked.done n.p
    (subst (λ (hs : List SegmentHead). AllZip (IsHeadAt known t kinds) hs walked.done) (sym c.deref.ensures.value) walked.each)
    (record { at = at; begins = begins; is = is (with_only t n.p.rows) n.p.notes kinds begins }))
