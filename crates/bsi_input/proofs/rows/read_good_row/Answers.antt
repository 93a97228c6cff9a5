use Rattle.std.proofs.Common.{◌≡◌, true, false, rules, subst, arith}
use Rattle.csv.specs.Reading.{ReadRecord}
use Rattle.csv.specs.Records.{fields_of}
use Rattle.bsi_input.specs.Formats.{given, good_row}
use Rattle.bsi_input.proofs.Taking.{has_ended, is_too_long, memory_fails, read_fails, taken_bad, taken_good, taken_none}
use Rattle.bsi_input.proofs.rows.read_good_row.Goals as goal

pub records-init : goal.records-init
records-init g c = record { read_so_far = taken_none _ _ _ _; plain = c.requires.by; counts = c.requires.counts }

pub returns-in_err-read_next-clause-stopped : goal.returns-in_err-read_next-clause-stopped
returns-in_err-read_next-clause-stopped g c = read_fails _ _ _ _ _ _ c.records.invariant _ c.from_residual.result c.from_residual.ensures.1

pub returns-then-not-branch-clause-given : goal.returns-then-not-branch-clause-given
returns-then-not-branch-clause-given g c =
    let input = c.read_next.new.input in
    let fields = fields_of c.read_next.new.fields in
    let none : ReadRecord g.R.Read.remaining c.records.input input false fields = search rules in
    has_ended _ _ _ _ _ _ c.records.invariant input fields none

pub returns-in_err-good-clause-stopped : goal.returns-in_err-good-clause-stopped
returns-in_err-good-clause-stopped g c =
    memory_fails _ _ _ _ _ _ c.records.invariant c.from_residual-in_err-good.result c.from_residual-in_err-good.ensures.1

pub returns-then-good-clause-given : goal.returns-then-good-clause-given
returns-then-good-clause-given g c =
    let input = c.read_next.new.input in
    let fields = fields_of c.read_next.new.fields in
    let reads : ReadRecord g.R.Read.remaining c.records.input input true fields = search rules in
    taken_good _ _ _ _ _ _ c.records.invariant input fields c.read.new.row reads
    (subst (λ good. given good c.read.new.row ≡ good_row (g.F.RowFormat.format c.args.layout.now.format) c.args.layout.now.header fields) c.if-good.true c.in_ok-good.ensures.row)

pub records-preserved : goal.records-preserved
records-preserved g c =
    let input = c.read_next.new.input in
    let fields = fields_of c.read_next.new.fields in
    let reads : ReadRecord g.R.Read.remaining c.records.input input true fields = search rules in
    taken_bad _ _ _ _ _ _ c.records.invariant input fields reads c.in_ok-read_next.ensures.by (omega (arith, c.records-test.true, c.most_records-most.ensures))
    (subst (λ good. given good c.read.new.row ≡ good_row (g.F.RowFormat.format c.args.layout.now.format) c.args.layout.now.header fields) c.if-good.false c.in_ok-good.ensures.row)

pub returns-in_err-read_next-2-clause-stopped : goal.returns-in_err-read_next-2-clause-stopped
returns-in_err-read_next-2-clause-stopped g c =
    read_fails _ _ _ _ _ _ c.records.invariant _ c.from_residual-in_err-read_next-2.result c.from_residual-in_err-read_next-2.ensures.1

pub returns-then-branch-clause-stopped : goal.returns-then-branch-clause-stopped
returns-then-branch-clause-stopped g c =
    let input = c.read_next-2.new.input in
    let fields = fields_of c.read_next-2.new.fields in
    let reads : ReadRecord g.R.Read.remaining c.records.input input true fields = search rules in
    is_too_long _ _ _ _ _ _ c.records.invariant input fields reads (omega (arith, c.records-test.false, c.most_records-most.ensures))

pub returns-clause-given : goal.returns-clause-given
returns-clause-given g c =
    let input = c.read_next-2.new.input in
    let fields = fields_of c.read_next-2.new.fields in
    let none : ReadRecord g.R.Read.remaining c.records.input input false fields = search rules in
    has_ended _ _ _ _ _ _ c.records.invariant input fields none
