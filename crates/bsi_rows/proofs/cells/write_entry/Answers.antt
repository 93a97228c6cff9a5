use Rattle.std.proofs.Common.{◌+◌, ◌*◌, set, subst, rules, arith}
use Rattle.bsi_rows.specs.RowBlocks.{IsWrittenEntry}
use Rattle.bsi_rows.proofs.BlockCells.{other_rows, written_null, written_number}
use Rattle.bsi_rows.proofs.cells.write_entry.Goals as goal

pub returns-in_default-clause-written : goal.returns-in_default-clause-written
returns-in_default-clause-written c =
    subst (IsWrittenEntry c.args.limits.now (set c.args.numbers.now (64 * c.args.c + c.args.r) 0) c.args.not_null.now c.args.c c.args.r) (search rules)
    (written_null c.args.limits.now c.args.numbers.now c.args.not_null.now c.args.c c.args.r (omega (arith, c.requires.within, c.requires.long, c.requires.slot)) c.requires.clear)

pub returns-clause-written : goal.returns-clause-written
returns-clause-written c =
    written_number c.args.limits.now c.args.numbers.now c.args.not_null.now c.args.c c.args.r (omega (arith, c.requires.within, c.requires.long, c.requires.slot)) c.requires.clear
    c.distance.result (omega (arith, c.requires.within, c.requires.words)) c.requires.slot c.args.entry (search rules)

pub returns-clause-other_rows : goal.returns-clause-other_rows
returns-clause-other_rows c = λ k s near apart.
    other_rows c.args.limits.now c.args.numbers.now c.args.not_null.now c.args.c c.args.r (omega (arith, c.requires.within, c.requires.long, c.requires.slot)) c.requires.clear
    c.distance.result (omega (arith, c.requires.within, c.requires.words)) c.requires.slot k s near apart
