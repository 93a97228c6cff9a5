use Rattle.std.proofs.Common.{◌∷◌, []}
use Rattle.bsi_system.specs.declared.ring_reader.Front.TheVariants.{Empty, Ended, Row}
use Rattle.bsi_system.proofs.Progress.{first_seen, front_at, looks_ended, looks_same, may_load}
use Rattle.bsi_system.proofs.readers.check_first.Goals as goal

pub returns-in-Empty-clause-same : goal.returns-in-Empty-clause-same
returns-in-Empty-clause-same c = looks_same c.args.readers.now.items c.args.feeder Empty c.front_of.new.readers.items c.in-Empty.ensures

pub returns-in-Ended-clause-reply : goal.returns-in-Ended-clause-reply
returns-in-Ended-clause-reply c = looks_ended c.args.readers.now.items c.args.feeder c.front_of.new.readers.items c.args.full c.in-Ended.ensures

pub returns-in-Ended-clause-same : goal.returns-in-Ended-clause-same
returns-in-Ended-clause-same c = looks_same c.args.readers.now.items c.args.feeder Ended c.front_of.new.readers.items c.in-Ended.ensures

pub returns-then-full-clause-reply : goal.returns-then-full-clause-reply
returns-then-full-clause-reply c = (may_load c.args.readers.now.items c.args.feeder c.front_of.new.readers.items c.in-Row.ensures, c.if-full.true)

pub returns-then-full-clause-same : goal.returns-then-full-clause-same
returns-then-full-clause-same c = looks_same c.args.readers.now.items c.args.feeder Row c.front_of.new.readers.items c.in-Row.ensures

pub returns-then-full-clause-seen : goal.returns-then-full-clause-seen
returns-then-full-clause-seen c =
    let new = c.front_of.new.readers.items in
    let first_row = front_at c.args.readers.now.items c.args.feeder new c.in-Row.ensures in
    first_seen new c.args.feeder (first_row.0 ∷ []) first_row.1

pub returns-clause-reply : goal.returns-clause-reply
returns-clause-reply c = (may_load c.args.readers.now.items c.args.feeder c.front_of.new.readers.items c.in-Row.ensures, c.if-full.false)

pub returns-clause-same : goal.returns-clause-same
returns-clause-same c = looks_same c.args.readers.now.items c.args.feeder Row c.front_of.new.readers.items c.in-Row.ensures

pub returns-clause-first : goal.returns-clause-first
returns-clause-first c = front_at c.args.readers.now.items c.args.feeder c.front_of.new.readers.items c.in-Row.ensures
