use Rattle.std.proofs.Common.{refl}
use Rattle.bsi_slices.proofs.SliceEntries.{entries_same, sliced_same}
use Rattle.bsi_slices.proofs.slices.reserve_rows.Goals as goal

-- the marks grew first
pub returns-in_ok-reserve-clause-sliced : goal.returns-in_ok-reserve-clause-sliced
returns-in_ok-reserve-clause-sliced c =
    sliced_same c.args.not_null.now.bits c.reserve.new.self.bits c.args.slices.now.vectors c.reserve-then-room.new.self.vectors c.reserve.ensures.bits c.reserve-then-room.ensures.same.count (λ k within. c.reserve-then-room.ensures.same.bits k) c.requires.sliced

pub returns-in_ok-reserve-clause-entries : goal.returns-in_ok-reserve-clause-entries
returns-in_ok-reserve-clause-entries c =
    entries_same c.args.not_null.now.bits c.reserve.new.self.bits c.args.slices.now.vectors c.reserve-then-room.new.self.vectors c.reserve.ensures.bits c.reserve-then-room.ensures.same.count (λ k within. c.reserve-then-room.ensures.same.bits k)

-- the slices that found room have the same bits
pub returns-in_err-reserve-2-clause-sliced : goal.returns-in_err-reserve-2-clause-sliced
returns-in_err-reserve-2-clause-sliced c =
    sliced_same c.args.not_null.now.bits c.args.not_null.now.bits c.args.slices.now.vectors c.reserve-else-room.new.self.vectors refl c.reserve-else-room.ensures.same.count (λ k within. c.reserve-else-room.ensures.same.bits k) c.requires.sliced

pub returns-in_err-reserve-2-clause-entries : goal.returns-in_err-reserve-2-clause-entries
returns-in_err-reserve-2-clause-entries c =
    entries_same c.args.not_null.now.bits c.args.not_null.now.bits c.args.slices.now.vectors c.reserve-else-room.new.self.vectors refl c.reserve-else-room.ensures.same.count (λ k within. c.reserve-else-room.ensures.same.bits k)

-- the slices grew first
pub returns-in_ok-reserve-2-clause-sliced : goal.returns-in_ok-reserve-2-clause-sliced
returns-in_ok-reserve-2-clause-sliced c =
    sliced_same c.args.not_null.now.bits c.reserve-else-room-2.new.self.bits c.args.slices.now.vectors c.reserve-else-room.new.self.vectors c.reserve-else-room-2.ensures.bits c.reserve-else-room.ensures.same.count (λ k within. c.reserve-else-room.ensures.same.bits k) c.requires.sliced

pub returns-in_ok-reserve-2-clause-entries : goal.returns-in_ok-reserve-2-clause-entries
returns-in_ok-reserve-2-clause-entries c =
    entries_same c.args.not_null.now.bits c.reserve-else-room-2.new.self.bits c.args.slices.now.vectors c.reserve-else-room.new.self.vectors c.reserve-else-room-2.ensures.bits c.reserve-else-room.ensures.same.count (λ k within. c.reserve-else-room.ensures.same.bits k)
