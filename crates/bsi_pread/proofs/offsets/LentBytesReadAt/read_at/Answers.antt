use Rattle.bsi_pread.proofs.Placing.{lent_end, lent_read}
use Rattle.bsi_pread.proofs.offsets.LentBytesReadAt.read_at.Goals as goal

pub returns-clause-bytes : goal.returns-clause-bytes
returns-clause-bytes c = (
  lent_read c.args.self.now.bytes.now c.split_at.result.1.now c.copy_from_slice.new.self c.args.bytes.now c.args.at c.min-from.result c.min-count.result
      c.min-from.ensures c.split_at.ensures.back c.min-count.ensures c.copy_from_slice.ensures.after,
  lent_end c.args.self.now.bytes.now c.split_at.result.1.now c.copy_from_slice.new.self c.args.bytes.now c.args.at c.min-from.result c.min-count.result
      c.min-from.ensures c.split_at.ensures.back c.min-count.ensures c.copy_from_slice.ensures.after,
)
