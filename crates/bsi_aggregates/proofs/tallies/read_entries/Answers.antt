use Rattle.std.proofs.Common.{◌+◌, ◌*◌, Some, None, pos, get_or, ap, sym, ◌∙◌}
use Rattle.std.specs.Prelude.{◌==◌, if◌then◌else◌}
use Rattle.std.specs.Option.{option_map}
use Rattle.std.proofs.lemmas.Nat.Bits.{bit_at-zero}
use Rattle.bsi_shift.specs.Shifted.{shifted_entries}
use Rattle.bsi_aggregates.specs.Tallies.{entries_or_nulls}
use Rattle.bsi_aggregates.proofs.Tallied.{null_at}
use Rattle.bsi_aggregates.proofs.tallies.read_entries.Goals as goal

pub returns-in-None : goal.returns-in-None
returns-in-None c selection r near =
    let n = 64 * c.args.at + r in
    ap (λ b. if b == 1 then Some (get_or c.args.block.now r (pos 0)) else None) (bit_at-zero r)
    ∙ sym (ap (λ column. get_or (entries_or_nulls selection (option_map (λ c. shifted_entries c.now) column)) n None) c.in-None.is ∙ null_at selection n)
