use Rattle.std.proofs.Common.{◌≡◌, ◌*◌, ◌<◌, ℕ, length}
use Rattle.std.specs.Prelude.{slice_index}
use Rattle.bsi_rows.specs.Numbering.{count_before}
use Rattle.bsi_origins.proofs.origins.Origins.read_tally.Given as goal

abbrev pub invariant-feeders : goal.invariant-feeders
invariant-feeders l = record {
  long : length l.counts ≡ 64;
  read : (f : ℕ) → f < l.f → slice_index l.counts f ≡ count_before l.self.rows (512 * l.k) f;
}
