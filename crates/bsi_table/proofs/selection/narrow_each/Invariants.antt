use Rattle.std.proofs.Common.{◌≡◌, ℕ, ◌*◌, ◌<◌, ◌≤◌}
use Rattle.std.specs.Prelude.{◌&&◌}
use Rattle.bsi_bits.specs.Packed.{bit_of}
use Rattle.bsi_rows.specs.Rows.{holds}
use Rattle.bsi_table.specs.Encoded.{row_in}
use Rattle.bsi_table.proofs.selection.narrow_each.Given as goal

-- the spans so far are narrowed, and the others are as they were
abbrev pub invariant-spans : goal.invariant-spans
invariant-spans l = record {
  done : (r : ℕ) → r < 64 * (1024 * l.k) → r < l.rows → bit_of l.words r ≡ (bit_of l.fn.words r && holds l.pred (row_in l.columns r));
  rest : (r : ℕ) → 64 * (1024 * l.k) ≤ r → bit_of l.words r ≡ bit_of l.fn.words r;
}
