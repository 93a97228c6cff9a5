use Rattle.std.proofs.Common.{ap, ◌∙◌}
use Rattle.std.specs.Prelude.{count_by, nat_le, ◌&&◌}
use Rattle.std.specs.Simd.Lanes.{zip2}
use Rattle.bsi_bits.proofs.Pairs.{zip2-map_right}
use Rattle.bsi_components.proofs.encoding.Encoding.count_le.Goals as goal

-- the digits are tested first, and then counted under the selection
pub returns-clause-count : goal.returns-clause-count
returns-clause-count g c =
    c.count_and.ensures ∙ ap (λ tests. count_by (λ b. b) (zip2 ◌&&◌ c.args.selection.now.bits tests)) c.le_into.ensures.bits
    ∙ ap (count_by (λ b. b)) (zip2-map_right ◌&&◌ (λ v. nat_le v c.args.d) c.args.selection.now.bits (g.Self.Encoding.digits c.args.self.now))
