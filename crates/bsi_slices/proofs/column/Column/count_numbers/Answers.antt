use Rattle.std.proofs.Common.{ap, ◌∙◌}
use Rattle.std.specs.Prelude.{count_by, ◌&&◌}
use Rattle.std.specs.Simd.Lanes.{zip2}
use Rattle.bsi_slices.proofs.Ranking.{count_numbers}
use Rattle.bsi_slices.proofs.column.Column.count_numbers.Goals as goal

pub returns : goal.returns
returns g c =
    let selection = c.args.selection.now.bits in
    c.count_and.ensures ∙ ap (λ not_null. count_by (λ b. b) (zip2 ◌&&◌ selection not_null)) c.not_null.ensures ∙ count_numbers selection (g.Self.Column.entries c.args.self.now)
