use Rattle.std.proofs.Common.{ap, ◌∙◌}
use Rattle.std.specs.Prelude.{not, ◌&&◌}
use Rattle.std.specs.Simd.Lanes.{zip2}
use Rattle.bsi_columns.proofs.Answering.{zip2-map_left}
use Rattle.bsi_columns.proofs.decomposed.vectors.and_answers.Goals as goal
use Rattle.bsi_columns.proofs.decomposed.vectors.and_answers.Goals.{then-not-expected, else-not-expected}

pub returns : goal.returns
returns c =
    let not_null = c.args.not_null.now.bits in
    let old = c.args.selection.now.bits in
    elim c.if-not-expected.branch [
      | then-not-expected w ↦
          rw w.if-not-expected.true
          (c.and_with.ensures.bits ∙ ap (λ xs. zip2 ◌&&◌ xs not_null) (ap (λ b. b.bits) w.selection-is ∙ w.flip.ensures.bits)
          ∙ zip2-map_left ◌&&◌ not old not_null)
      | else-not-expected w ↦
          rw w.if-not-expected.false
          (c.and_with.ensures.bits ∙ ap (λ b. zip2 ◌&&◌ b.bits not_null) w.selection-is)
    ]
