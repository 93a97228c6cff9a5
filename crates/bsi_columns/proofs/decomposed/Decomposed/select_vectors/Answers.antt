use Rattle.std.proofs.Common.{◌≡◌, ℕ, ◌&&◌, map, ap, ◌∙◌}
use Rattle.bsi_digits.specs.Comparisons.{number_or_zero}
use Rattle.std.specs.Simd.Lanes.{zip2}
use Rattle.bsi_slices.specs.Decisions.{as_expected, relates}
use Rattle.bsi_columns.specs.Decomposed.{entries_of}
use Rattle.bsi_columns.proofs.Answering.{cut_answers}
use Rattle.bsi_columns.proofs.decomposed.Decomposed.select_vectors.Goals as goal

pub returns : goal.returns
returns g c =
    let inside = c.self.inside in
    let not_null = inside.not_null.bits in
    let entries = entries_of inside.bases not_null (map g.E.Encoding.digits inside.components.items) in
    let test = λ (x : ℕ). relates c.args.test.relation x c.args.test.constant in
    let selection : c.narrow_vectors.new.selection.bits ≡ map (λ e. test (number_or_zero e)) entries = rw (← c.self.view_is) at c.narrow_vectors.ensures in
    rw (← c.self.view_is) (c.and_answers.ensures ∙ ap (λ b. zip2 (λ answer there. as_expected c.args.test.expected answer && there) c.narrow_vectors.new.selection.bits b.bits) c.bits.ensures
    ∙ cut_answers test c.args.test.expected entries c.narrow_vectors.new.selection.bits not_null selection c.self.invariant.0.not_null_is)
