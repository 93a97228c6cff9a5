use Rattle.std.proofs.Common.{◌≡◌, length, ap, ap₂, sym, ◌∙◌}
use Rattle.std.specs.Prelude.{◌&&◌, ◌||◌}
use Rattle.std.specs.Simd.Lanes.{zip2}
use Rattle.std.proofs.lemmas.List.{length-map}
use Rattle.std.proofs.lemmas.Simd.{length-zip2}
use Rattle.bsi_columns.proofs.Answering.{narrowed_equal, narrowed_by_one, narrowed_by_two}
use Rattle.bsi_columns.proofs.decomposed.vectors.narrow_into.Goals as goal

pub or_with-requires : goal.or_with-requires
or_with-requires g c =
    let selection = c.args.selection.now.bits in
    let scratch = c.le_into.new.out.bits in
    let ds = g.E.Encoding.digits c.args.component.now in
    let long : length scratch ≡ length ds = ap length c.le_into.ensures.bits ∙ length-map ds _ in
    let long_after : length c.le_into-then-digit-gt0.new.out.bits ≡ length ds = ap length c.le_into-then-digit-gt0.ensures.bits ∙ length-map ds _ in
    let same : length selection ≡ length scratch = sym c.requires.same ∙ sym long in
    ap length c.and_with-in-AtMost.ensures.bits ∙ length-zip2 ◌&&◌ selection scratch same ∙ sym c.requires.same ∙ sym long_after

pub returns-in-Equal-clause-selection : goal.returns-in-Equal-clause-selection
returns-in-Equal-clause-selection g c =
    let selection = c.args.selection.now.bits in
    rw c.in-Equal.is
    (c.and_with.ensures.bits ∙ ap (zip2 ◌&&◌ selection) c.eq_into.ensures.bits ∙ narrowed_equal selection (g.E.Encoding.digits c.args.component.now) c.args.digit)

pub returns-then-digit-gt0-clause-selection : goal.returns-then-digit-gt0-clause-selection
returns-then-digit-gt0-clause-selection g c =
    let selection = c.args.selection.now.bits in
    let ds = g.E.Encoding.digits c.args.component.now in
    let both = ap₂ (zip2 ◌||◌) (c.and_with-in-AtMost.ensures.bits ∙ ap (zip2 ◌&&◌ selection) c.le_into.ensures.bits) c.le_into-then-digit-gt0.ensures.bits in
    rw c.in-AtMost.is (c.or_with.ensures.bits ∙ both ∙ narrowed_by_two selection ds c.args.digit c.if-digit-gt0.true)

pub returns-else-digit-gt0-clause-selection : goal.returns-else-digit-gt0-clause-selection
returns-else-digit-gt0-clause-selection g c =
    let selection = c.args.selection.now.bits in
    rw c.in-AtMost.is
    (c.and_with-in-AtMost.ensures.bits ∙ ap (zip2 ◌&&◌ selection) c.le_into.ensures.bits
    ∙ narrowed_by_one selection (g.E.Encoding.digits c.args.component.now) c.args.digit c.if-digit-gt0.false)

pub and_with-requires : goal.and_with-requires
and_with-requires g c = sym c.requires.same ∙ sym (ap length c.eq_into.ensures.bits ∙ length-map (g.E.Encoding.digits c.args.component.now) _)

pub and_with-requires-in-AtMost : goal.and_with-requires-in-AtMost
and_with-requires-in-AtMost g c = sym c.requires.same ∙ sym (ap length c.le_into.ensures.bits ∙ length-map (g.E.Encoding.digits c.args.component.now) _)

pub le_into-requires-then-digit-gt0-clause-same : goal.le_into-requires-then-digit-gt0-clause-same
le_into-requires-then-digit-gt0-clause-same g c = sym (ap length c.le_into.ensures.bits ∙ length-map (g.E.Encoding.digits c.args.component.now) _)

pub returns-in-Equal-clause-scratch : goal.returns-in-Equal-clause-scratch
returns-in-Equal-clause-scratch g c = ap length c.eq_into.ensures.bits ∙ length-map (g.E.Encoding.digits c.args.component.now) _ ∙ c.requires.scratch

pub returns-then-digit-gt0-clause-scratch : goal.returns-then-digit-gt0-clause-scratch
returns-then-digit-gt0-clause-scratch g c = ap length c.le_into-then-digit-gt0.ensures.bits ∙ length-map (g.E.Encoding.digits c.args.component.now) _ ∙ c.requires.scratch

pub returns-else-digit-gt0-clause-scratch : goal.returns-else-digit-gt0-clause-scratch
returns-else-digit-gt0-clause-scratch g c = ap length c.le_into.ensures.bits ∙ length-map (g.E.Encoding.digits c.args.component.now) _ ∙ c.requires.scratch
