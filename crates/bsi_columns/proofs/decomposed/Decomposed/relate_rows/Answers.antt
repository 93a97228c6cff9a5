use Rattle.std.proofs.Common.{◌≡◌, ◌+◌, ◌*◌, ◌<◌, length, None, get_or, ap, ap₂, sym, subst, ◌∙◌, arith}
use Rattle.std.proofs.Math.Nat.{mod-one}
use Rattle.std.proofs.lemmas.List.{length-map, get_or-map}
use Rattle.bsi_bits.specs.Packed.{bit_of}
use Rattle.bsi_digits.specs.Digits.{product, digit_of}
use Rattle.bsi_digits.specs.Comparisons.{number_or_zero}
use Rattle.bsi_slices.specs.PairRelations.{relation_holds}
use Rattle.bsi_columns.specs.Extremes.{number_at}
use Rattle.bsi_columns.specs.PairRelations.{relation_step}
use Rattle.bsi_columns.proofs.DigitRelations.{all_digits, digits_next}
use Rattle.bsi_columns.proofs.decomposed.Decomposed.relate_rows.Goals as goal

pub components-init : goal.components-init
components-init g c = λ p below row.
    let r = 64 * c.args.at + p in
    c.begin.ensures.bits p below ∙ ap₂ (relation_holds c.args.relation) (sym (mod-one (number_at c.args.self.now.entries r))) (sym (mod-one (number_at c.args.other.now.entries r)))

pub components-preserved : goal.components-preserved
components-preserved g c = λ p below row.
    let r = 64 * c.args.at + p in
    let own = c.args.self.now.bases in
    let i = c.components.i in
    let entries = c.args.self.now.entries in
    let others = c.args.other.now.entries in
    let u = number_at entries r in
    let v = number_at others r in
    let relation = c.args.relation in
    let rows = ap length c.component.ensures.digits ∙ length-map entries (λ e. digit_of own (number_or_zero e) i) in
    let first = ap (λ ds. get_or ds r 0) c.component.ensures.digits ∙ get_or-map (λ e. digit_of own (number_or_zero e) i) entries r None 0 row in
    let second = ap (λ ds. get_or ds r 0) c.component-in-components.ensures.digits
    ∙ get_or-map (λ e. digit_of c.args.other.now.bases (number_or_zero e) i) others r None 0 (omega (arith, row, c.requires.same)) ∙ ap (λ bs. digit_of bs v i) c.requires.bases in
    c.step_digits.ensures.bits p (omega (arith, below, c.components.auto.state, c.begin.ensures.long)) (omega (arith, row, rows))
    ∙ ap₂ (relation_step relation (bit_of c.components.state p)) first second
    ∙ ap (λ low. relation_step relation low (digit_of own u i) (digit_of own v i)) (c.components.invariant p below row)
    ∙ digits_next relation (rw c.bases-bases.ensures.bases at c.len-i-end.ensures.valid) u v i
    (omega (arith, c.components-test.true, c.len-i-end.ensures.len, ap length c.bases-bases.ensures.bases))

-- each component is taken in
pub returns-clause-bits : goal.returns-clause-bits
returns-clause-bits g c = λ p below row.
    let r = 64 * c.args.at + p in
    let own = c.args.self.now.bases in
    let u = number_at c.args.self.now.entries r in
    let v = number_at c.args.other.now.entries r in
    let all : c.components.i ≡ length own = omega (arith, c.components-test.false, c.components.auto.i-end, c.len-i-end.ensures.len, ap length c.bases-bases.ensures.bases) in
    let second : v < product own = subst (λ bs. v < product bs) c.requires.bases (c.bases.ensures.below r None (omega (arith, row, c.requires.same))) in
    c.components.invariant p below row ∙ all_digits c.args.relation own u v c.components.i all (c.bases-bases.ensures.below r None row) second
