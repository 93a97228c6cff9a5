use Rattle.std.proofs.Common.{◌≡◌, ◌+◌, ◌-◌, ◌*◌, ℕ, None, length, get_or, ap, ◌∙◌, arith}
use Rattle.std.proofs.lemmas.List.{length-map, get_or-map}
use Rattle.bsi_digits.specs.Digits.{digit_of}
use Rattle.bsi_digits.specs.Comparisons.{number_or_zero}
use Rattle.bsi_columns.proofs.NumberBlocks.{number_above}
use Rattle.bsi_columns.proofs.decomposed.Decomposed.numbers_into.Goals as goal

pub components-preserved : goal.components-preserved
components-preserved g c = record {
  above = record {
    long = c.push_digit.ensures.long;
    each = λ r near row.
        let bs = c.bases-bases.result.now in
        let own = c.args.self.now.bases in
        let entries = c.args.self.now.entries in
        let j = c.components.i - 1 in
        let at = 64 * c.args.at + r in
        let digit : ℕ → ℕ = λ j. digit_of own (number_or_zero (get_or entries at None)) j in
        let above : c.components.i ≡ j + 1 = omega (arith, c.components-test.true) in
        let rows = ap length c.component.ensures.digits ∙ length-map entries (λ e. digit_of own (number_or_zero e) j) in
        let read = c.digits_into.ensures.digits r near (omega (arith, row, rows))
        ∙ ap (λ ds. get_or ds at 0) c.component.ensures.digits ∙ get_or-map (λ e. digit_of own (number_or_zero e) j) entries at None 0 row in
        number_above own (rw c.bases-bases.ensures.bases at c.len-i.ensures.valid) (number_or_zero (get_or entries at None)) j
        (omega (arith, above, c.components.invariant.within)) (c.bases-bases.ensures.below at None row)
        (get_or c.components.numbers r 0) (get_or c.digits_into.new.digits r 0) c.from.result (get_or c.push_digit.new.numbers r 0)
        (rw above at c.components.invariant.above.each r near row) read (c.from.ensures ∙ c.base.ensures.base ∙ ap (λ bs. get_or bs j 0) c.bases-bases.ensures.bases)
        (c.push_digit.ensures.numbers r near);
  };
  within = omega (arith, c.components.invariant.within);
}
