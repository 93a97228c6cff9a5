use Rattle.std.proofs.Common.{◌≡◌, ◌+◌, ◌-◌, ◌*◌, ◌/◌, None, length, get_or, subst, ap, ap₂, sym, ◌∙◌, arith}
use Rattle.bsi_digits.specs.Digits.{digit_of, weight}
use Rattle.bsi_digits.proofs.CallerLemmas.{high_digit}
use Rattle.bsi_columns.specs.Extremes.{number_at}
use Rattle.bsi_columns.specs.NumberPlaces.{IsNumberAt}
use Rattle.bsi_columns.proofs.NumberBlocks.{digit_read, top_digit}
use Rattle.bsi_columns.proofs.decomposed.Decomposed.places_into.Goals as goal

pub components-init : goal.components-init
components-init g c =
    let own = c.args.self.now.bases in
    let j = c.len-top.result - 1 in
    let last : j + 1 ≡ length own = omega (arith, c.len-top.ensures.within, c.len-top.ensures.len, ap length c.bases-bases.ensures.bases) in
    record {
      long = c.digit_places.ensures.long;
      numbers = λ p below row.
          let r = 64 * c.args.at + p in
          let read = digit_read own c.args.self.now.entries j r (g.E.Encoding.digits c.component.result.now) row c.component.ensures.digits in
          subst (IsNumberAt c.digit_places.new.places p)
          (read.1 ∙ top_digit own (rw c.bases-bases.ensures.bases at c.len-top.ensures.valid) (number_at c.args.self.now.entries r) j last (c.bases-bases.ensures.below r None row))
          (c.digit_places.ensures.digits p below read.0);
      within = omega (arith, last);
    }

pub components-preserved : goal.components-preserved
components-preserved g c = record {
  long = c.add_times.ensures.long ∙ c.digit_places-in-components.ensures.long ∙ c.components.invariant.long;
  numbers = λ p below row.
      let own = c.args.self.now.bases in
      let j = c.components.i - 1 in
      let r = 64 * c.args.at + p in
      let u = number_at c.args.self.now.entries r in
      let above : c.components.i ≡ j + 1 = omega (arith, c.components-test.true) in
      let read = digit_read own c.args.self.now.entries j r (g.E.Encoding.digits c.component-in-components.result.now) row c.component-in-components.ensures.digits in
      let base : c.base.result ≡ get_or own j 0 = c.base.ensures.base ∙ ap (λ bs. get_or bs j 0) c.bases-bases.ensures.bases in
      let copied : c.copy_from_slice.new.self ≡ c.components.places = c.copy_from_slice.ensures.after in
      let total : digit_of own u j + u / weight own (j + 1) * get_or own j 0 ≡ u / weight own j =
      omega (arith, high_digit (rw c.bases-bases.ensures.bases at c.len-top.ensures.valid) u j (omega (arith, above, c.components.invariant.within))) in
      subst (IsNumberAt c.add_times.new.sums p) (ap₂ (λ d b. d + u / weight own (j + 1) * b) read.1 base ∙ total)
      (c.add_times.ensures.sums p (u / weight own (j + 1)) (get_or (g.E.Encoding.digits c.component-in-components.result.now) r 0) (omega (arith, below, c.requires.block))
      (subst (λ s. IsNumberAt s p (u / weight own (j + 1))) (sym copied) (rw above at c.components.invariant.numbers p below row))
      (c.digit_places-in-components.ensures.digits p below read.0));
  within = omega (arith, c.components.invariant.within);
}
