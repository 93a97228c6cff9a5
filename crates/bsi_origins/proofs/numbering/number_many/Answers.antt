use Rattle.std.proofs.Common.{◌≡◌, ◌+◌, ◌<◌, ◌++◌, ◌∷◌, [], length, get_or, set, refl, sym, ap, subst, arith, length-set, ◌∙◌}
use Rattle.std.specs.Prelude.{slice_index_or, false}
use Rattle.std.proofs.lemmas.Option.{get_or_from_slice_get}
use Rattle.bsi_rows.specs.Numbering.{number_within, count_before}
use Rattle.bsi_origins.specs.Origins.{AreCountsBefore}
use Rattle.bsi_origins.proofs.Numbers.{counted_more, counted_none, numbered_selection, numbered_passed}
use Rattle.bsi_origins.proofs.numbering.number_many.Goals as goal
use Rattle.bsi_origins.proofs.numbering.number_many.Goals.{then-get+in_ok-push, else-get}

pub rows-init : goal.rows-init
rows-init c = record { long = refl; counted = λ f below. counted_none 64 f; rows = c.in_ok-listed.ensures.items }

pub rows-preserved : goal.rows-preserved
rows-preserved c =
    let feeders = c.args.origins.now.rows in
    let bits = c.args.selection.now.bits in
    let r = c.rows.r in
    let feeder = c.feeder-feeder.result in
    let there = c.feeder-feeder.ensures.feeder in
    let count = get_or c.rows.counts feeder 0 in
    let within : r < length feeders = omega (arith, c.rows-test.true, c.len-r-end.ensures.len) in
    let is : slice_index_or bits r false ≡ c.get.result = get_or_from_slice_get bits r c.get.result false c.get.ensures in
    let counted : count ≡ number_within feeders r = c.rows.invariant.counted feeder c.feeder-feeder.ensures.within ∙ ap (count_before feeders r) there in
    record {
      long = length-set c.rows.counts feeder (count + 1) ∙ c.rows.invariant.long;
      counted = subst (λ f. AreCountsBefore c.args.origins.now.feeders feeders (r + 1) (set c.rows.counts f (get_or c.rows.counts f 0 + 1))) (sym there)
          (counted_more c.args.origins.now.feeders c.rows.counts feeders r (omega (arith, c.rows.invariant.long, c.feeder-feeder.ensures.few)) within
          (subst (λ f. f < c.args.origins.now.feeders) there c.feeder-feeder.ensures.within) c.rows.invariant.counted);
      rows = elim c.if-get.branch [
        | then-get+in_ok-push w ↦
            ap (λ v. v.items) w.listed-is ∙ w.in_ok-push.ensures.items
            ∙ ap (λ f. c.rows.listed.items ++ (f, count) ∷ []) (w.from.ensures ∙ there)
            ∙ ap (λ rows. rows ++ (get_or feeders r 0, count) ∷ []) c.rows.invariant.rows
            ∙ numbered_selection bits feeders r count (is ∙ w.if-get.true) counted
        | else-get w ↦ ap (λ v. v.items) w.listed-is ∙ c.rows.invariant.rows ∙ numbered_passed bits feeders r (is ∙ w.if-get.false)
      ];
    }
