use Rattle.std.proofs.Common.{◌≡◌, ◌+◌, None, ◌∷◌, [], length, get_or, inl, inr, ap, sym, subst, ◌∙◌, arith, length-append}
use Rattle.std.proofs.lemmas.Bool.{cases_eq}
use Rattle.std.proofs.lemmas.List.{get_or_append_left, get_or_push}
use Rattle.bsi_digits.specs.Orders.{values_at}
use Rattle.bsi_digits.specs.Ranks.{IsSignedRankOf}
use Rattle.bsi_shift.specs.Shifted.{shifted_entries}
use Rattle.bsi_aggregates.proofs.ranking.ranks_at.Goals as goal

pub ranks-preserved : goal.ranks-preserved
ranks-preserved c =
    let items = c.ranks.numbers.items in
    let ranked = c.in_ok-ranked.field-0 in
    let pushed = c.push_reserved.ensures.items in
    let long : length c.push_reserved.new.self.items ≡ c.ranks.rank-index + 1 =
    ap length pushed ∙ length-append items (ranked ∷ []) ∙ ap (λ n. n + 1) c.ranks.invariant.long in
    let numbers = values_at c.args.selection.now.bits (shifted_entries c.args.column.now) in
    record {
      long = long;
      room = omega (arith, c.ranks.invariant.room, c.push_reserved.ensures.capacity);
      each = λ k within. elim (cases_eq k c.ranks.rank-index) [
        | inl here ↦
            subst (λ i. IsSignedRankOf (get_or c.args.ranks.now i 0) numbers (get_or c.push_reserved.new.self.items i None)) (sym here)
            (subst (IsSignedRankOf (get_or c.args.ranks.now c.ranks.rank-index 0) numbers)
            (sym (ap (λ l. get_or l c.ranks.rank-index None) pushed ∙ get_or_push items ranked None c.ranks.rank-index (omega (arith, c.ranks.invariant.long)))) c.in_ok-ranked.ensures)
        | inr other ↦
            subst (IsSignedRankOf (get_or c.args.ranks.now k 0) numbers)
            (sym (ap (λ l. get_or l k None) pushed ∙ get_or_append_left items (ranked ∷ []) None k (omega (arith, within, other, c.ranks.invariant.long))))
            (c.ranks.invariant.each k (omega (arith, within, other)))
      ];
    }
