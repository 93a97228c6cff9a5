use Rattle.std.proofs.Common.{◌<◌, ◌≤◌, ◌+◌, ◌∷◌, [], ℕ, length, get_or, take, replicate, ap, sym, subst, ◌∙◌, length-append}
use Rattle.std.proofs.lemmas.List.{take_all, take_more, replicate_more}
use Rattle.bsi_columns.proofs.ComponentLists.{map_pushed}
use Rattle.bsi_columns.proofs.decomposed.make_each.Goals as goal

pub loop-i-preserved : goal.loop-i-preserved
loop-i-preserved g c =
    let bs = c.args.bases.now in
    let cs = c.loop-i.components.items in
    let pushed = c.push_reserved.ensures.items in
    let made = c.in_ok-make.field-0 in
    let at : ℕ = c.loop-i.i in
    let within : at < length bs = subst (λ (n : ℕ). at < n) c.len-i-end.ensures.len c.loop-i-test.true in
    record {
      long = ap length pushed ∙ length-append cs (made ∷ []) ∙ ap (λ n. n + 1) c.loop-i.invariant.long;
      room = subst (λ (n : ℕ). length bs ≤ n) (sym c.push_reserved.ensures.capacity) c.loop-i.invariant.room;
      digits = map_pushed g.E.Encoding.digits cs c.push_reserved.new.self.items made (replicate at []) [] pushed c.loop-i.invariant.digits c.in_ok-make.ensures.0 ∙ replicate_more at [];
      bases = map_pushed g.E.Encoding.base_of cs c.push_reserved.new.self.items made (take at bs) (get_or bs at 0) pushed c.loop-i.invariant.bases (c.in_ok-make.ensures.1 ∙ c.base.ensures.base)
          ∙ sym (take_more bs at 0 within);
    }

-- no base is left
pub returns-clause-bases : goal.returns-clause-bases
returns-clause-bases g c =
    let bs = c.args.bases.now in
    let at : ℕ = c.loop-i.i in
    c.loop-i.invariant.bases ∙ take_all at bs (subst (λ (n : ℕ). n ≤ at) c.len-i-end.ensures.len c.loop-i-test.false)
