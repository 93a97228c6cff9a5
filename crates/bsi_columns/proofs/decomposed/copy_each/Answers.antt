use Rattle.std.proofs.Common.{◌≡◌, ◌<◌, ◌≤◌, ◌+◌, ◌∷◌, [], ℕ, length, get_or, map, ap, sym, subst, ◌∙◌, length-append}
use Rattle.std.proofs.lemmas.List.{take_all}
use Rattle.bsi_columns.proofs.ComponentLists.{map_copied}
use Rattle.bsi_columns.proofs.decomposed.copy_each.Goals as goal

pub loop-component-preserved : goal.loop-component-preserved
loop-component-preserved g c =
    let components = c.args.components.now.items in
    let copies = c.loop-component.copies.items in
    let pushed = c.push_reserved.ensures.items in
    let copy = c.in_ok-copy.field-0 in
    let one = c.component-item.result in
    let at : ℕ = c.loop-component.component-index in
    let within = subst (λ xs. at < length xs) c.deref-component-items.ensures.value c.loop-component-test.true in
    let read = subst (λ xs. one ≡ get_or xs at one) c.deref-component-items.ensures.value c.component-item.is in
    record {
      long = ap length pushed ∙ length-append copies (copy ∷ []) ∙ ap (λ n. n + 1) c.loop-component.invariant.long;
      room = subst (λ (n : ℕ). length components ≤ n) (sym c.push_reserved.ensures.capacity) c.loop-component.invariant.room;
      digits = map_copied g.E.Encoding.digits components copies c.push_reserved.new.self.items at one copy within read pushed c.loop-component.invariant.digits c.in_ok-copy.ensures.0;
      bases = map_copied g.E.Encoding.base_of components copies c.push_reserved.new.self.items at one copy within read pushed c.loop-component.invariant.bases c.in_ok-copy.ensures.1;
    }

-- no component is left
pub returns-clause-digits : goal.returns-clause-digits
returns-clause-digits g c =
    let components = c.args.components.now.items in
    let at : ℕ = c.loop-component.component-index in
    let all = subst (λ xs. length xs ≤ at) c.deref-component-items.ensures.value c.loop-component-test.false in
    c.loop-component.invariant.digits ∙ ap (map g.E.Encoding.digits) (take_all at components all)

pub returns-clause-bases : goal.returns-clause-bases
returns-clause-bases g c =
    let components = c.args.components.now.items in
    let at : ℕ = c.loop-component.component-index in
    let all = subst (λ xs. length xs ≤ at) c.deref-component-items.ensures.value c.loop-component-test.false in
    c.loop-component.invariant.bases ∙ ap (map g.E.Encoding.base_of) (take_all at components all)
