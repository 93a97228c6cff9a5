use Rattle.std.proofs.Common.{◌≡◌, ◌+◌, [], ◌∷◌, length, get_or, drop, Some, None, sym, ◌∙◌, ap, rules, tests, arith}
use Rattle.std.proofs.lemmas.List.{length-append}
use Rattle.bsi_syntax.specs.Numbers.{u32_of, u32s_of}
use Rattle.bsi_syntax.proofs.Parts.{parts, parts_end, parts_turn}
use Rattle.bsi_syntax.proofs.Values.{behind, smalls_next, smalls_stop, smalls_done}
use Rattle.bsi_syntax.proofs.numbers.read_bases.Goals as goal

-- this part is no base
pub returns-in_default : goal.returns-in_default
returns-in_default c =
    let all = parts c.args.text.now in
    let turn = parts_turn _ _ _ _ c.bases.yielded c.bases.yielded_by c.next.result c.next.ensures.steps c.args.text.now (search rules) (search rules) (λ x r q k. search (rules, tests)) c.in-Some.word c.in-Some.is in
    let this : u32_of (get_or all (length c.bases.yielded) []) ≡ None = ap u32_of (sym turn.1) ∙ sym c.read_u32.ensures ∙ c.in_default.is in
    smalls_stop (u32s_of all) all (length c.bases.yielded) c.bases.bases.items c.bases.invariant.read turn.0 this

pub bases-preserved : goal.bases-preserved
bases-preserved c =
    let all = parts c.args.text.now in
    let turn = parts_turn _ _ _ _ c.bases.yielded c.bases.yielded_by c.next.result c.next.ensures.steps c.args.text.now (search rules) (search rules) (λ x r q k. search (rules, tests)) c.in-Some.word c.in-Some.is in
    let this : u32_of (get_or all (length c.bases.yielded) []) ≡ Some c.in-Some-read_u32.base = ap u32_of (sym turn.1) ∙ sym c.read_u32.ensures ∙ c.in-Some-read_u32.is in
    record {
      read = smalls_next (u32s_of all) all (length c.bases.yielded) c.bases.bases.items c.bases.invariant.read c.in-Some-read_u32.base turn.0 this
          ∙ ap (λ read. behind read (u32s_of (drop (length c.bases.yielded + 1) all))) (sym c.in_ok-push.ensures.items)
          ∙ ap (λ n. behind c.push.new.self.items (u32s_of (drop n all))) (sym (length-append c.bases.yielded (c.in-Some.word ∷ [])));
    }

-- all parts were read
pub returns : goal.returns
returns c =
    let all = parts c.args.text.now in
    let end = parts_end _ _ _ _ c.bases.yielded c.bases.yielded_by c.next.result c.next.ensures.steps c.args.text.now (search rules) (search rules) (λ x r q k. search (rules, tests)) c.in-None.is in
    smalls_done (u32s_of all) all (length c.bases.yielded) c.bases.bases.items c.bases.invariant.read (omega (arith, end))
