use Rattle.std.proofs.Common.{◌≡◌, ℕ, List, Vec, Global, [], false, true, length, map, get_or, ap, arith, below_more, ext_get_or, rules, sym, ◌∙◌}
use Rattle.std.proofs.lemmas.List.{length-map}
use Rattle.std.proofs.lemmas.Slice.Eq.{bytes_eq-Decides}
use Rattle.std.specs.Str.{bytes_eq}
use Rattle.bsi_survey.proofs.Lists.{mapped_at}
use Rattle.bsi_survey.proofs.joining.are_same_fields.Goals as goal

-- one field more
pub fields-preserved : goal.fields-preserved
fields-preserved c =
    let seen : Vec ℕ Global → List ℕ = λ field. field.items in
    let first = mapped_at seen c.args.first.now c.fields.k c.index-first-k.result [] (omega arith) c.index-first-k.is in
    let second = mapped_at seen c.args.second.now c.fields.k c.index-second-k.result [] (omega arith) c.index-second-k.is in
    let test : bytes_eq c.index-first-k.result.items c.index-second-k.result.items ≡ true = search (rules, c.as_slice.ensures.value, c.as_slice-in-fields.ensures.value, c.ne.ensures, c.if-ne.false) in
    below_more _ _ c.fields.invariant (first ∙ (bytes_eq-Decides c.index-first-k.result.items c.index-second-k.result.items).0 test ∙ sym second)

-- no field differs
pub returns-clause-same : goal.returns-clause-same
returns-clause-same c = λ yes.
    let seen : Vec ℕ Global → List ℕ = λ field. field.items in
    let long : length (map seen c.args.first.now) ≡ length (map seen c.args.second.now) =
    omega (arith, c.if-first-second.false, length-map c.args.first.now seen, length-map c.args.second.now seen) in
    sym (ext_get_or [] (map seen c.args.first.now) (map seen c.args.second.now) long
    (λ k within. c.fields.invariant k (omega (arith, within, c.fields-test.false, length-map c.args.first.now seen))))

-- this field differs
pub returns-then-ne-clause-other : goal.returns-then-ne-clause-other
returns-then-ne-clause-other c = λ no same.
    let seen : Vec ℕ Global → List ℕ = λ field. field.items in
    let first = mapped_at seen c.args.first.now c.fields.k c.index-first-k.result [] (omega arith) c.index-first-k.is in
    let second = mapped_at seen c.args.second.now c.fields.k c.index-second-k.result [] (omega arith) c.index-second-k.is in
    let here : get_or (map seen c.args.second.now) c.fields.k [] ≡ get_or (map seen c.args.first.now) c.fields.k [] = ap (λ (fs : List (List ℕ)). get_or fs c.fields.k []) same in
    let yes : bytes_eq c.index-first-k.result.items c.index-second-k.result.items ≡ true =
    (bytes_eq-Decides c.index-first-k.result.items c.index-second-k.result.items).1 (sym first ∙ sym here ∙ second) in
    let test : bytes_eq c.index-first-k.result.items c.index-second-k.result.items ≡ false = search (rules, c.as_slice.ensures.value, c.as_slice-in-fields.ensures.value, c.ne.ensures, c.if-ne.true) in
    cc (yes, test)
