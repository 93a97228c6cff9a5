use Rattle.std.proofs.Common.{◌≡◌, ◌+◌, ◌<◌, List, ℕ, Vec, Global, [], ap, ap₂, arith, get_or, length, map, sym, take, ◌∙◌}
use Rattle.std.specs.Str.{bytes_eq}
use Rattle.std.proofs.lemmas.List.{length-map, length-take}
use Rattle.std.proofs.lemmas.List.Sums.{count_by-le-length, count_by_more_no, count_by_more_yes}
use Rattle.bsi_survey.proofs.Lists.{mapped_at}
use Rattle.bsi_survey.proofs.titling.number_in.Goals as goal
use Rattle.bsi_survey.proofs.titling.number_in.Goals.{else-eq, then-eq}

-- no more are the same than there are fields so far
pub overflow_add-number : goal.overflow_add-number
overflow_add-number c =
    let seen : Vec ℕ Global → List ℕ = λ field. field.items in
    let fields = map seen c.args.header.now in
    let text = get_or fields c.args.index [] in
    omega (arith, c.fields.invariant, count_by-le-length (λ (other : List ℕ). bytes_eq other text) (take c.fields.other fields), length-take c.fields.other fields)

-- one field more
pub fields-preserved : goal.fields-preserved
fields-preserved c =
    let seen : Vec ℕ Global → List ℕ = λ field. field.items in
    let header = c.args.header.now in
    let fields = map seen header in
    let text = get_or fields c.args.index [] in
    let is_same = λ (other : List ℕ). bytes_eq other text in
    let within : c.fields.other < length fields = omega (arith, length-map header seen) in
    let one = mapped_at seen header c.fields.other c.index-header-other.result [] (omega arith) c.index-header-other.is in
    let own = mapped_at seen header c.args.index c.index-header-index.result [] (omega arith) c.index-header-index.is in
    let test : bytes_eq (get_or fields c.fields.other []) text ≡ c.eq.result =
    ap₂ bytes_eq (one ∙ sym c.as_slice.ensures.value) (own ∙ sym c.as_slice-in-fields.ensures.value) ∙ sym c.eq.ensures in
    elim c.if-eq.branch [
      | then-eq w ↦ w.number-is ∙ ap (λ (n : ℕ). n + 1) (c.fields.invariant ∙ sym (count_by_more_yes is_same fields c.fields.other [] within (test ∙ w.if-eq.true)))
      | else-eq w ↦ w.number-is ∙ c.fields.invariant ∙ ap (λ (n : ℕ). n + 1) (sym (count_by_more_no is_same fields c.fields.other [] within (test ∙ w.if-eq.false)))
    ]
