use Rattle.std.proofs.Common.{◌≡◌, ◌≤◌, ◌∷◌, ◌++◌, [], ℕ, List, None, Some, ap, append-nil, arith, get_or, inl, inr, length, rules, subst, sym, ◌∙◌}
use Rattle.std.specs.Prelude.{Contains}
use Rattle.std.proofs.lemmas.List.{get_or-map, length-map}
use Rattle.bsi_pruning.proofs.Answered.{all_named, more_more, one_named}
use Rattle.bsi_pruning.proofs.choosing.choose_by_fields.Goals as goal
use Rattle.bsi_pruning.proofs.choosing.choose_by_fields.Goals.{in-Some+in_ok-choose_column, in_default}
use Rattle.bsi_syntax.specs.Reading.{texts}

pub fields-preserved : goal.fields-preserved
fields-preserved g c =
    let words = g.V.Vocabulary.words c.args.vocabulary.now in
    let fields = texts c.args.fields.now in
    let k = c.fields.k in
    let old = c.fields.chosen.items in
    let new = c.match-find_column.chosen.items in
    let found = c.find_column.result in
    let here : found ≡ words.column (get_or fields k []) = c.find_column.ensures ∙ sym (ap words.column (get_or-map (λ f. f.now) c.args.fields.now k _ [] c.fields-test.true)) in
    let held = c.fields.invariant in
    elim c.match-find_column.branch [
      | in-Some+in_ok-choose_column w ↦
          let own = w.in-Some.c in
          let is : new ≡ w.choose_column.new.chosen.items = ap (λ v. v.items) w.chosen-is in
          let has : Contains new own = subst (λ (ns : List ℕ). Contains ns own) (sym is) w.in_ok-choose_column.ensures.chosen in
          let each : (n : ℕ) → found ≡ Some n → Contains new n =
          λ n says. (let some : Some own ≡ Some n = sym w.in-Some.is ∙ says in let same : own ≡ n = cc in subst (Contains new) same has) in
          elim w.in_ok-choose_column.ensures.more [
            | inl same ↦
                let grown : new ≡ old ++ [] = is ∙ same ∙ sym (append-nil old) in
                record { named = one_named words fields old new [] k found here held.named grown each; more = more_more c.args.chosen.now.items old new [] held.more grown }
            | inr one ↦
                let grown : new ≡ old ++ own ∷ [] = is ∙ one in
                record { named = one_named words fields old new (own ∷ []) k found here held.named grown each; more = more_more c.args.chosen.now.items old new (own ∷ []) held.more grown }
          ]
      | in_default w ↦
          let grown : new ≡ old ++ [] = ap (λ v. v.items) w.chosen-is ∙ sym (append-nil old) in
          let none : found ≡ None = w.in_default.is in
          let each : (n : ℕ) → found ≡ Some n → Contains new n = λ n says. (let not : None ≡ Some n = sym none ∙ says in absurd (cc (not))) in
          record { named = one_named words fields old new [] k found here held.named grown each; more = more_more c.args.chosen.now.items old new [] held.more grown }
    ]

pub returns-clause-named : goal.returns-clause-named
returns-clause-named g c =
    let fields = c.args.fields.now in
    let past : length fields ≤ c.fields.k = search rules in
    all_named (g.V.Vocabulary.words c.args.vocabulary.now) (texts fields) c.fields.chosen.items c.fields.k (omega (arith, past, length-map fields (λ f. f.now))) c.fields.invariant.named
