-- Groups of which the entries stand one after the other, with one more.
use Rattle.std.proofs.Common.{◌≡◌, ℕ, zero, suc, ◌+◌, ◌*◌, ◌<◌, ◌≤◌, List, [], ◌∷◌, ◌++◌, Option, Some, ℤ, length, take, drop, get_or, refl, ap, ap₂, sym, subst, ◌∙◌, add-one, arith}
use Rattle.std.specs.Prelude.{slice_get}
use Rattle.std.proofs.Math.Nat.{mul-le-mul_left, mul-suc}
use Rattle.std.proofs.Math.Seq.{drop-append_seam}
use Rattle.std.proofs.lemmas.List.{drop-append-le, drop-drop, length-drop, take-append-le, take_all}
use Rattle.bsi_rows.specs.declared.query.Answer.{Answer}
use Rattle.bsi_aggregates.specs.Groups.{grouped, Grouped}

module _ (n : ℕ) where
  further : (entries : List (Option ℤ)) (k : ℕ) → drop (n * k) (drop n entries) ≡ drop (n * suc k) entries
  further entries k = drop-drop (n * k) n entries ∙ ap (λ m. drop m entries) (omega (arith, mul-suc n k))

  -- one more answer, whose entries stand behind those of the others
  pub grouped_more : (entries : List (Option ℤ)) (answers : List Answer) (answer : Answer)
      → grouped n entries (answers ++ answer ∷ []) ≡ grouped n entries answers ++ record { entries = take n (drop (n * length answers) entries); answer = answer } ∷ []
  grouped_more entries [] answer =
      let none : n * 0 ≡ 0 = omega arith in
      ap (λ (es : List (Option ℤ)). let group : Grouped = record { entries = take n es; answer = answer } in group ∷ []) (ap (λ m. drop m entries) (sym none))
  grouped_more entries (a ∷ answers) answer =
      ap (λ gs. record { entries = take n entries; answer = a } ∷ gs)
      (grouped_more (drop n entries) answers answer
      ∙ ap (λ (es : List (Option ℤ)). let group : Grouped = record { entries = take n es; answer = answer } in grouped n (drop n entries) answers ++ group ∷ []) (further entries (length answers)))

  -- entries behind those of all groups change none
  pub grouped_same : (entries more : List (Option ℤ)) (answers : List Answer) → n * length answers ≤ length entries
      → grouped n (entries ++ more) answers ≡ grouped n entries answers
  grouped_same entries more [] long = refl
  grouped_same entries more (a ∷ answers) long =
      let all : n * suc (length answers) ≡ n + n * length answers = omega (arith, mul-suc n (length answers)) in
      let first : n ≤ length entries = omega (arith, all, long) in
      ap₂ (λ (es : List (Option ℤ)) gs. let group : Grouped = record { entries = es; answer = a } in group ∷ gs) (take-append-le n entries more first)
      (ap (λ es. grouped n es answers) (drop-append-le n entries more first)
      ∙ grouped_same (drop n entries) more answers (omega (arith, all, long, length-drop n entries)))

  -- one more group
  pub grouped_push : (entries more : List (Option ℤ)) (answers : List Answer) (answer : Answer) → length entries ≡ n * length answers → length more ≡ n
      → grouped n (entries ++ more) (answers ++ answer ∷ []) ≡ grouped n entries answers ++ record { entries = more; answer = answer } ∷ []
  grouped_push entries more answers answer long whole =
      grouped_more (entries ++ more) answers answer
      ∙ ap₂ (λ gs (es : List (Option ℤ)). let group : Grouped = record { entries = es; answer = answer } in gs ++ group ∷ [])
      (grouped_same entries more answers (omega (arith, long)))
      (ap (λ m. take n (drop m (entries ++ more))) (sym long) ∙ ap (take n) (drop-append_seam entries more) ∙ take_all n more (omega (arith, whole)))

  -- as many groups as answers
  pub grouped_length : (entries : List (Option ℤ)) (answers : List Answer) → length (grouped n entries answers) ≡ length answers
  grouped_length entries [] = refl
  grouped_length entries (a ∷ answers) = omega (arith, grouped_length (drop n entries) answers)

  -- a group by its place
  pub grouped_at : (entries : List (Option ℤ)) (answers : List Answer) (k : ℕ) (answer : Answer) → k < length answers → answer ≡ get_or answers k answer
      → slice_get (grouped n entries answers) k ≡ Some (record { entries = take n (drop (n * k) entries); answer = answer })
  grouped_at entries [] k answer within at = absurd (omega arith)
  grouped_at entries (a ∷ answers) zero answer within at =
      let none : n * 0 ≡ 0 = omega arith in
      ap₂ (λ (es : List (Option ℤ)) (x : Answer). let group : Grouped = record { entries = es; answer = x } in Some group) (ap (λ m. take n (drop m entries)) (sym none)) (sym at)
  grouped_at entries (a ∷ answers) (suc k) answer within at =
      grouped_at (drop n entries) answers k answer (omega arith) at
      ∙ ap (λ (es : List (Option ℤ)). let group : Grouped = record { entries = take n es; answer = answer } in Some group) (further entries k)

  -- the entries of one more stand behind those before
  pub times_more : (k : ℕ) → n * (k + 1) ≡ n * k + n
  times_more k = ap (λ m. n * m) (add-one k) ∙ mul-suc n k

  -- and within those of all
  pub times_within : (k m : ℕ) → k < m → n * k + n ≤ n * m
  times_within k m below = let most : n * (k + 1) ≤ n * m = mul-le-mul_left n (omega arith) in omega (arith, most, times_more k)
