use Rattle.std.proofs.Common.{◌≡◌, ℕ, List, Vec, Global, [], true, false, get_or, length, map, arith, ap, below_more, ext_get_or, refl, rules, sym, ◌∙◌}
use Rattle.std.proofs.lemmas.List.{length-map}
use Rattle.std.proofs.lemmas.Slice.Eq.{bytes_eq-Decides}
use Rattle.std.specs.Str.{bytes_eq}
use Rattle.bsi_logical.proofs.Called.{mapped_at}
use Rattle.bsi_logical.proofs.logical.comparing.are_same_words.Goals as goal

-- a word differs
pub returns-then-ne : goal.returns-then-ne
returns-then-ne c =
    let seen : Vec ℕ Global → List ℕ = λ word. word.items in
    let first = mapped_at seen c.args.first.now c.words.k c.index-first-k.result [] (omega arith) c.index-first-k.is in
    let second = mapped_at seen c.args.second.now c.words.k c.index-second-k.result [] (omega arith) c.index-second-k.is in
    let test : bytes_eq c.index-first-k.result.items c.index-second-k.result.items ≡ false = search (rules, c.as_slice.ensures.value, c.as_slice-in-words.ensures.value, c.ne.ensures, c.if-ne.true) in (
      λ no. absurd (cc),
      λ same.
          let alike : c.index-first-k.result.items ≡ c.index-second-k.result.items = sym first ∙ ap (λ (ws : List (List ℕ)). get_or ws c.words.k []) same ∙ second in
          let yes : bytes_eq c.index-first-k.result.items c.index-second-k.result.items ≡ true = (bytes_eq-Decides c.index-first-k.result.items c.index-second-k.result.items).1 alike in
          absurd (cc),
    )

-- one word more
pub words-preserved : goal.words-preserved
words-preserved c =
    let seen : Vec ℕ Global → List ℕ = λ word. word.items in
    let first = mapped_at seen c.args.first.now c.words.k c.index-first-k.result [] (omega arith) c.index-first-k.is in
    let second = mapped_at seen c.args.second.now c.words.k c.index-second-k.result [] (omega arith) c.index-second-k.is in
    let test : bytes_eq c.index-first-k.result.items c.index-second-k.result.items ≡ true = search (rules, c.as_slice.ensures.value, c.as_slice-in-words.ensures.value, c.ne.ensures, c.if-ne.false) in
    below_more _ _ c.words.invariant (first ∙ (bytes_eq-Decides c.index-first-k.result.items c.index-second-k.result.items).0 test ∙ sym second)

-- no word differs
pub returns : goal.returns
returns c =
    let seen : Vec ℕ Global → List ℕ = λ word. word.items in
    let long : length (map seen c.args.first.now) ≡ length (map seen c.args.second.now) =
    omega (arith, c.if-first-second.false, length-map c.args.first.now seen, length-map c.args.second.now seen) in
    let same : map seen c.args.first.now ≡ map seen c.args.second.now =
    ext_get_or [] (map seen c.args.first.now) (map seen c.args.second.now) long
    (λ k within. c.words.invariant k (omega (arith, within, c.words-test.false, length-map c.args.first.now seen))) in
    (λ yes. same, λ is. refl)
