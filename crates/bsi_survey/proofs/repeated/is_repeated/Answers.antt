use Rattle.std.proofs.Common.{◌≡◌, ℕ, List, Vec, Global, [], true, false, map, arith, below_more, refl, rules, sym, ◌∙◌}
use Rattle.std.proofs.lemmas.Slice.Eq.{bytes_eq-Decides}
use Rattle.std.specs.Str.{bytes_eq}
use Rattle.bsi_survey.specs.Titles.{title_in}
use Rattle.bsi_survey.proofs.Lists.{mapped_at}
use Rattle.bsi_survey.proofs.repeated.is_repeated.Goals as goal

-- an earlier title is the same
pub returns-then-eq : goal.returns-then-eq
returns-then-eq c =
    let seen : Vec ℕ Global → List ℕ = λ title. title.items in
    let titles = c.args.titles.now in
    let one = mapped_at seen titles c.columns.k c.index-titles-k.result [] (omega arith) c.index-titles-k.is in
    let own = mapped_at seen titles c.args.c c.index-titles-c.result [] (omega arith) c.index-titles-c.is in
    let test : bytes_eq c.index-titles-k.result.items c.index-titles-c.result.items ≡ true =
    search (rules, c.as_slice.ensures.value, c.as_slice-in-columns.ensures.value, c.eq.ensures, c.if-eq.true) in (
      λ _. record {
        column = c.columns.k;
        before = omega arith;
        same = one ∙ (bytes_eq-Decides c.index-titles-k.result.items c.index-titles-c.result.items).0 test ∙ sym own;
      },
      λ _. refl,
    )

-- one title more
pub columns-preserved : goal.columns-preserved
columns-preserved c =
    let seen : Vec ℕ Global → List ℕ = λ title. title.items in
    let titles = c.args.titles.now in
    let one = mapped_at seen titles c.columns.k c.index-titles-k.result [] (omega arith) c.index-titles-k.is in
    let own = mapped_at seen titles c.args.c c.index-titles-c.result [] (omega arith) c.index-titles-c.is in
    let test : bytes_eq c.index-titles-k.result.items c.index-titles-c.result.items ≡ false =
    search (rules, c.as_slice.ensures.value, c.as_slice-in-columns.ensures.value, c.eq.ensures, c.if-eq.false) in
    below_more (λ j. title_in (map seen titles) j ≡ title_in (map seen titles) c.args.c → ⊥) c.columns.k c.columns.invariant
    (λ same. let yes = (bytes_eq-Decides c.index-titles-k.result.items c.index-titles-c.result.items).1 (sym one ∙ same ∙ own) in absurd (cc))

-- no earlier title is the same
pub returns : goal.returns
returns c = (
  λ yes. absurd (cc),
  λ is. absurd (c.columns.invariant is.column (omega (arith, is.before, c.columns-test.false)) is.same),
)
