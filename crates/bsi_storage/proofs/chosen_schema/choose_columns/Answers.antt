use Rattle.std.proofs.Common.{◌≡◌, ◌<◌, ◌+◌, ◌||◌, ◌++◌, ℕ, Bool, true, false, List, [], ◌∷◌, length, map, get_or, take, inl, inr, refl, sym, ap, subst, ◌∙◌, arith, rules}
use Rattle.std.specs.Prelude.{All}
use Rattle.std.proofs.lemmas.Bool.{cases_lt}
use Rattle.std.proofs.lemmas.List.{map-append, take_more}
use Rattle.std.proofs.lemmas.List.Elements.{All-push}
use Rattle.bsi_schema.specs.Columns.{column_at, Declared, NamedColumn}
use Rattle.bsi_storage.proofs.Choices.{may_follow}
use Rattle.bsi_storage.proofs.chosen_schema.choose_columns.Goals as goal

or_last : (a b : Bool) → a ≡ false → (a || b) ≡ b
or_last true b is = cc
or_last false b is = refl

or_same : (a b : Bool) → a ≡ b → (a || b) ≡ b
or_same true true is = refl
or_same true false is = is
or_same false b is = refl

pub columns-preserved : goal.columns-preserved
columns-preserved c =
    let schema = c.args.schema.now in
    let chosen = c.args.chosen.now in
    let i = c.columns.i in
    let held = c.columns.invariant in
    let x : ℕ = get_or chosen i 0 in
    let within : i < length chosen = c.columns-test.true in
    let below : x < length schema.columns = omega (arith, c.if-c-columns.false, c.columns-in-columns.ensures.columns) in
    let passed : c.in_ok-add_chosen.field-0 ≡ true = search rules in
    let made = c.in_ok-add_chosen.ensures.added passed in
    let next : take (i + 1) chosen ≡ take i chosen ++ x ∷ [] = take_more chosen i 0 within in
    let f : ℕ → NamedColumn = λ k. column_at schema.columns k in
    let last : c.add_chosen.new.narrow.signed ≡ (c.columns.narrow.signed || schema.signed) = ap (λ (s : Declared). s.signed) made in
    let after : c.add_chosen.new.narrow.signed ≡ schema.signed = last ∙ elim (cases_lt 0 i) [
      | inl some ↦ or_same c.columns.narrow.signed schema.signed (held.signed some)
      | inr none ↦ or_last c.columns.narrow.signed schema.signed (held.none (omega (arith, none)))
    ] in
    record {
      columns = ap (λ (s : Declared). s.columns) made ∙ ap (λ (cs : List NamedColumn). cs ++ f x ∷ []) held.columns
          ∙ sym (ap (map f) next ∙ map-append f (take i chosen) (x ∷ []));
      there = subst (All (λ (k : ℕ). k < length schema.columns)) (sym next) (All-push (λ (k : ℕ). k < length schema.columns) (take i chosen) x held.there below);
      none = λ zero. absurd (omega (arith, zero));
      signed = λ some. after;
    }

-- what may follow is not refused
pub returns-then-not-branch-clause-none : goal.returns-then-not-branch-clause-none
returns-then-not-branch-clause-none c = λ choice.
    (let failed : c.in_ok-add_chosen.field-0 ≡ false = search rules in
    c.in_ok-add_chosen.ensures.refused failed
    (may_follow c.args.schema.now c.limits.ensures.declared c.args.chosen.now choice c.columns.i c.columns-test.true c.columns.narrow.columns c.columns.invariant.columns))
