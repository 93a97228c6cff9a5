use Rattle.std.proofs.Common.{◌≡◌, ◌-◌, ◌∷◌, ◌++◌, [], true, map, length, List, Vec, Global, ℕ, arith, subst, sym, ap, ap₂, ◌∙◌, rules}
use Rattle.std.proofs.lemmas.List.{length-map, map-append}
use Rattle.std.specs.Cmp.Lexicographic.{slice_cmp}
use Rattle.std.specs.Ordering.{is_lt, nat_cmp}
use Rattle.bsi_kinds.specs.Dictionaries.{text_at, AreTexts}
use Rattle.bsi_kinds.proofs.Rising.{grown}
use Rattle.bsi_kinds.proofs.dictionary.Dictionary.push.Goals as goal

-- the text comes after the last
pub invariant_of-self-2 : goal.invariant_of-self-2
invariant_of-self-2 c =
    let items = c.self.inside.texts.items in
    let texts : List (List ℕ) = map (λ (t : Vec ℕ Global). t.items) items in
    let is : c.push.new.self.items ≡ items ++ c.args.text ∷ [] = search rules in
    let after : is_lt (slice_cmp nat_cmp (text_at texts (length texts - 1)) c.args.text.items) ≡ true =
    ap₂ (λ a b. is_lt (slice_cmp nat_cmp a b))
    (ap (λ (ts : List (List ℕ)). text_at ts (length ts - 1)) c.self.view_is ∙ sym c.last.ensures) (sym c.as_slice.ensures.value)
    ∙ sym c.comes_before.ensures ∙ let h : c.comes_before.result ≡ true = search (rules, c.if-not-comes_before.false) in h in
    subst AreTexts (sym (ap (λ xs. map (λ t. t.items) xs) is ∙ map-append (λ t. t.items) items (c.args.text ∷ [])))
    (grown texts c.args.text.items c.self.invariant (omega (arith, c.if-len-ge-MAX_TEXTS.false, c.len.ensures, length-map items (λ (t : Vec ℕ Global). t.items))) after)
