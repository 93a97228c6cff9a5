use Rattle.std.proofs.Common.{◌≡◌, ◌<◌, ◌≤◌, ℕ, List, Vec, Global, length, map, ap, rules, subst, sym, ◌∙◌}
use Rattle.std.proofs.lemmas.List.{length-map}
use Rattle.std.proofs.lemmas.List.Sorted.{IsPartitionPoint-from_clause}
use Rattle.std.specs.Cmp.Lexicographic.{slice_cmp}
use Rattle.std.specs.Ordering.{nat_cmp}
use Rattle.std.specs.declared.cmp.Ordering.TheVariants.{Less}
use Rattle.bsi_kinds.specs.Dictionaries.{text_at, AreRising, AreTexts}
use Rattle.bsi_kinds.proofs.Rising.{before_place, behind_place, comes, parted, text_place_is}
use Rattle.bsi_kinds.proofs.dictionary.Dictionary.rank_of.Goals as goal

-- the texts that come before this one stand before the others, since the list rises
pub returns : goal.returns
returns c =
    let same = c.deref.ensures.value in
    let rising : AreRising (map (λ t. t.items) c.deref.result.now) =
    subst (λ (xs : List (Vec ℕ Global)). AreRising (map (λ t. t.items) xs)) (sym same) c.self.invariant.rising in
    let point = IsPartitionPoint-from_clause (comes (λ t. t.items) c.args.text.now) c.deref.result.now _ c.partition_point.ensures.partitioned
    (parted (λ t. t.items) c.deref.result.now rising c.args.text.now) (λ a r q k. search rules) in
    let texts : map (λ t. t.items) c.deref.result.now ≡ c.args.self.now = ap (λ xs. map (λ t. t.items) xs) same ∙ c.self.view_is in
    let within = subst (λ (ts : List (List ℕ)). c.partition_point.result ≤ length ts) texts (simp length-map c.partition_point.ensures.bound) in
    let before = subst (λ (ts : List (List ℕ)). (k : ℕ) → k < c.partition_point.result → slice_cmp nat_cmp (text_at ts k) c.args.text.now ≡ Less) texts
    (before_place (λ t. t.items) c.deref.result.now c.args.text.now c.partition_point.result c.partition_point.ensures.bound point) in
    let behind = subst (λ (ts : List (List ℕ)). (k : ℕ) → c.partition_point.result ≤ k → k < length ts → slice_cmp nat_cmp (text_at ts k) c.args.text.now ≡ Less → ⊥) texts
    (behind_place (λ t. t.items) c.deref.result.now c.args.text.now c.partition_point.result point) in
    record {
      exact = text_place_is c.args.self.now c.args.text.now c.partition_point.result within before behind;
      within = within;
      before = before;
      after = behind;
      texts = subst AreTexts c.self.view_is c.self.invariant;
    }
