use Rattle.std.proofs.Common.{◌≡◌, ℕ, ◌+◌, ◌-◌, ◌<◌, ◌≤◌, get_or, ap, subst, rules, sym, ◌∙◌, arith, refl}
use Rattle.std.proofs.lemmas.Simd.{get_or-chunk}
use Rattle.bsi_kernels.proofs.Listing.{all_listed, few_listed, gaps, more_clear, word_listed, HasGaps}
use Rattle.bsi_kernels.specs.Listing.{AreListed}
use Rattle.bsi_kernels.proofs.ranks.listing.list_line.Goals as goal
use Rattle.bsi_kernels.proofs.ranks.listing.list_line.Goals.{then-words-k-ne0+else-listed-eq-MAX_LISTED, else-words-k-ne0}

-- no word has a row
pub returns-then-is_clear : goal.returns-then-is_clear
returns-then-is_clear c true =
    let at = c.args.at in
    let words = c.args.words.now in
    let none : (k : ℕ) → at ≤ k → k < c.args.end → get_or words k 0 ≡ 0 =
    λ k from below.
    let place : at + (k - at) ≡ k = omega arith in
    sym (ap (λ j. get_or words j 0) place) ∙ sym (get_or-chunk at (c.args.end - at) words (k - at) 0 (omega arith)) ∙ c.if-is_clear.ensures.0 refl (k - at) in
    let indices = c.args.listed.now.indices in
    let count = c.args.listed.now.count in
    all_listed c.args.end indices count words
    (more_clear at indices count words (gaps at indices count words c.requires.listed) c.args.end c.requires.forward none)

pub offset_bounds-listed-listed : goal.offset_bounds-listed-listed
offset_bounds-listed-listed c =
    let few = few_listed c.words.k c.words.listed.indices c.words.listed.count c.args.words.now c.words.invariant in
    record { fits = omega (arith, few, c.words-test.true, c.requires.within, c.requires.few) }

pub words-init : goal.words-init
words-init c = gaps c.args.at c.args.listed.now.indices c.args.listed.now.count c.args.words.now c.requires.listed

-- a word is listed, or has no row
pub words-preserved : goal.words-preserved
words-preserved c =
    let words = c.args.words.now in
    let k = c.words.k in
    let indices = c.words.listed.indices in
    let count = c.words.listed.count in
    elim c.if-words-k-ne0.branch [
      | then-words-k-ne0+else-listed-eq-MAX_LISTED w ↦
          subst (λ l. HasGaps (k + 1) l.indices l.count words) (sym w.listed-is) (word_listed k indices count words c.words.invariant (search rules))
      | else-words-k-ne0 w ↦
          subst (λ l. HasGaps (k + 1) l.indices l.count words) (sym w.listed-is)
          (more_clear k indices count words c.words.invariant (k + 1) (omega arith) (λ j from below. let here : j ≡ k = omega (arith, from, below) in ap (λ j. get_or words j 0) here ∙ w.if-words-k-ne0.false))
    ]

pub returns : goal.returns
returns c = λ all.
    let end : c.words.k ≡ c.args.end = omega (arith, c.words-test.false, c.words.auto.k-end) in
    subst (λ n. AreListed n c.words.listed.indices c.words.listed.count c.args.words.now) end
    (all_listed c.words.k c.words.listed.indices c.words.listed.count c.args.words.now c.words.invariant)
