use Rattle.std.proofs.Common.{◌≡◌, ℕ, suc, ◌+◌, ◌<◌, ◌≤◌, List, ◌∷◌, length, drop, get_or, ap, sym, ◌∙◌, arith, drop-cons}
use Rattle.std.proofs.lemmas.List.{drop_all}
use Rattle.bsi_segments.specs.Segments.{checksum_from, checksum_step}
use Rattle.bsi_segments.proofs.checksums.checksum.Goals as goal

one_more : (sum i : ℕ) (words : List ℕ) → i < length words → checksum_from (checksum_step sum (get_or words i 0)) (drop (i + 1) words) ≡ checksum_from sum (drop i words)
unfolding checksum_from
one_more sum i words within =
    let next : drop i words ≡ get_or words i 0 ∷ drop (suc i) words = drop-cons words i 0 within in
    let same : i + 1 ≡ suc i = omega arith in
    ap (λ k. checksum_from (checksum_step sum (get_or words i 0)) (drop k words)) same ∙ sym (ap (checksum_from sum) next)

none_left : (sum i : ℕ) (words : List ℕ) → length words ≤ i → sum ≡ checksum_from sum (drop i words)
unfolding checksum_from
none_left sum i words all = sym (ap (checksum_from sum) (drop_all i words all))

pub words-preserved : goal.words-preserved
words-preserved c =
    ap (λ s. checksum_from s (drop (c.words.word-index + 1) c.args.words.now)) c.step-sum.ensures
    ∙ one_more c.words.sum c.words.word-index c.args.words.now c.words-test.true ∙ c.words.invariant

pub returns : goal.returns
returns c = none_left c.words.sum c.words.word-index c.args.words.now c.words-test.false ∙ c.words.invariant
