use Rattle.std.proofs.Common.{◌≡◌, ℕ, ◌*◌, ◌/◌, ◌<◌, [], ◌∷◌, ◌++◌, length, take, drop, false, refl, ap, ap₂, sym, ◌∙◌, arith, append_assoc}
use Rattle.std.specs.Prelude.{◌==◌}
use Rattle.std.proofs.lemmas.Bool.Decides.{nat_tests}
use Rattle.bsi_segments.specs.Segments.{word_at, words_of}
use Rattle.bsi_segments.proofs.Padding.{last_is}
use Rattle.bsi_segments.proofs.bytes.encode_reserved.Goals as goal

some : (n : ℕ) → (n == 0) ≡ false → 0 < n
some n off = grind (arith, nat_tests)

pub returns-then-not-is_empty : goal.returns-then-not-is_empty
returns-then-not-is_empty c =
    let bytes = c.args.bytes.now in
    let old = c.args.out.now.items in
    let q = length bytes / 8 in
    let left : 0 < length c.split_at.result.1.now = some (length c.split_at.result.1.now) (sym c.is_empty.ensures ∙ c.if-not-is_empty.true) in
    let more : 8 * q < length bytes = omega (arith, left, c.split_at.ensures.back_len) in
    c.push_reserved.ensures.items
    ∙ ap₂ (λ ws w. ws ++ w ∷ []) (c.decode_words.ensures.words ∙ ap (λ first. old ++ words_of q first) c.split_at.ensures.front) (c.last_word.ensures ∙ ap (λ last. word_at last 0) c.split_at.ensures.back)
    ∙ append_assoc old (words_of q (take (8 * q) bytes)) (word_at (drop (8 * q) bytes) 0 ∷ [])
    ∙ ap (λ ws. old ++ ws) (last_is q bytes refl more)
