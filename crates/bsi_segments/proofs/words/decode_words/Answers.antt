use Rattle.std.proofs.Common.{◌*◌, [], ◌∷◌, ◌++◌, length, ap, sym, ◌∙◌, refl, arith, length-append, append_assoc}
use Rattle.bsi_segments.specs.Bytes.{AreBytes}
use Rattle.bsi_segments.specs.Segments.{words_of, word_at}
use Rattle.bsi_segments.proofs.Eights.{all_bytes_again, length-words_of, word_is, words_more}
use Rattle.bsi_segments.proofs.words.decode_words.Goals as goal

pub push_reserved-requires : goal.push_reserved-requires
push_reserved-requires c =
    let many = length-words_of c.words.k c.args.bytes.now in
    let long = ap length c.words.invariant.consumed in
    let joined = length-append c.args.words.now.items (words_of c.words.k c.args.bytes.now) in
    omega (arith, many, long, joined, c.words.invariant.room)

pub words-preserved : goal.words-preserved
words-preserved c = record {
  consumed =
      c.push_reserved.ensures.items
      ∙ ap (λ w. c.words.words.items ++ w ∷ []) (c.from_le_bytes.ensures ∙ word_is c.args.bytes.now c.words.k (8 * c.words.k) refl)
      ∙ ap (λ ws. ws ++ word_at c.args.bytes.now c.words.k ∷ []) c.words.invariant.consumed
      ∙ append_assoc c.args.words.now.items (words_of c.words.k c.args.bytes.now) (word_at c.args.bytes.now c.words.k ∷ [])
      ∙ ap (λ ws. c.args.words.now.items ++ ws) (sym (words_more c.words.k c.args.bytes.now));
  room = c.push_reserved.ensures.capacity ∙ c.words.invariant.room;
}

pub returns-clause-bytes : goal.returns-clause-bytes
returns-clause-bytes c =
    let are : AreBytes c.args.bytes.now = record { each = λ i. omega (arith, c.type_inv.bytes i) } in
    sym (all_bytes_again c.args.count c.args.bytes.now are c.requires.long)

pub returns-clause-count : goal.returns-clause-count
returns-clause-count c = length-words_of c.args.count c.args.bytes.now
