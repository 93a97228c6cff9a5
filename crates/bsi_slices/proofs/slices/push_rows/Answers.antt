use Rattle.std.proofs.Common.{◌≡◌, ℕ, ◌<◌, ◌^◌, ◌++◌, ◌∷◌, [], length, map, take, None, is_some, inl, inr, ap, ◌∙◌, arith}
use Rattle.std.specs.Prelude.{◌==◌}
use Rattle.std.specs.Int.{bit_at}
use Rattle.std.proofs.lemmas.Nat.{pow_pos}
use Rattle.std.proofs.lemmas.Bool.{cases_lt}
use Rattle.std.proofs.lemmas.List.{get_or-take, get_or_past, length-take}
use Rattle.std.proofs.lemmas.List.Elements.{All-get_or}
use Rattle.bsi_bits.specs.BitLists.{bits_at}
use Rattle.bsi_bits.specs.Packed.{bits_of}
use Rattle.bsi_digits.specs.Blocks.{block_entries}
use Rattle.bsi_digits.specs.Comparisons.{number_or_zero}
use Rattle.bsi_digits.proofs.BlockEntries.{length-block_entries}
use Rattle.bsi_slices.proofs.BlockWords.{bits_are_some, small-block_entries, word_clear, word_is}
use Rattle.bsi_slices.proofs.SliceGrowth.{entries_more, sliced_more}
use Rattle.bsi_slices.proofs.slices.push_rows.Goals as goal

-- the words that are pushed have no bit after the block's last row
pub push_words-requires-clause-clear : goal.push_words-requires-clause-clear
push_words-requires-clause-clear c = λ j.
    let count = length c.as_slice.result.now in
    let words = c.transpose.new.words in
    let few = ap length c.as_slice.ensures.vectors in
    elim (cases_lt j count) [
      | inl below ↦
          let read = get_or-take count words j 0 below in
          let clear = word_clear c.args.numbers.now words c.requires.few c.copy_from_slice.new.self c.copy_from_slice.ensures.after c.transpose.ensures.transposed j (omega (arith, below, few, c.requires.sliced.few)) (c.transpose.ensures.fits j) in
          omega (arith, read, clear)
      | inr past ↦
          let none = get_or_past (take count words) j 0 (omega (arith, past, length-take count words)) in
          omega (arith, none, pow_pos (length c.args.numbers.now))
    ]

-- each slice has its places of the numbers after its bits
pub returns-clause-sliced : goal.returns-clause-sliced
returns-clause-sliced c =
    let numbers = c.args.numbers.now in
    let block = block_entries numbers c.args.there in
    let slices = c.args.slices.now.vectors in
    let words = c.transpose.new.words in
    let few = ap length c.as_slice.ensures.vectors in
    let long : length block ≡ length numbers = length-block_entries numbers c.args.there in
    let marks : c.push_word_reserved.new.self.bits ≡ c.args.not_null.now.bits ++ map is_some block =
    c.push_word_reserved.ensures.bits ∙ ap (λ bits. c.args.not_null.now.bits ++ bits) (bits_are_some numbers c.args.there c.requires.block c.requires.few) in
    let pushed : (k : ℕ) → k < length slices → bits_at c.push_words.new.self.vectors k ≡ bits_at slices k ++ map (λ e. bit_at (number_or_zero e) k == 1) block = λ k within.
    c.push_words.ensures.bits k within
    ∙ ap (λ word. bits_at slices k ++ bits_of (length numbers) (word ∷ [])) (get_or-take (length c.as_slice.result.now) words k 0 (omega (arith, within, few)))
    ∙ ap (λ bits. bits_at slices k ++ bits) (word_is numbers words c.requires.few c.copy_from_slice.new.self c.copy_from_slice.ensures.after c.transpose.ensures.transposed k (omega (arith, within, c.requires.sliced.few)) c.args.there c.requires.block) in
    sliced_more c.args.not_null.now.bits c.push_word_reserved.new.self.bits slices c.push_words.new.self.vectors block c.requires.sliced
    (λ i within. All-get_or (λ e. number_or_zero e < 2 ^ length slices) block i None within (small-block_entries numbers c.args.there c.requires.block (2 ^ length slices) c.requires.below)) marks c.push_words.ensures.count pushed (omega (arith, c.len.ensures))

pub returns-clause-entries : goal.returns-clause-entries
returns-clause-entries c =
    let numbers = c.args.numbers.now in
    let block = block_entries numbers c.args.there in
    let slices = c.args.slices.now.vectors in
    let words = c.transpose.new.words in
    let few = ap length c.as_slice.ensures.vectors in
    let long : length block ≡ length numbers = length-block_entries numbers c.args.there in
    let marks : c.push_word_reserved.new.self.bits ≡ c.args.not_null.now.bits ++ map is_some block =
    c.push_word_reserved.ensures.bits ∙ ap (λ bits. c.args.not_null.now.bits ++ bits) (bits_are_some numbers c.args.there c.requires.block c.requires.few) in
    let pushed : (k : ℕ) → k < length slices → bits_at c.push_words.new.self.vectors k ≡ bits_at slices k ++ map (λ e. bit_at (number_or_zero e) k == 1) block = λ k within.
    c.push_words.ensures.bits k within
    ∙ ap (λ word. bits_at slices k ++ bits_of (length numbers) (word ∷ [])) (get_or-take (length c.as_slice.result.now) words k 0 (omega (arith, within, few)))
    ∙ ap (λ bits. bits_at slices k ++ bits) (word_is numbers words c.requires.few c.copy_from_slice.new.self c.copy_from_slice.ensures.after c.transpose.ensures.transposed k (omega (arith, within, c.requires.sliced.few)) c.args.there c.requires.block) in
    entries_more c.args.not_null.now.bits c.push_word_reserved.new.self.bits slices c.push_words.new.self.vectors block c.requires.sliced
    (λ i within. All-get_or (λ e. number_or_zero e < 2 ^ length slices) block i None within (small-block_entries numbers c.args.there c.requires.block (2 ^ length slices) c.requires.below)) marks c.push_words.ensures.count pushed
