-- What a span keeps of the rows by a predicate, from what it keeps by its parts.
use Rattle.std.proofs.Common.{◌≡◌, ℕ, ◌+◌, ◌*◌, ◌-◌, ◌<◌, ◌≤◌, Bool, List, ◌++◌, length, get_or, take, drop, map, refl, ap, ap₂, inl, inr, sym, ◌∙◌, true, false, arith, length-append}
use Rattle.std.specs.Prelude.{None, bit_or, bit_xor, not, ◌&&◌, ◌||◌}
use Rattle.std.specs.Simd.Lanes.{chunk, zip2}
use borrow.Rule.Slice.PartMut.{put_mid}
use Rattle.std.proofs.lemmas.Bool.{cases_lt}
use Rattle.std.specs.List.{range_with_len}
use Rattle.std.proofs.Math.Seq.{drop-append_seam, take-append_seam}
use Rattle.std.proofs.lemmas.List.FromFn.{fill_by_all}
use Rattle.bsi_bits.specs.BitList.{differ}
use Rattle.bsi_bits.specs.Packed.{bit_of, bits_of}
use Rattle.bsi_bits.proofs.Logic.{xor_bitwise}
use Rattle.bsi_bits.proofs.Reading.{length-bits_of, get_or-bits_of}
use Rattle.bsi_columns.proofs.SpanChunks.{bit_before, bit_after, bit_inside}
use Rattle.bsi_columns.proofs.WordSpans.{bit_of-chunk, or_bit, zipped_bit}
use Rattle.bsi_shift.specs.Shifted.{shifted_entries, OffsetColumn}
use Rattle.bsi_rows.specs.declared.query.Pred.{Pred}
use Rattle.bsi_rows.specs.Rows.{entry_at, holds}
use Rattle.bsi_table.specs.Encoded.{row_in, rows_in}
use Rattle.bsi_table.proofs.TableRows.{entry-row_in, encoded_read}
use Rattle.bsi_rows.proofs.BlockRows.{map_twice}

-- the words that were saved last, and those before them
module _ (s saved stack : List ℕ) (n : ℕ) (is : stack ≡ s ++ saved) (long : n ≡ length saved) where
  start : length stack - n ≡ length s
  start = omega (arith, ap length is, length-append s saved)

  pub saved_last : drop (length stack - n) stack ≡ saved
  saved_last = ap₂ drop start is ∙ drop-append_seam s saved

  pub saved_before : take (length stack - n) stack ≡ s
  saved_before = ap₂ take start is ∙ take-append_seam s saved

-- the entry of a row, by the column that was read
module _ (encoded : List OffsetColumn) (c : ℕ) (column : OffsetColumn) (within : c < length encoded) (is : column ≡ get_or encoded c column) where
  pub entry_read : (r : ℕ) → get_or (shifted_entries column) r None ≡ entry_at (row_in encoded r) c
  entry_read r = ap (λ k. get_or (shifted_entries k) r None) (sym (encoded_read encoded c column within is)) ∙ sym (entry-row_in encoded c r within)

-- one of two tests holds of a row, where both were asked of it
either_narrowed : (was first second : Bool) → ((was && second) || (was && first)) ≡ (was && (first || second))
either_narrowed true true true = refl
either_narrowed true true false = refl
either_narrowed true false true = refl
either_narrowed true false false = refl
either_narrowed false first second = refl

-- the rows of which a test does not hold are those that it left out
room_left_out : (was test : Bool) → differ (was && test) was ≡ (was && not test)
room_left_out true true = refl
room_left_out true false = refl
room_left_out false test = refl

pub joined_bit : (old first second : List ℕ) (p : ℕ) (a b : Bool) → length second ≡ length first → p < 64 * length second
    → bit_of first p ≡ (bit_of old p && a) → bit_of second p ≡ (bit_of old p && b) → bit_of (zip2 bit_or second first) p ≡ (bit_of old p && (a || b))
joined_bit old first second p a b same below one other =
    or_bit second first same p below ∙ ap₂ ◌||◌ other one ∙ either_narrowed (bit_of old p) a b

pub turned_bit : (old encoded : List ℕ) (p : ℕ) (a : Bool) → length encoded ≡ length old → p < 64 * length encoded
    → bit_of encoded p ≡ (bit_of old p && a) → bit_of (zip2 bit_xor encoded old) p ≡ (bit_of old p && not a)
turned_bit old encoded p a same below is =
    zipped_bit (λ _. Unit {0}) bit_xor differ xor_bitwise encoded old same (λ k. tt) p below
    ∙ ap (λ x. differ x (bit_of old p)) is ∙ room_left_out (bit_of old p) a

-- words that have a bit for each row of which the predicate holds
pub selected_rows : (encoded : List OffsetColumn) (count : ℕ) (pred : Pred) (words : List ℕ)
    → ((r : ℕ) → r < count → bit_of words r ≡ holds pred (row_in encoded r)) → bits_of count words ≡ map (holds pred) (rows_in encoded count)
unfolding rows_in
selected_rows encoded count pred words each =
    fill_by_all (λ r. holds pred (row_in encoded r)) (bits_of count words) count false (length-bits_of count words)
    (λ r below. get_or-bits_of count words r false below ∙ each r below)
    ∙ sym (map_twice (holds pred) (row_in encoded) (range_with_len 0 count))

-- one block more of the words is narrowed
module _ (encoded : List OffsetColumn) (count : ℕ) (pred : Pred) (old words new_chunk : List ℕ) (at n : ℕ) (within : at + n ≤ length words) (long : length new_chunk ≡ n)
    (done : (r : ℕ) → r < 64 * at → r < count → bit_of words r ≡ (bit_of old r && holds pred (row_in encoded r)))
    (rest : (r : ℕ) → 64 * at ≤ r → bit_of words r ≡ bit_of old r)
    (narrowed : (p : ℕ) → p < 64 * n → 64 * at + p < count → bit_of new_chunk p ≡ (bit_of (chunk at n words) p && holds pred (row_in encoded (64 * at + p)))) where
  pub narrowed_more : (r : ℕ) → r < 64 * (at + n) → r < count → bit_of (put_mid at n words new_chunk) r ≡ (bit_of old r && holds pred (row_in encoded r))
  narrowed_more r below row = elim (cases_lt r (64 * at)) [
    | inl before ↦ bit_before at n words new_chunk within long r before ∙ done r before row
    | inr past ↦
        let p : ℕ = r - 64 * at in
        let place : 64 * at + p ≡ r = omega arith in
        ap (bit_of (put_mid at n words new_chunk)) (sym place) ∙ bit_inside at n words new_chunk within long p (omega arith)
        ∙ narrowed p (omega arith) (omega arith)
        ∙ ap (λ b. b && holds pred (row_in encoded (64 * at + p))) (bit_of-chunk at n words p (omega arith))
        ∙ ap (λ q. bit_of words q && holds pred (row_in encoded q)) place
        ∙ ap (λ b. b && holds pred (row_in encoded r)) (rest r past)
  ]

  pub narrowed_rest : (r : ℕ) → 64 * (at + n) ≤ r → bit_of (put_mid at n words new_chunk) r ≡ bit_of old r
  narrowed_rest r past = bit_after at n words new_chunk within long r past ∙ rest r (omega arith)
