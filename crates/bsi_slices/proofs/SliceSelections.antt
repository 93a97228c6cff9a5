-- What a comparison selects of the rows of a column of slices.
use Rattle.std.proofs.Common.{◌≡◌, ℕ, ◌+◌, ◌/◌, ◌^◌, ◌<◌, Bool, true, false, ◌&&◌, List, length, get_or, map, replicate, Some, None, inl, inr, sym, ◌∙◌, ap, refl, arith, zero-add}
use Rattle.std.specs.Prelude.{if◌then◌else◌}
use Rattle.std.proofs.lemmas.Bool.{cases_lt}
use Rattle.std.proofs.lemmas.List.{length-replicate, get_or-replicate, get_or_past}
use Rattle.std.proofs.Math.Bool.{and-true, and-false}
use Rattle.bsi_bits.specs.BitList.{BitList}
use Rattle.bsi_bits.specs.Packed.{bit_of, bits_of}
use Rattle.bsi_bits.proofs.Reading.{length-bits_of, get_or-bits_of}
use Rattle.bsi_digits.specs.Comparisons.{compares, selects}
use Rattle.bsi_digits.specs.declared.op.Op.{Op}
use Rattle.bsi_slices.specs.declared.decision.Test.{Test}
use Rattle.bsi_slices.specs.declared.decision.Decision.{Decision}
use Rattle.bsi_slices.specs.declared.decision.Decision.TheVariants.{Nothing, Everything, Tested}
use Rattle.bsi_slices.specs.Slices.{number, entries_in}
use Rattle.bsi_slices.specs.Spans.{IsIntersected}
use Rattle.bsi_slices.specs.Decisions.{decides, passes}
use Rattle.bsi_slices.proofs.SliceEntries.{by_entries, get_or-entries_in, length-entries_in}
use Rattle.bsi_slices.proofs.SliceNumbers.{number_below}

module _ (not_null : List Bool) (slices : List BitList) (op : Op) (n size : ℕ) (size_is : size ≡ 2 ^ length slices) (choice : Decision)
    (agree : (x : ℕ) → x < size → decides choice x ≡ compares op x n) where
  of_mark : (there : Bool) (m : ℕ) → m < size → (there && decides choice m) ≡ selects op n (if there then Some m else None)
  of_mark true m small = agree m small
  of_mark false m small = refl

  -- the rows that are there and decided for are those that the comparison selects
  selected : (bits : List Bool) → length bits ≡ length not_null → ((r : ℕ) → r < length not_null → get_or bits r false ≡ (get_or not_null r false && decides choice (number slices r)))
      → bits ≡ map (selects op n) (entries_in not_null slices)
  selected bits long each =
      by_entries (selects op n) not_null slices false bits long
      (λ r below. each r below ∙ of_mark (get_or not_null r false) (number slices r) (omega (arith, size_is, number_below slices r)))

  pub selected_none : choice ≡ Nothing → (bits : List Bool) (count : ℕ) → count ≡ length not_null → bits ≡ replicate count false → bits ≡ map (selects op n) (entries_in not_null slices)
  selected_none is bits count long none =
      selected bits (ap length none ∙ length-replicate count false ∙ long)
      (λ r below. ap (λ b. get_or b r false) none ∙ get_or-replicate count r false false (omega arith)
      ∙ sym (ap (λ s. get_or not_null r false && decides s (number slices r)) is ∙ and-false (get_or not_null r false)))

  pub selected_all : choice ≡ Everything → (bits : List Bool) → bits ≡ not_null → bits ≡ map (selects op n) (entries_in not_null slices)
  selected_all is bits all =
      selected bits (ap length all)
      (λ r below. ap (λ b. get_or b r false) all ∙ sym (ap (λ s. get_or not_null r false && decides s (number slices r)) is ∙ and-true (get_or not_null r false)))

  pub selected_tested : (test : Test) → choice ≡ Tested test
      → (bits : List Bool) (old new : List ℕ) (count : ℕ) → count ≡ length not_null → length old ≡ (length not_null + 63) / 64 → ((r : ℕ) → bit_of old r ≡ get_or not_null r false)
      → IsIntersected (λ r. passes test (number slices (0 + r))) 0 (length old) old new → bits ≡ bits_of count new
      → bits ≡ map (selects op n) (entries_in not_null slices)
  selected_tested test is bits old new count long few places tested are =
      selected bits (ap length are ∙ length-bits_of count new ∙ long)
      (λ r below. ap (λ b. get_or b r false) are ∙ get_or-bits_of count new r false (omega arith)
      ∙ tested.inside r (omega arith) (omega arith)
      ∙ (λ j. places r j && passes test (number slices (zero-add r j)))
      ∙ sym (ap (λ s. get_or not_null r false && decides s (number slices r)) is))

  -- a row of a span that is there and decided for is one that the comparison selects; past the last row none is there
  pub tested_decided : (was : Bool) (r : ℕ) → (was && (get_or not_null r false && decides choice (number slices r)))
      ≡ (was && selects op n (get_or (entries_in not_null slices) r None))
  tested_decided was r = ap (λ b. was && b) (elim (cases_lt r (length not_null)) [
    | inl below ↦
        of_mark (get_or not_null r false) (number slices r) (omega (arith, size_is, number_below slices r))
        ∙ ap (selects op n) (sym (get_or-entries_in not_null slices r None below))
    | inr past ↦
        ap (λ b. b && decides choice (number slices r)) (get_or_past not_null r false past)
        ∙ ap (selects op n) (sym (get_or_past (entries_in not_null slices) r None (omega (arith, past, length-entries_in not_null slices))))
  ])

pub and_assoc : (a b c : Bool) → ((a && b) && c) ≡ (a && (b && c))
and_assoc true b c = refl
and_assoc false b c = refl
