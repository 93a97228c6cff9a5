-- Words that are read from an offset on.
use Rattle.std.proofs.Common.{◌≡◌, ℕ, ◌+◌, ◌*◌, ◌<◌, List, [], ◌++◌, length, take, drop, Option, Some, None, inl, inr, sym, ap, ap₂, subst, ◌∙◌, arith, length-drop, length-take, length-append}
use Rattle.std.specs.Prelude.{min, IfSome}
use Rattle.std.specs.Io.KnownBytes.{Consumes}
use Rattle.std.specs.Int.{w64, to_le_bytes}
use Rattle.std.proofs.Math.Seq.{take-add}
use Rattle.std.proofs.lemmas.Bool.{cases_lt}
use Rattle.std.proofs.lemmas.Grind.{flat_map-append}
use Rattle.std.proofs.lemmas.List.{drop-drop, drop_all, nil_from_length, take-append-drop, take_at}
use Rattle.bsi_pread.specs.Offsets.{known_from, StandAt}
use Rattle.bsi_segments.specs.Segments.{bytes_of, EndsWithin, ReadsWords}
use Rattle.bsi_segments.proofs.Eights.{length-bytes_of}

pub stand_taken : (known after : Option (List ℕ)) (at : ℕ) (words : List ℕ) → Consumes (known_from at known) after (bytes_of words) → StandAt known at words
stand_taken None after at words taken = tt
stand_taken (Some bytes) None at words taken = absurd taken
stand_taken (Some bytes) (Some rest) at words taken =
    ap (take (8 * length words)) taken ∙ take_at (bytes_of words) rest (8 * length words) (length-bytes_of words)

pub ends_before : (known after : Option (List ℕ)) (at n : ℕ) → EndsWithin (known_from at known) after n → IfSome known (λ bytes. length bytes < at + n)
ends_before None after at n ends = tt
ends_before (Some bytes) None at n ends = absurd ends.only.consumed
ends_before (Some bytes) (Some rest) at n ends =
    let all : length (drop at bytes) ≡ length ends.bytes + length rest = ap length ends.only.consumed ∙ length-append ends.bytes rest in
    let none : length rest ≡ 0 = ap length ends.only.ended in
    omega (arith, all, none, ends.few, length-drop at bytes)

module _ (known seen after : Option (List ℕ)) (at from count : ℕ) (old new : List ℕ) (same : seen ≡ known) (here : from ≡ at)
    (takes : ReadsWords (known_from from seen) after count old new) (none : old ≡ []) where
  these : takes.words ≡ new
  these = sym (takes.new_is ∙ ap (λ ws. ws ++ takes.words) none)

  -- words that were read from an offset on, behind none
  pub stand_read : StandAt known at new
  stand_read =
      let there : Consumes (known_from from seen) after (bytes_of new) = subst (λ (ws : List ℕ). Consumes (known_from from seen) after (bytes_of ws)) these takes.consumed in
      let at_known : Consumes (known_from at known) after (bytes_of new) =
      subst (λ (k : Option (List ℕ)). Consumes (known_from at k) after (bytes_of new)) same (subst (λ (n : ℕ). Consumes (known_from n seen) after (bytes_of new)) here there) in
      stand_taken known after at new at_known

  pub many_read : length new ≡ count
  many_read = sym (ap length these) ∙ takes.many

-- words that stand behind others
pub stand_more : (known : Option (List ℕ)) (at : ℕ) (words more : List ℕ) → StandAt known at words → StandAt known (at + 8 * length words) more → StandAt known at (words ++ more)
stand_more None at words more first second = tt
stand_more (Some bytes) at words more first second =
    let long : 8 * length (words ++ more) ≡ 8 * length words + 8 * length more = omega (arith, length-append words more) in
    ap (λ n. take n (drop at bytes)) long
    ∙ take-add (8 * length words) (8 * length more) (drop at bytes)
    ∙ ap₂ ◌++◌ first (ap (take (8 * length more)) (drop-drop (8 * length words) at bytes) ∙ second)
    ∙ sym (flat_map-append (to_le_bytes w64) words more)

-- what is read of bytes that are lent
module _ (bytes rest read room : List ℕ) (at from count : ℕ) (from_is : from ≡ min at (length bytes)) (rest_is : rest ≡ drop from bytes)
    (count_is : count ≡ min (length rest) (length room)) (read_is : read ≡ take count rest) where
  rest_from : rest ≡ drop at bytes
  rest_from = rest_is ∙ elim (cases_lt at (length bytes)) [
    | inl below ↦ let same : from ≡ at = omega (arith, from_is, below) in ap (λ n. drop n bytes) same
    | inr past ↦ drop_all from bytes (omega (arith, from_is, past)) ∙ sym (drop_all at bytes past)
  ]

  long_read : length read ≡ count
  long_read = ap length read_is ∙ omega (arith, length-take count rest, count_is)

  pub lent_read : drop at bytes ≡ take count (read ++ drop count room) ++ drop (at + count) bytes
  lent_read =
      sym (take-append-drop count (drop at bytes))
      ∙ ap₂ ◌++◌ (ap (take count) (sym rest_from) ∙ sym read_is ∙ sym (take_at read (drop count room) count long_read)) (drop-drop count at bytes)

  pub lent_end : count ≡ 0 → 0 < length (read ++ drop count room) → drop at bytes ≡ []
  lent_end none some =
      nil_from_length (drop at bytes) (omega (arith, ap length rest_from, count_is, none, some, long_read, length-append read (drop count room), length-drop count room))
