-- The parts of a list of bases: what is between two spaces.
use denote.Param.Members.{Mut}
use Rattle.std.proofs.Common.{◌≡◌, ℕ, ◌==◌, ◌<◌, Bool, false, List, [], length, get_or, Option, Some, None, Bor, refl}
use Rattle.std.specs.Fn.{CalledAt}
use Rattle.std.specs.Iterator.{Yields}
use Rattle.std.specs.List.{slice_split}
use Rattle.std.specs.Slice.Iter as slice
use Rattle.std.proofs.lemmas.Iterator.Consumers.{YieldsList-turn, YieldsList-end}
use Rattle.std.proofs.lemmas.Iterator.Splits.{YieldsList-from_slice_split}
use Rattle.std.proofs.lemmas.List.{get_or_read_under}
use Rattle.bsi_rows.specs.Fields.{Field}

abbrev pub parts : Field → List Field
parts text = slice_split (λ byte. byte == 32) text

-- what a loop over the parts of a text yielded so far, where the closure finds spaces
module _ {F : Type 0} (g : Mut F (Bor ℕ × Unit {0}) Bool) (s t u : _) (xs : List (Bor Field)) (yielded : Yields (slice.split_steps g) s xs t)
    (r : Option (Bor Field)) (next : slice.split_steps g t r u) (text : Field) (rest : slice.split_rest s ≡ text) (more : slice.split_done s ≡ false)
    (spaces : (byte : ℕ) (b : Bool) (q : F) → CalledAt g (slice.split_callee s) byte b q → (q ≡ slice.split_callee s) × (b ≡ (byte == 32))) where
  pub parts_turn : (x : Bor Field) → r ≡ Some x → (length xs < length (parts text)) × (x.now ≡ get_or (parts text) (length xs) [])
  parts_turn x is =
      let turn = YieldsList-turn (YieldsList-from_slice_split {s = s} g (λ byte. byte == 32) text rest more refl spaces) xs t yielded r u x is next in
      (turn.0, get_or_read_under (parts text) (length xs) (length (parts text)) x.now [] turn.1 turn.0 refl)

  pub parts_end : r ≡ None → length xs ≡ length (parts text)
  parts_end is = (YieldsList-end (YieldsList-from_slice_split {s = s} g (λ byte. byte == 32) text rest more refl spaces) xs t yielded r u is next).1
