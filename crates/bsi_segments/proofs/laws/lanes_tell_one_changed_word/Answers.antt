use Rattle.std.proofs.Common.{ℕ, ◌^◌, ◌<◌, List, ◌∷◌, ◌++◌, length, arith}
use Rattle.std.proofs.Math.Seq.{get_or-append_seam}
use Rattle.bsi_segments.specs.Segments.{AreWords}
use Rattle.bsi_segments.proofs.Lanes.{one_word_known_by_lanes}
use Rattle.bsi_segments.proofs.laws.lanes_tell_one_changed_word.Goals as goal

middle : (front back : List ℕ) (w : ℕ) → AreWords (front ++ w ∷ back) → w < 2 ^ 64
middle front back w are = omega (arith, get_or-append_seam front w back 0, are.each (length front))

pub returns : goal.returns
returns c = λ front back word other are others_are back_are same.
    one_word_known_by_lanes front back word other are.few (middle front back word are) (middle front back other others_are) back_are.each same
