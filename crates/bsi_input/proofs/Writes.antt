-- Bytes that go to a writer part by part.
use Rattle.std.proofs.Common.{◌≡◌, ℕ, ◌+◌, ◌-◌, List, length, take, drop, arith, length-drop}
use Rattle.std.proofs.Math.Seq.{take-add}
use Rattle.std.proofs.lemmas.List.{take_all}
use Rattle.std.specs.Io.KnownBytes.{Appends}
use Rattle.csv.proofs.WriteFacts.{appends-more}
use Rattle.bsi_syntax.specs.Bytes.{KnownBytes}

-- some more bytes, after the first ones
pub written_more : (first middle last : KnownBytes) (bytes : List ℕ) (at more : ℕ)
    → Appends first middle (take at bytes) → Appends middle last (take more (take (length bytes - at) (drop at bytes)))
    → Appends first last (take (at + more) bytes)
written_more first middle last bytes at more before next =
    let rest : take (length bytes - at) (drop at bytes) ≡ drop at bytes = take_all _ _ (omega (arith, length-drop at bytes)) in
    let part : Appends middle last (take more (drop at bytes)) = rw rest at next in
    rw (take-add at more bytes) (appends-more first middle last (take at bytes) (take more (drop at bytes)) before part)
