use Rattle.std.proofs.Common.{◌≡◌, ◌++◌, List, ℕ, ap, ◌∙◌, Result, Ok, Err}
use Rattle.std.specs.Prelude.{OnOk, is_ok, if◌then◌else◌}
use Rattle.bsi_segments.specs.Bitmaps.{packed}
use Rattle.bsi_segments.proofs.Packing.{packed_are}
use Rattle.bsi_segments.proofs.packed.encode_bits.Goals as goal

on_ok : {T E : Type 0} (r : Result T E) (old new words others : List ℕ) → new ≡ (if is_ok r then old ++ words else old) → words ≡ others → OnOk r (new ≡ old ++ others)
on_ok (Ok x) old new words others is same = is ∙ ap (λ ws. old ++ ws) same
on_ok (Err e) old new words others is same = tt

pub returns-clause-ok : goal.returns-clause-ok
returns-clause-ok c =
    on_ok c.extend_from_slice.result c.args.out.now.items c.extend_from_slice.new.self.items c.words-words.result.now (packed c.args.bits.now.bits) c.extend_from_slice.ensures.items
    (packed_are c.words-words.result.now c.args.bits.now.bits c.know_words.ensures.each c.words-words.ensures.few c.words-words.ensures.places)
