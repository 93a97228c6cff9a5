use Rattle.std.proofs.Common.{length, take, drop, true≢false, ap, sym, subst, ◌∙◌, arith}
use Rattle.std.specs.Prelude.{◌==◌}
use Rattle.std.specs.List.{list_all}
use Rattle.bsi_segments.specs.Bytes.{packed_bytes, AreBytes}
use Rattle.bsi_segments.proofs.Eights.{length-bytes_of}
use Rattle.bsi_segments.proofs.Padding.{bytes_of_are, made_of_words, pad_is, take_are, zeros_behind}
use Rattle.bsi_segments.proofs.bytes.decode_bytes.Goals as goal

pub split_at-requires : goal.split_at-requires
split_at-requires c =
    omega (arith, ap length (c.deref.ensures.value ∙ c.in_ok-bytes.ensures), length-bytes_of c.args.words.now, c.requires, pad_is c.args.len)

pub returns-then-not-are_zero-clause-none : goal.returns-then-not-are_zero-clause-none
returns-then-not-are_zero-clause-none c = λ bytes are long is.
    let zeros = zeros_behind c.args.words.now bytes c.args.len are long is in
    let past = c.split_at.ensures.back ∙ ap (drop c.args.len) (c.deref.ensures.value ∙ c.in_ok-bytes.ensures) in
    absurd (true≢false (sym zeros ∙ ap (list_all (λ b. b == 0)) (sym past) ∙ sym c.are_zero.ensures ∙ c.if-not-are_zero.true))

pub returns-clause-made : goal.returns-clause-made
returns-clause-made c =
    let past = c.split_at.ensures.back ∙ ap (drop c.args.len) (c.deref.ensures.value ∙ c.in_ok-bytes.ensures) in
    let zeros = ap (list_all (λ b. b == 0)) (sym past) ∙ sym c.are_zero.ensures ∙ c.if-not-are_zero.false in
    let is = c.truncate.ensures.items ∙ ap (take c.args.len) c.in_ok-bytes.ensures in
    let made = made_of_words c.args.words.now c.args.len c.requires (λ i. omega (arith, c.type_inv.words i)) zeros in
    (ap length is ∙ made.0, made.1 ∙ ap packed_bytes (sym is))

pub returns-clause-fits : goal.returns-clause-fits
returns-clause-fits c =
    let is = c.truncate.ensures.items ∙ ap (take c.args.len) c.in_ok-bytes.ensures in
    subst AreBytes (sym is) (take_are c.args.len _ (bytes_of_are c.args.words.now))
