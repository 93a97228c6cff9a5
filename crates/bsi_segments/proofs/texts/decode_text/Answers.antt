use Rattle.std.proofs.Common.{length, get_or, take, drop, ap, sym, ◌∙◌, arith, length-append}
use Rattle.std.specs.Int.{div_ceil}
use Rattle.std.proofs.lemmas.List.{take_at}
use Rattle.bsi_segments.specs.Bytes.{packed_bytes}
use Rattle.bsi_segments.proofs.Coding.{behind}
use Rattle.bsi_segments.proofs.Eights.{length-words_of}
use Rattle.bsi_segments.proofs.texts.decode_text.Goals as goal

pub returns-then-count-rest-clause-none : goal.returns-then-count-rest-clause-none
returns-then-count-rest-clause-none c = λ text rest are is.
    let few = length-words_of (div_ceil (length text) 8) text in
    let count = c.div_ceil-count.ensures ∙ ap (λ ws. div_ceil (get_or ws 0 0) 8) is in
    let there = ap length (behind 1 c.args.words.now ∙ ap (drop 1) is) in
    omega (arith, c.if-count-rest.true, count, few, there, length-append (packed_bytes text) rest)

pub returns-in_default-2-clause-none : goal.returns-in_default-2-clause-none
returns-in_default-2-clause-none c = λ text rest are is.
    let few = length-words_of (div_ceil (length text) 8) text in
    let count = c.div_ceil-count.ensures ∙ ap (λ ws. div_ceil (get_or ws 0 0) 8) is in
    let there = behind 1 c.args.words.now ∙ ap (drop 1) is in
    let none = rw c.in_default-2.is at c.in_ok-text.ensures.none in
    none text are (sym (ap (λ ws. get_or ws 0 0) is))
    (c.split_at.ensures.front ∙ ap (take c.div_ceil-count.result) there ∙ take_at (packed_bytes text) rest c.div_ceil-count.result (few ∙ sym count))
