use Rattle.std.proofs.Common.{◌≡◌, ◌+◌, ◌-◌, ◌*◌, [], ◌++◌, get_or, take, sym, ap, ◌∙◌, arith}
use Rattle.std.proofs.lemmas.List.{take-append-drop}
use Rattle.bsi_bits.specs.BitList.{word_count}
use Rattle.bsi_segments.specs.Bitmaps.{bits_of_bitmaps, packed}
use Rattle.bsi_segments.proofs.Chunks.{next_is, long_more, words_more}
use Rattle.bsi_segments.proofs.bitmaps.decode_bitmaps.Goals as goal

pub returns-in_default-clause-none : goal.returns-in_default-clause-none
returns-in_default-clause-none c = λ bits all whole.
    let k = c.maps.counter in
    let rest = c.maps.rest.now in
    let i = c.maps.invariant in
    let long : c.div_ceil-long.result ≡ word_count c.args.n = omega (arith, c.div_ceil-long.ensures) in
    let first : c.in_ok-from_slice.field-0.items ≡ take (word_count c.args.n) rest = c.in_ok-from_slice.ensures.items ∙ c.split_at.ensures.front ∙ ap (λ m. take m rest) long in
    let next = next_is k c.args.count c.args.n (bits_of_bitmaps c.maps.maps.items) bits c.args.words.now rest i.consumed all c.maps-test.true i.words whole in
    c.in_default.ensures.none (get_or bits k []) next.0 (first ∙ next.1)

pub maps-preserved : goal.maps-preserved
maps-preserved c =
    let k = c.maps.counter in
    let rest = c.maps.rest.now in
    let i = c.maps.invariant in
    let made = c.in-Some.ensures.made in
    let first = c.split_at.result.0.now in
    let others = c.split_at.result.1.now in
    let long : c.div_ceil-long.result ≡ word_count c.args.n = omega (arith, c.div_ceil-long.ensures) in
    let parts : rest ≡ first ++ others = sym (take-append-drop c.div_ceil-long.result rest) ∙ (λ j. sym c.split_at.ensures.front j ++ sym c.split_at.ensures.back j) in
    let same : first ≡ packed c.in-Some.map.bits = sym c.in_ok-from_slice.ensures.items ∙ made.1 in
    let left : (c.args.count - k) * word_count c.args.n ≡ (c.args.count - (k + 1)) * word_count c.args.n + word_count c.args.n =
    (let fewer : c.args.count - k ≡ c.args.count - (k + 1) + 1 = omega (arith, c.maps-test.true) in ap (λ m. m * word_count c.args.n) fewer ∙ omega arith) in
    record {
      consumed = long_more k c.args.n c.maps.maps.items c.in-Some.map c.push_reserved.new.self.items c.push_reserved.ensures.items i.consumed made.0;
      words = words_more c.maps.maps.items c.in-Some.map c.push_reserved.new.self.items c.args.words.now rest first others c.push_reserved.ensures.items i.words parts same;
      left = omega (arith, i.left, left, c.split_at.ensures.back_len, long);
      room = omega (arith, c.push_reserved.ensures.capacity, i.room);
    }
