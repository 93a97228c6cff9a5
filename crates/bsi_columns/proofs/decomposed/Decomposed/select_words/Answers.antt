use Rattle.std.proofs.Common.{◌≡◌, ◌-◌, ◌*◌, ◌++◌, ℕ, false, length, get_or, map, arith, ◌≤◌, ◌+◌, ap, ◌∙◌, subst, take}
use Rattle.std.specs.Prelude.{min}
use Rattle.std.proofs.lemmas.List.{length-append, length-take}
use Rattle.bsi_slices.specs.Decisions.{relates}
use Rattle.bsi_columns.specs.DigitTests.{answers}
use Rattle.bsi_bits.specs.BitList.{BitList, word_count}
use Rattle.bsi_columns.specs.Decomposed.{entries_of}
use Rattle.bsi_columns.proofs.EntriesFrom.{rows_of}
use Rattle.bsi_columns.proofs.SpanAnswers.{appended_bits}
use Rattle.bsi_columns.proofs.decomposed.Decomposed.select_words.Goals as goal

pub loop-k-preserved : goal.loop-k-preserved
loop-k-preserved g c =
    let words = c.loop-k.words.items in
    let span = c.select_span.new.span in
    let entries = c.args.self.now.entries in
    let chosen = λ (r : ℕ). get_or (map (answers (λ x. relates c.args.test.relation x c.args.test.constant) c.args.test.expected) entries) r false in
    let after : c.extend_from_slice.new.self.items ≡ words ++ span = c.in_ok-extend_from_slice.ensures.items in
    let size : length span ≡ min 1024 ((length c.words-len.result.now) - 1024 * c.loop-k.k) =
    omega (arith, c.select_span.auto.span, length-take c.min.result c.loop-k.buffer, c.min.array_long, c.min.ensures) in
    let at_start : length words ≡ 1024 * c.loop-k.k = omega (arith, c.loop-k.invariant.long) in
    rw after (record {
      long = omega (arith, length-append words span, size, at_start);
      done = appended_bits chosen (length entries) (1024 * c.loop-k.k) words span at_start c.loop-k.invariant.done
          (λ q below row. c.select_span.ensures q (omega (arith, c.select_span.auto.span)) row);
    })

pub select_span-requires-clause-within : goal.select_span-requires-clause-within
select_span-requires-clause-within g c =
    let inside = c.self.inside in
    let not_null = inside.not_null.bits in
    let ds = map g.E.Encoding.digits inside.components.items in
    let rows : length not_null ≡ length c.args.self.now.entries = rw (← c.self.view_is) (rows_of inside.bases not_null ds (entries_of inside.bases not_null ds) c.self.invariant.0) in
    let count : length c.words-len.result.now ≡ word_count (length c.args.self.now.entries) = c.words-len.ensures.few ∙ ap (λ (b : BitList). word_count (length b.bits)) c.bits.ensures ∙ ap word_count rows in
    let Within : ℕ → Type 0 = λ n. 1024 * c.loop-k.k + length (take c.min.result c.loop-k.buffer) ≤ n in
    let within : Within (length c.words-len.result.now) = omega (arith, length-take c.min.result c.loop-k.buffer, c.min.ensures, c.min.array_long, c.loop-k-test.true, c.div_ceil-k-end.ensures) in
    subst Within count within

-- no span is left
pub returns-clause-few : goal.returns-clause-few
returns-clause-few g c =
    let inside = c.self.inside in
    let not_null = inside.not_null.bits in
    let ds = map g.E.Encoding.digits inside.components.items in
    let rows : length not_null ≡ length c.args.self.now.entries = rw (← c.self.view_is) (rows_of inside.bases not_null ds (entries_of inside.bases not_null ds) c.self.invariant.0) in
    let count : length c.words-len.result.now ≡ word_count (length c.args.self.now.entries) = c.words-len.ensures.few ∙ ap (λ (b : BitList). word_count (length b.bits)) c.bits.ensures ∙ ap word_count rows in
    let all : length c.loop-k.words.items ≡ length c.words-len.result.now = omega (arith, c.loop-k.invariant.long, c.loop-k-test.false, c.div_ceil-k-end.ensures) in
    all ∙ count

pub returns-clause-bits : goal.returns-clause-bits
returns-clause-bits g c =
    let inside = c.self.inside in
    let not_null = inside.not_null.bits in
    let ds = map g.E.Encoding.digits inside.components.items in
    let rows : length not_null ≡ length c.args.self.now.entries = rw (← c.self.view_is) (rows_of inside.bases not_null ds (entries_of inside.bases not_null ds) c.self.invariant.0) in
    let count : length c.words-len.result.now ≡ word_count (length c.args.self.now.entries) = c.words-len.ensures.few ∙ ap (λ (b : BitList). word_count (length b.bits)) c.bits.ensures ∙ ap word_count rows in
    let all : length c.loop-k.words.items ≡ length c.words-len.result.now = omega (arith, c.loop-k.invariant.long, c.loop-k-test.false, c.div_ceil-k-end.ensures) in
    λ p below. c.loop-k.invariant.done p (omega (arith, below, all, count)) below
