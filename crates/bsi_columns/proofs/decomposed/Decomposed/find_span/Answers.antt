use Rattle.std.proofs.Common.{◌≡◌, ◌<◌, ◌≤◌, ◌+◌, ◌*◌, ◌/◌, ℕ, [], length, map, subst, ap, sym, ◌∙◌, arith}
use Rattle.std.proofs.lemmas.List.{length-map}
use Rattle.bsi_digits.specs.Digits.{product, digit_of}
use Rattle.bsi_digits.specs.Comparisons.{number_or_zero}
use Rattle.bsi_columns.specs.Decomposed.{entries_of}
use Rattle.bsi_columns.proofs.ComponentLists.{read_map}
use Rattle.bsi_columns.proofs.SpanAnswers.{IsNarrowed, narrowed_start, narrowed_more, narrowed_all}
use Rattle.bsi_columns.proofs.decomposed.Decomposed.find_span.Goals as goal

pub loop-i-init : goal.loop-i-init
loop-i-init g c =
    let inside = c.self.inside in
    let entries = entries_of inside.bases inside.not_null.bits (map g.E.Encoding.digits inside.components.items) in
    rw (← c.self.view_is) (narrowed_start c.len-i-end.ensures.valid c.args.test.relation c.args.test.constant entries c.args.at c.args.span.now)

pub narrow_digit-requires-clause-within : goal.narrow_digit-requires-clause-within
narrow_digit-requires-clause-within g c =
    let inside = c.self.inside in
    let items = inside.components.items in
    let bs = inside.bases in
    let decomposes = c.self.invariant.0 in
    let entries = entries_of bs inside.not_null.bits (map g.E.Encoding.digits items) in
    let within : c.loop-i.i < length items = omega (arith, decomposes.count, length-map items g.E.Encoding.digits) in
    let digits : g.E.Encoding.digits c.index.result.now ≡ map (λ e. digit_of bs (number_or_zero e) c.loop-i.i) entries =
    sym (read_map g.E.Encoding.digits items c.loop-i.i c.index.result.now [] within c.index.ensures) ∙ decomposes.digits_are c.loop-i.i (omega arith) in
    let rows : length (g.E.Encoding.digits c.index.result.now) ≡ length entries = ap length digits ∙ length-map entries (λ e. digit_of bs (number_or_zero e) c.loop-i.i) in
    let room : c.args.at + length c.args.span.now ≤ (length entries + 63) / 64 = rw (← c.self.view_is) at c.requires.within in
    omega (arith, rows, room, c.loop-i.auto.span)

pub loop-i-preserved : goal.loop-i-preserved
loop-i-preserved g c =
    let inside = c.self.inside in
    let items = inside.components.items in
    let bs = inside.bases in
    let decomposes = c.self.invariant.0 in
    let entries = entries_of bs inside.not_null.bits (map g.E.Encoding.digits items) in
    let within : c.loop-i.i < length items = omega (arith, decomposes.count, length-map items g.E.Encoding.digits) in
    let digits : g.E.Encoding.digits c.index.result.now ≡ map (λ e. digit_of bs (number_or_zero e) c.loop-i.i) entries =
    sym (read_map g.E.Encoding.digits items c.loop-i.i c.index.result.now [] within c.index.ensures) ∙ decomposes.digits_are c.loop-i.i (omega arith) in
    let before : IsNarrowed bs c.args.test.relation c.args.test.constant entries c.args.at c.loop-i.i c.loop-i.span = rw (← c.self.view_is) at c.loop-i.invariant in
    rw (← c.self.view_is)
    (narrowed_more c.len-i-end.ensures.valid c.args.test.relation c.args.test.constant entries c.args.at c.loop-i.i c.digit-digit.result c.loop-i.span c.narrow_digit.new.span
    (g.E.Encoding.digits c.index.result.now) (omega arith) c.digit-digit.ensures.digit digits c.narrow_digit.auto.span before c.narrow_digit.ensures)

pub returns : goal.returns
returns g c = λ p below row.
    let inside = c.self.inside in
    let bs = inside.bases in
    let entries = entries_of bs inside.not_null.bits (map g.E.Encoding.digits inside.components.items) in
    let narrowed : IsNarrowed bs c.args.test.relation c.args.test.constant entries c.args.at c.loop-i.i c.loop-i.span = rw (← c.self.view_is) at c.loop-i.invariant in
    let small : c.args.test.constant < product bs = rw (← c.self.view_is) at c.requires.below in
    let all : c.loop-i.i ≡ length bs = omega arith in
    let at_end : IsNarrowed bs c.args.test.relation c.args.test.constant entries c.args.at (length bs) c.loop-i.span =
    subst (λ (i : ℕ). IsNarrowed bs c.args.test.relation c.args.test.constant entries c.args.at i c.loop-i.span) all narrowed in
    let in_row : 64 * c.args.at + p < length entries = rw (← c.self.view_is) at row in
    rw (← c.self.view_is)
    (narrowed_all c.len-i-end.ensures.valid c.args.test.relation c.args.test.constant entries c.args.at c.loop-i.span small c.self.invariant.0.below at_end p (omega arith) in_row)
