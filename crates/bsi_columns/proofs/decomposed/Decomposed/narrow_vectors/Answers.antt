use Rattle.std.proofs.Common.{◌≡◌, ◌<◌, [], length, map, ap, sym, ◌∙◌, arith, ℕ, subst, get_or}
use Rattle.std.proofs.lemmas.List.{length-map}
use Rattle.bsi_digits.specs.Digits.{product, digit_of}
use Rattle.bsi_digits.specs.Comparisons.{number_or_zero}
use Rattle.bsi_columns.specs.Decomposed.{entries_of}
use Rattle.bsi_columns.proofs.ComponentLists.{read_map}
use Rattle.bsi_columns.proofs.Answering.{low_answers, low_answers_first, low_answers_more, low_answers_all}
use Rattle.bsi_columns.proofs.decomposed.Decomposed.narrow_vectors.Goals as goal

pub loop-i-init : goal.loop-i-init
loop-i-init g c =
    let inside = c.self.inside in
    let items = inside.components.items in
    let bs = inside.bases in
    let decomposes = c.self.invariant.0 in
    let entries = entries_of bs inside.not_null.bits (map g.E.Encoding.digits items) in
    let few : 0 < length items = omega (arith, decomposes.count, length-map items g.E.Encoding.digits) in
    let digits : g.E.Encoding.digits c.index.result.now ≡ map (λ e. digit_of bs (number_or_zero e) 0) entries =
    sym (read_map g.E.Encoding.digits items 0 c.index.result.now [] few c.index.ensures) ∙ decomposes.digits_are 0 (omega arith) in
    let same : length entries ≡ length c.args.scratch.now.bits = rw (← c.self.view_is) at c.requires.scratch in
    rw (← c.self.view_is) (record {
      selection = low_answers_first c.len-count.ensures.valid c.args.test.relation c.args.test.constant entries
          c.digit-lowest.result c.first_into.new.selection.bits (g.E.Encoding.digits c.index.result.now) c.digit-lowest.ensures.digit digits c.first_into.ensures;
      scratch = sym same;
    })

pub narrow_into-requires-clause-scratch : goal.narrow_into-requires-clause-scratch
narrow_into-requires-clause-scratch g c =
    let inside = c.self.inside in
    let items = inside.components.items in
    let bs = inside.bases in
    let decomposes = c.self.invariant.0 in
    let entries = entries_of bs inside.not_null.bits (map g.E.Encoding.digits items) in
    let within : c.loop-i.i < length items = omega (arith, decomposes.count, length-map items g.E.Encoding.digits) in
    let digits : g.E.Encoding.digits c.index-in-loop-i.result.now ≡ map (λ e. digit_of bs (number_or_zero e) c.loop-i.i) entries =
    sym (read_map g.E.Encoding.digits items c.loop-i.i c.index-in-loop-i.result.now [] within c.index-in-loop-i.ensures) ∙ decomposes.digits_are c.loop-i.i (omega arith) in
    let same : length c.loop-i.scratch.bits ≡ length entries = rw (← c.self.view_is) at c.loop-i.invariant.scratch in
    ap length digits ∙ length-map entries (λ e. digit_of bs (number_or_zero e) c.loop-i.i) ∙ sym same

pub narrow_into-requires-clause-same : goal.narrow_into-requires-clause-same
narrow_into-requires-clause-same g c =
    let inside = c.self.inside in
    let items = inside.components.items in
    let bs = inside.bases in
    let decomposes = c.self.invariant.0 in
    let entries = entries_of bs inside.not_null.bits (map g.E.Encoding.digits items) in
    let valid = c.len-count.ensures.valid in
    let within : c.loop-i.i < length items = omega (arith, decomposes.count, length-map items g.E.Encoding.digits) in
    let digits : g.E.Encoding.digits c.index-in-loop-i.result.now ≡ map (λ e. digit_of bs (number_or_zero e) c.loop-i.i) entries =
    sym (read_map g.E.Encoding.digits items c.loop-i.i c.index-in-loop-i.result.now [] within c.index-in-loop-i.ensures) ∙ decomposes.digits_are c.loop-i.i (omega arith) in
    let selection : c.loop-i.selection.bits ≡ low_answers valid c.args.test.relation c.args.test.constant entries c.loop-i.i = rw (← c.self.view_is) at c.loop-i.invariant.selection in
    ap length digits ∙ length-map entries (λ e. digit_of bs (number_or_zero e) c.loop-i.i) ∙ sym (ap length selection ∙ length-map entries _)

pub loop-i-preserved : goal.loop-i-preserved
loop-i-preserved g c =
    let inside = c.self.inside in
    let items = inside.components.items in
    let bs = inside.bases in
    let decomposes = c.self.invariant.0 in
    let entries = entries_of bs inside.not_null.bits (map g.E.Encoding.digits items) in
    let valid = c.len-count.ensures.valid in
    let within : c.loop-i.i < length items = omega (arith, decomposes.count, length-map items g.E.Encoding.digits) in
    let digits : g.E.Encoding.digits c.index-in-loop-i.result.now ≡ map (λ e. digit_of bs (number_or_zero e) c.loop-i.i) entries =
    sym (read_map g.E.Encoding.digits items c.loop-i.i c.index-in-loop-i.result.now [] within c.index-in-loop-i.ensures) ∙ decomposes.digits_are c.loop-i.i (omega arith) in
    let selection : c.loop-i.selection.bits ≡ low_answers valid c.args.test.relation c.args.test.constant entries c.loop-i.i = rw (← c.self.view_is) at c.loop-i.invariant.selection in
    let same : length c.loop-i.scratch.bits ≡ length entries = rw (← c.self.view_is) at c.loop-i.invariant.scratch in
    rw (← c.self.view_is) (record {
      selection = low_answers_more valid c.args.test.relation c.args.test.constant entries c.loop-i.i c.digit-digit.result c.loop-i.selection.bits c.narrow_into.new.selection.bits
          (g.E.Encoding.digits c.index-in-loop-i.result.now) (omega arith) c.digit-digit.ensures.digit digits selection c.narrow_into.ensures.selection;
      scratch = c.narrow_into.ensures.scratch ∙ same;
    })

pub returns : goal.returns
returns g c =
    let inside = c.self.inside in
    let bs = inside.bases in
    let decomposes = c.self.invariant.0 in
    let entries = entries_of bs inside.not_null.bits (map g.E.Encoding.digits inside.components.items) in
    let valid = c.len-count.ensures.valid in
    let selection : c.loop-i.selection.bits ≡ low_answers valid c.args.test.relation c.args.test.constant entries c.loop-i.i = rw (← c.self.view_is) at c.loop-i.invariant.selection in
    let small : c.args.test.constant < product bs = rw (← c.self.view_is) at c.requires.below in
    let all : c.loop-i.i ≡ length bs = omega arith in
    rw (← c.self.view_is)
    (selection ∙ ap (low_answers valid c.args.test.relation c.args.test.constant entries) all
    ∙ low_answers_all valid c.args.test.relation c.args.test.constant entries small decomposes.below)

pub index-requires : goal.index-requires
index-requires g c = omega (arith, c.self.invariant.0.count, length-map c.self.inside.components.items g.E.Encoding.digits)

pub first_into-requires-clause-below : goal.first_into-requires-clause-below
first_into-requires-clause-below g c =
    let inside = c.self.inside in
    let items = inside.components.items in
    let decomposes = c.self.invariant.0 in
    let within : 0 < length items = omega (arith, decomposes.count, length-map items g.E.Encoding.digits) in
    let base : get_or inside.bases 0 0 ≡ g.E.Encoding.base_of c.index.result.now =
    ap (λ bs. get_or bs 0 0) (sym c.self.invariant.1) ∙ read_map g.E.Encoding.base_of items 0 c.index.result.now 0 within c.index.ensures in
    let Below : ℕ → Type 0 = λ b. c.digit-lowest.result < b in
    subst Below base c.digit-lowest.ensures.below

pub first_into-requires-clause-same : goal.first_into-requires-clause-same
first_into-requires-clause-same g c =
    let inside = c.self.inside in
    let items = inside.components.items in
    let bs = inside.bases in
    let decomposes = c.self.invariant.0 in
    let entries = entries_of bs inside.not_null.bits (map g.E.Encoding.digits items) in
    let few : 0 < length items = omega (arith, decomposes.count, length-map items g.E.Encoding.digits) in
    let digits : g.E.Encoding.digits c.index.result.now ≡ map (λ e. digit_of bs (number_or_zero e) 0) entries =
    sym (read_map g.E.Encoding.digits items 0 c.index.result.now [] few c.index.ensures) ∙ decomposes.digits_are 0 (omega arith) in
    let same : length entries ≡ length c.args.selection.now.bits = rw (← c.self.view_is) at c.requires.same in
    ap length digits ∙ length-map entries (λ e. digit_of bs (number_or_zero e) 0) ∙ same

pub index-requires-in-loop-i : goal.index-requires-in-loop-i
index-requires-in-loop-i g c = omega (arith, c.self.invariant.0.count, length-map c.self.inside.components.items g.E.Encoding.digits)

pub narrow_into-requires-clause-below : goal.narrow_into-requires-clause-below
narrow_into-requires-clause-below g c =
    let inside = c.self.inside in
    let items = inside.components.items in
    let decomposes = c.self.invariant.0 in
    let within : c.loop-i.i < length items = omega (arith, decomposes.count, length-map items g.E.Encoding.digits) in
    let base : get_or inside.bases c.loop-i.i 0 ≡ g.E.Encoding.base_of c.index-in-loop-i.result.now =
    ap (λ bs. get_or bs c.loop-i.i 0) (sym c.self.invariant.1) ∙ read_map g.E.Encoding.base_of items c.loop-i.i c.index-in-loop-i.result.now 0 within c.index-in-loop-i.ensures in
    let Below : ℕ → Type 0 = λ b. c.digit-digit.result < b in
    subst Below base c.digit-digit.ensures.below
