use Rattle.std.proofs.Common.{◌≡◌, ◌<◌, ◌+◌, ◌*◌, ◌&&◌, ℕ, false, length, get_or, map, replicate, sym, ap, ◌∙◌, arith}
use Rattle.std.specs.Prelude.{None, Option, is_some}
use Rattle.bsi_bits.specs.Packed.{bit_of}
use Rattle.bsi_bits.proofs.Reading.{none_set}
use Rattle.bsi_digits.specs.Digits.{product}
use Rattle.bsi_digits.specs.Comparisons.{compares, number_or_zero}
use Rattle.bsi_slices.specs.Decisions.{decides}
use Rattle.bsi_columns.specs.Decomposed.{entries_of}
use Rattle.bsi_columns.proofs.WordSpans.{replicate_bit}
use Rattle.bsi_columns.proofs.Answering.{and_false}
use Rattle.bsi_columns.proofs.ComponentLists.{size_at_least_two}
use Rattle.bsi_columns.proofs.Deciding.{entry_none, entry_all, entry_tested}
use Rattle.bsi_columns.proofs.EntryReads.{all_read, map_read}
use Rattle.bsi_columns.proofs.decomposed.Decomposed.and_compare.Goals as goal

-- no number
pub returns-in-Nothing : goal.returns-in-Nothing
returns-in-Nothing g c =
    let bs = c.self.inside.bases in
    let entries = entries_of bs c.self.inside.not_null.bits (map g.E.Encoding.digits c.self.inside.components.items) in
    let agree : (x : ℕ) → x < product bs → decides c.decide.result x ≡ compares c.args.op x c.args.constant = λ x below. c.decide.ensures.decided x (omega (arith, c.size.ensures.size)) in
    let filled : c.fill.new.self ≡ replicate (length c.args.span.now) 0 = c.fill.ensures.after (λ y same. same) in
    rw (← c.self.view_is)
    (λ (p : ℕ) (below : p < 64 * length c.args.span.now).
    let e : Option ℕ = get_or entries (64 * c.args.at + p) None in
    let small : number_or_zero e < product bs = all_read (λ e. number_or_zero e < product bs) entries (64 * c.args.at + p) (omega (arith, size_at_least_two c.size.ensures.valid)) c.self.invariant.0.below in
    ap (λ ws. bit_of ws p) filled ∙ replicate_bit (length c.args.span.now) 0 false none_set p below
    ∙ sym (and_false (bit_of c.args.span.now p))
    ∙ ap (◌&&◌ (bit_of c.args.span.now p)) (entry_none c.args.op c.args.constant (product bs) c.decide.result agree c.in-Nothing.is e small))

-- each number
pub returns-in-Everything : goal.returns-in-Everything
returns-in-Everything g c =
    let bs = c.self.inside.bases in
    let entries = entries_of bs c.self.inside.not_null.bits (map g.E.Encoding.digits c.self.inside.components.items) in
    let agree : (x : ℕ) → x < product bs → decides c.decide.result x ≡ compares c.args.op x c.args.constant = λ x below. c.decide.ensures.decided x (omega (arith, c.size.ensures.size)) in
    rw (← c.self.view_is)
    (λ (p : ℕ) (below : p < 64 * length c.args.span.now).
    let r = 64 * c.args.at + p in
    let e : Option ℕ = get_or entries r None in
    let small : number_or_zero e < product bs = all_read (λ e. number_or_zero e < product bs) entries r (omega (arith, size_at_least_two c.size.ensures.valid)) c.self.invariant.0.below in
    c.and_assign.ensures.bits p below
    ∙ ap (◌&&◌ (bit_of c.args.span.now p))
    (ap (λ bits. get_or bits r false) c.self.invariant.0.not_null_is ∙ map_read is_some entries r
    ∙ entry_all c.args.op c.args.constant (product bs) c.decide.result agree c.in-Everything.is e small))

-- the numbers that pass a test, or fail it
pub returns-in-Tested : goal.returns-in-Tested
returns-in-Tested g c =
    let bs = c.self.inside.bases in
    let entries = entries_of bs c.self.inside.not_null.bits (map g.E.Encoding.digits c.self.inside.components.items) in
    let test = c.in-Tested.test in
    let agree : (x : ℕ) → x < product bs → decides c.decide.result x ≡ compares c.args.op x c.args.constant = λ x below. c.decide.ensures.decided x (omega (arith, c.size.ensures.size)) in
    let tested = rw (← c.self.view_is) at c.and_test.ensures in
    rw (← c.self.view_is)
    (λ (p : ℕ) (below : p < 64 * length c.args.span.now).
    let e : Option ℕ = get_or entries (64 * c.args.at + p) None in
    let small : number_or_zero e < product bs = all_read (λ e. number_or_zero e < product bs) entries (64 * c.args.at + p) (omega (arith, size_at_least_two c.size.ensures.valid)) c.self.invariant.0.below in
    tested p below
    ∙ ap (◌&&◌ (bit_of c.args.span.now p)) (entry_tested c.args.op c.args.constant (product bs) c.decide.result agree test c.in-Tested.is e small))
