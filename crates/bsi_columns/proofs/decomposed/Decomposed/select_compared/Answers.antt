use Rattle.std.proofs.Common.{◌≡◌, ◌<◌, ℕ, false, replicate, map, ap, ◌∙◌, arith}
use Rattle.bsi_bits.specs.BitList.{BitList}
use Rattle.bsi_digits.specs.Digits.{product}
use Rattle.bsi_digits.specs.Comparisons.{compares, selects}
use Rattle.bsi_slices.specs.Decisions.{decides, relates}
use Rattle.bsi_columns.specs.DigitTests.{answers}
use Rattle.bsi_columns.specs.Decomposed.{entries_of}
use Rattle.bsi_columns.proofs.EntriesFrom.{rows_of}
use Rattle.bsi_columns.proofs.Answering.{IfOk-same_bits}
use Rattle.bsi_columns.proofs.Deciding.{rows_none, rows_all, rows_tested}
use Rattle.bsi_columns.proofs.decomposed.Decomposed.select_compared.Goals as goal

-- no number
pub returns-in-Nothing : goal.returns-in-Nothing
returns-in-Nothing g c =
    let bs = c.self.inside.bases in
    let not_null = c.self.inside.not_null.bits in
    let ds = map g.E.Encoding.digits c.self.inside.components.items in
    let entries = entries_of bs not_null ds in
    let agree : (x : ℕ) → x < product bs → decides c.decide.result x ≡ compares c.args.op x c.args.constant = λ x below. c.decide.ensures.decided x (omega (arith, c.size.ensures.size)) in
    rw (← c.self.view_is)
    (IfOk-same_bits c.filled.result (λ (b : BitList). b.bits) (replicate c.len.result false) (map (selects c.args.op c.args.constant) entries)
    (ap (λ n. replicate n false) (c.len.ensures.len ∙ rows_of bs not_null ds entries c.self.invariant.0)
    ∙ rows_none c.args.op c.args.constant (product bs) c.decide.result agree c.in-Nothing.is entries c.self.invariant.0.below)
    c.filled.ensures)

-- each number
pub returns-in-Everything : goal.returns-in-Everything
returns-in-Everything g c =
    let bs = c.self.inside.bases in
    let not_null = c.self.inside.not_null.bits in
    let ds = map g.E.Encoding.digits c.self.inside.components.items in
    let entries = entries_of bs not_null ds in
    let agree : (x : ℕ) → x < product bs → decides c.decide.result x ≡ compares c.args.op x c.args.constant = λ x below. c.decide.ensures.decided x (omega (arith, c.size.ensures.size)) in
    rw (← c.self.view_is)
    (IfOk-same_bits c.copy.result (λ (b : BitList). b.bits) c.bits.result.now.bits (map (selects c.args.op c.args.constant) entries)
    (ap (λ b. b.bits) c.bits.ensures ∙ c.self.invariant.0.not_null_is ∙ rows_all c.args.op c.args.constant (product bs) c.decide.result agree c.in-Everything.is entries c.self.invariant.0.below)
    c.copy.ensures)

-- the numbers that pass a test, or fail it
pub returns-in-Tested : goal.returns-in-Tested
returns-in-Tested g c =
    let bs = c.self.inside.bases in
    let entries = entries_of bs c.self.inside.not_null.bits (map g.E.Encoding.digits c.self.inside.components.items) in
    let test = c.in-Tested.test in
    let agree : (x : ℕ) → x < product bs → decides c.decide.result x ≡ compares c.args.op x c.args.constant = λ x below. c.decide.ensures.decided x (omega (arith, c.size.ensures.size)) in
    let tested = rw (← c.self.view_is) at c.select.ensures in
    rw (← c.self.view_is)
    (IfOk-same_bits c.select.result (λ (b : BitList). b.bits) (map (answers (λ x. relates test.relation x test.constant) test.expected) entries) (map (selects c.args.op c.args.constant) entries)
    (rows_tested c.args.op c.args.constant (product bs) c.decide.result agree test c.in-Tested.is entries c.self.invariant.0.below)
    tested)
