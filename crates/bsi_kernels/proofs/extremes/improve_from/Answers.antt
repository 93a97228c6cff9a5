use Rattle.std.proofs.Common.{◌≡◌, ℕ, ◌+◌, ◌-◌, ◌*◌, ◌/◌, Bool, Option, length, get_or, sym, ◌∙◌, ap, subst, arith}
use Rattle.std.specs.Simd.Lanes.{chunk}
use Rattle.std.specs.Option.{option_or}
use Rattle.bsi_bits.specs.Packed.{bit_of}
use Rattle.bsi_kernels.specs.Extremes.{IsImprovement}
use Rattle.bsi_kernels.proofs.ExtremeSpans.{better_more, better_none, better_same}
use Rattle.bsi_kernels.proofs.WordSpans.{bit_of-chunk}
use Rattle.bsi_kernels.proofs.extremes.improve_from.Goals as goal

pub spans-init : goal.spans-init
spans-init g c = λ numbers encoded below.
    better_none c.args.extreme (λ p. bit_of c.args.words.now (64 * c.args.from + p)) (λ p. get_or numbers (64 * (c.args.start + c.args.from) + p) 0) (64 * (g.row.N * 0)) c.args.best (omega arith)

-- one span more
pub spans-preserved : goal.spans-preserved
spans-preserved g c = λ numbers encoded below.
    let words = c.args.words.now in
    let extreme = c.args.extreme in
    let n : ℕ = 64 * (g.row.N * c.spans.k) in
    let m : ℕ = 64 * g.row.N in
    let at : ℕ = c.args.from + g.row.N * c.spans.k in
    let rows : ℕ → Bool = λ p. bit_of words (64 * c.args.from + p) in
    let number : ℕ → ℕ = λ p. get_or numbers (64 * (c.args.start + c.args.from) + p) 0 in
    let row : (p : ℕ) → 64 * c.args.from + (n + p) ≡ 64 * at + p = λ p. omega arith in
    let place : (p : ℕ) → 64 * (c.args.start + at) + p ≡ 64 * (c.args.start + c.args.from) + (n + p) = λ p. omega arith in
    let here = subst (λ (f : ℕ → ℕ). IsImprovement extreme (bit_of (chunk at g.row.N words)) f m c.or.result c.improve_by_places.result) (λ j p. get_or numbers (place p j) 0)
    (c.improve_by_places.ensures numbers encoded below) in
    let later = better_same extreme (bit_of (chunk at g.row.N words)) (λ p. rows (n + p)) (λ p. number (n + p)) m (option_or c.spans.better c.args.best) c.improve_by_places.result
    (λ p within. ap (bit_of words) (row p) ∙ sym (bit_of-chunk at g.row.N words p within))
    (subst (λ (b : Option ℕ). IsImprovement extreme (bit_of (chunk at g.row.N words)) (λ p. number (n + p)) m b c.improve_by_places.result) c.or.ensures here) in
    let more = better_more extreme rows number n m c.args.best c.spans.better c.improve_by_places.result (c.spans.invariant numbers encoded below) later in
    let next : n + m ≡ 64 * (g.row.N * (c.spans.k + 1)) = omega arith in
    rw c.or-better.ensures (subst (λ (n : ℕ). IsImprovement extreme rows number n c.args.best (option_or c.improve_by_places.result c.spans.better)) next more)

-- all spans are passed
pub returns : goal.returns
returns g c = λ numbers encoded below.
    let all : c.spans.k ≡ (length c.args.words.now - c.args.from) / g.row.N = omega (arith, c.spans-test.false, c.spans.auto.k-end) in
    subst (λ (k : ℕ). IsImprovement c.args.extreme (λ p. bit_of c.args.words.now (64 * c.args.from + p)) (λ p. get_or numbers (64 * (c.args.start + c.args.from) + p) 0) (64 * (g.row.N * k)) c.args.best c.spans.better)
    all (c.spans.invariant numbers encoded below)
