use Rattle.std.proofs.Common.{◌≡◌, ℕ, ◌+◌, ◌-◌, ◌*◌, ◌/◌, Option, length, get_or, subst, arith}
use Rattle.std.specs.Option.{option_or}
use Rattle.bsi_bits.specs.Packed.{bit_of}
use Rattle.bsi_kernels.specs.Extremes.{IsImprovement}
use Rattle.bsi_kernels.proofs.ExtremeSpans.{better_more}
use Rattle.bsi_kernels.proofs.extremes.extreme_by_places.Goals as goal

-- by whole spans, and by single words behind them
pub returns : goal.returns
returns c = λ numbers encoded below.
    let extreme = c.args.extreme in
    let words = c.args.span.now in
    let whole : ℕ = length words / 16 * 16 in
    let rest : ℕ = length words - whole in
    let Better : (ℕ → ℕ) → (ℕ → ℕ) → ℕ → Option ℕ → Option ℕ → Type 0 = λ row place n best answer. IsImprovement extreme (λ p. bit_of words (row p)) (λ p. get_or numbers (place p) 0) n best answer in
    let parts : 64 * (16 * ((length words - 0) / 16)) ≡ 64 * whole = omega arith in
    let others : 64 * (1 * (rest / 1)) ≡ 64 * rest = omega arith in
    let all : 64 * whole + 64 * rest ≡ 64 * length words = omega arith in
    let row : (p : ℕ) → 64 * 0 + p ≡ p = λ p. omega arith in
    let place : (p : ℕ) → 64 * (c.args.at + 0) + p ≡ 64 * c.args.at + p = λ p. omega arith in
    let behind : (p : ℕ) → 64 * (c.args.at + whole) + p ≡ 64 * c.args.at + (64 * whole + p) = λ p. omega arith in
    let first : Better (λ p. p) (λ p. 64 * c.args.at + p) (64 * whole) c.args.best c.improve_from-first.result =
    subst (λ (n : ℕ). Better (λ p. p) (λ p. 64 * c.args.at + p) n c.args.best c.improve_from-first.result) parts
    (subst (λ (f : ℕ → ℕ). Better (λ p. p) f (64 * (16 * ((length words - 0) / 16))) c.args.best c.improve_from-first.result) (λ j p. place p j)
    (subst (λ (f : ℕ → ℕ). Better f (λ p. 64 * (c.args.at + 0) + p) (64 * (16 * ((length words - 0) / 16))) c.args.best c.improve_from-first.result) (λ j p. row p j)
    (c.improve_from-first.ensures numbers encoded below))) in
    let second : Better (λ p. 64 * whole + p) (λ p. 64 * c.args.at + (64 * whole + p)) (64 * rest) (option_or c.improve_from-first.result c.args.best) c.improve_from.result =
    subst (λ (n : ℕ). Better (λ p. 64 * whole + p) (λ p. 64 * c.args.at + (64 * whole + p)) n (option_or c.improve_from-first.result c.args.best) c.improve_from.result) others
    (subst (λ (f : ℕ → ℕ). Better (λ p. 64 * whole + p) f (64 * (1 * (rest / 1))) (option_or c.improve_from-first.result c.args.best) c.improve_from.result) (λ j p. behind p j)
    (subst (λ (b : Option ℕ). Better (λ p. 64 * whole + p) (λ p. 64 * (c.args.at + whole) + p) (64 * (1 * (rest / 1))) b c.improve_from.result) c.or.ensures (c.improve_from.ensures numbers encoded below))) in
    let more = better_more extreme (bit_of words) (λ p. get_or numbers (64 * c.args.at + p) 0) (64 * whole) (64 * rest) c.args.best c.improve_from-first.result c.improve_from.result first second in
    rw c.or-2.ensures (subst (λ (n : ℕ). Better (λ p. p) (λ p. 64 * c.args.at + p) n c.args.best (option_or c.improve_from.result c.improve_from-first.result)) all more)
