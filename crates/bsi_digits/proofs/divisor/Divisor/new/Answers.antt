use Rattle.std.proofs.Common.{◌≡◌, ℕ, ◌+◌, ◌-◌, ◌*◌, ◌/◌, ◌%◌, ◌^◌, ◌<◌, ◌≤◌, ◌∙◌, ap, arith}
use Rattle.std.proofs.lemmas.Nat.{one_shl}
use Rattle.bsi_digits.specs.Divisor.{shift_of, reciprocal_of}
use Rattle.bsi_digits.proofs.Reciprocals.{parts_small, reciprocal_small}
use Rattle.bsi_digits.proofs.divisor.Divisor.new.Goals as goal

pub overflow_add-rounded_up : goal.overflow_add-rounded_up
overflow_add-rounded_up c =
    let d : ℕ = c.args.divisor in
    let parts : 1 * 2 ^ (63 + shift_of d) % 2 ^ 128 ≡ 2 ^ (63 + shift_of d) = one_shl (63 + shift_of d) 128 (omega arith) in
    let small : 2 ^ (63 + shift_of d) ≤ 2 ^ 126 = parts_small d c.requires.0 c.requires.1 in
    omega arith

pub overflow_cast-result : goal.overflow_cast-result
overflow_cast-result c =
    let d : ℕ = c.args.divisor in
    let parts : 1 * 2 ^ (63 + shift_of d) % 2 ^ 128 ≡ 2 ^ (63 + shift_of d) = one_shl (63 + shift_of d) 128 (omega arith) in
    let small : reciprocal_of d < 2 ^ 64 = reciprocal_small d c.requires.0 c.requires.1 in
    let same : (1 * 2 ^ (63 + shift_of d) % 2 ^ 128 + c.from.result - 1) / c.from-2.result ≡ reciprocal_of d =
    ap (λ n. (n + c.from.result - 1) / c.from-2.result) parts ∙
    ap (λ n. (2 ^ (63 + shift_of d) + n - 1) / c.from-2.result) c.from.ensures ∙
    ap (λ n. (2 ^ (63 + shift_of d) + d - 1) / n) c.from-2.ensures in
    omega arith
