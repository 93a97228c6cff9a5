use Rattle.std.proofs.Common.{◌≡◌, ℕ, ◌/◌, ◌%◌, ◌^◌, true, false, get_or, arith}
use Rattle.std.specs.Prelude.{nat_eq}
use Rattle.std.proofs.lemmas.Bool.Decides.{nat_tests}
use Rattle.bsi_segments.proofs.Packing.{clear_past, none_past}
use Rattle.bsi_segments.proofs.packed.are_clear_past.Goals as goal

is_zero : (n : ℕ) → nat_eq n 0 ≡ true → n ≡ 0
is_zero n on = grind (arith, nat_tests)

not_zero : (n : ℕ) → nat_eq n 0 ≡ false → n ≡ 0 → ⊥
not_zero n off none = grind (arith, nat_tests)

pub returns-clause-clear : goal.returns-clause-clear
returns-clause-clear c = λ on. clear_past c.args.words.now c.args.n c.requires (is_zero (get_or c.args.words.now (c.args.n / 64) 0 / 2 ^ (c.args.n % 64)) on)

pub returns-clause-set : goal.returns-clause-set
returns-clause-set c = λ off all. not_zero (get_or c.args.words.now (c.args.n / 64) 0 / 2 ^ (c.args.n % 64)) off (none_past c.args.words.now c.args.n (λ k. omega (arith, c.type_inv.words k)) all)
