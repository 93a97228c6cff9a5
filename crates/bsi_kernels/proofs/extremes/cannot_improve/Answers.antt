use Rattle.std.proofs.Common.{◌≡◌, ℕ, ◌+◌, ◌*◌, ◌-◌, ◌≤◌, true, arith}
use Rattle.std.specs.Prelude.{nat_le}
use Rattle.std.proofs.lemmas.Bool.Decides.{nat_tests}
use Rattle.bsi_kernels.proofs.ExtremeSpans.{least_leads, greatest_leads}
use Rattle.bsi_kernels.proofs.extremes.cannot_improve.Goals as goal

at_most : (a b : ℕ) → nat_le a b ≡ true → a ≤ b
at_most a b test = grind (arith, nat_tests, test)

-- the least of them is the number and clear places
pub returns-in-Least-Some-clause-no_worse : goal.returns-in-Least-Some-clause-no_worse
returns-in-Least-Some-clause-no_worse c =
    rw (c.in-Least-Some.is-0, c.in-Least-Some.is-1) (λ test x. least_leads c.in-Least-Some.least c.args.number c.args.weight x (at_most c.in-Least-Some.least (c.args.number * c.args.weight) test))

-- the greatest of them is the number and set places
pub returns-in-Greatest-Some-clause-no_worse : goal.returns-in-Greatest-Some-clause-no_worse
returns-in-Greatest-Some-clause-no_worse c =
    rw (c.in-Greatest-Some.is-0, c.in-Greatest-Some.is-1)
    (λ test x. greatest_leads c.in-Greatest-Some.greatest c.args.number c.args.weight x c.requires.some (at_most (c.args.number * c.args.weight + (c.args.weight - 1)) c.in-Greatest-Some.greatest test))
