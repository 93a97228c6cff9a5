use Rattle.std.proofs.Common.{◌≡◌, ℕ, List, reverse, replicate, IfOk, None, ap, subst, ◌∙◌, arith, rules}
use Rattle.bsi_digits.specs.Refusal.{refusal}
use Rattle.bsi_digits.proofs.Twos.{refusal-twos, reverse-replicate}
use Rattle.bsi_digits.proofs.bases.Bases.twos.Goals as goal

-- these many bases of 2 are in range, so only memory can be wanting
pub returns-in_err-vec-clause-refused : goal.returns-in_err-vec-clause-refused
returns-in_err-vec-clause-refused c =
    let none : refusal (replicate c.args.w 2) ≡ None = refusal-twos c.args.w (omega arith) (omega arith) in
    rw none (search rules)

pub returns-clause-ok : goal.returns-clause-ok
returns-clause-ok c =
    let items = c.in_ok-vec.ensures.items_if_clones_equal (λ y same. same) in
    subst (λ (xs : List ℕ). IfOk c.new.result (λ b. b ≡ xs)) (ap (λ (xs : List ℕ). reverse xs) items ∙ reverse-replicate c.args.w 2) c.new.ensures.ok
