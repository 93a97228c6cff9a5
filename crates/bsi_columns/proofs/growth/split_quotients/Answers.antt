use Rattle.std.proofs.Common.{◌≡◌, ◌-◌, ◌*◌, ◌%◌, ◌^◌, ℕ, bit_and, get_or, ap, ◌∙◌, arith, rules}
use Rattle.std.proofs.lemmas.Nat.{and_mask, one_shl}
use Rattle.bsi_columns.proofs.growth.split_quotients.Goals as goal

pub loop-r-preserved : goal.loop-r-preserved
loop-r-preserved c =
    let all = c.loop-r.invariant in
    let at = c.loop-r.r in
    let places = c.args.places in
    let rest : ℕ = get_or c.loop-r.quotients at 0 in
    let low : bit_and rest (1 * 2 ^ places % 2 ^ 64 - 1) ≡ get_or c.args.quotients.now at 0 % 2 ^ places =
    ap (λ p. bit_and rest (p - 1)) (one_shl places 64 (omega (arith, c.requires.places))) ∙ and_mask rest places ∙ ap (λ q. q % 2 ^ places) (all.left at (omega arith)) in
    record {
      long = search rules;
      ample = search rules;
      digits = search (rules, low);
      quotients = search rules;
      left = search rules;
    }
