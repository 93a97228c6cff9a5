use Rattle.std.proofs.Common.{◌≡◌, ℕ, List, false, length, arith, rules, subst, sym, ap, ◌∙◌}
use Rattle.std.specs.Prelude.{nat_eq}
use Rattle.bsi_origins.specs.Origins.{HasOtherFeeder}
use Rattle.bsi_storage.proofs.Cutting.{if_ok_none, length-bytes, no_feeders, several}
use Rattle.bsi_storage.proofs.decoding.decode_origins.Goals as goal

-- there are other words than so many rows have
pub returns-then-words-div_ceil-clause-none : goal.returns-then-words-div_ceil-clause-none
returns-then-words-div_ceil-clause-none c = λ row_feeders all many is.
    (let apart : nat_eq c.args.feeders 1 ≡ false = search rules in
    omega (arith, c.if-words-div_ceil.true, c.div_ceil.ensures, ap (λ (ws : List ℕ). length ws) (is ∙ several c.args.feeders row_feeders apart), length-bytes row_feeders, many))

-- or one of the bytes is no feeder
pub returns-in-Some-clause-none : goal.returns-in-Some-clause-none
returns-in-Some-clause-none c =
    let made = rw c.in-Some.is at c.in_ok-row_feeders.ensures.made in
    let fits = rw c.in-Some.is at c.in_ok-row_feeders.ensures.fits in
    let apart : nat_eq c.args.feeders 1 ≡ false = search rules in
    if_ok_none c.from_feeders-in-Some.result
    (λ other row_feeders all many is.
    no_feeders c.args.feeders c.in-Some.row_feeders.items row_feeders c.args.words.now c.requires.feeders.1 fits (made.0 ∙ sym many) made.1 all
    (is ∙ several c.args.feeders row_feeders apart) (subst (HasOtherFeeder c.args.feeders) c.deref-in-Some.ensures.value other))
    c.from_feeders-in-Some.ensures.none
