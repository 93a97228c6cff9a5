use Rattle.std.proofs.Common.{List, ap, arith, length, subst}
use Rattle.std.proofs.lemmas.Bool.Decides.{nat_tests}
use mathlib.Core.List.{IsPrefix}
use Rattle.bsi_snapshots.specs.History.{RowList}
use Rattle.bsi_snapshots.proofs.Growing.{once-meet}
use Rattle.bsi_snapshots.proofs.history.VersionToken.follows.Goals as goal

pub returns-clause-later : goal.returns-clause-later
returns-clause-later c = λ test.
    let mine = c.self.inside.seen.log in
    let both = c.learn.new.self.log in
    let begins : IsPrefix mine both = subst (λ (l : List RowList). IsPrefix l both) (ap (λ s. s.log) c.again-both.ensures) c.learn.ensures.2 in
    once-meet c.other.inside.seen.log mine both c.args.other.now.list c.args.self.now.list (ap (λ k. k.list) c.other.view_is) (ap (λ k. k.list) c.self.view_is) c.learn.ensures.3 begins c.learn.ensures.4.1.growing
    (grind (arith, nat_tests, test, c.self.invariant, c.other.invariant, ap (λ k. length k.list) c.self.view_is, ap (λ k. length k.list) c.other.view_is))

pub returns-clause-earlier : goal.returns-clause-earlier
returns-clause-earlier c = λ test.
    let mine = c.self.inside.seen.log in
    let both = c.learn.new.self.log in
    let begins : IsPrefix mine both = subst (λ (l : List RowList). IsPrefix l both) (ap (λ s. s.log) c.again-both.ensures) c.learn.ensures.2 in
    once-meet mine c.other.inside.seen.log both c.args.self.now.list c.args.other.now.list (ap (λ k. k.list) c.self.view_is) (ap (λ k. k.list) c.other.view_is) begins c.learn.ensures.3 c.learn.ensures.4.1.growing
    (grind (arith, nat_tests, test, c.self.invariant, c.other.invariant, ap (λ k. length k.list) c.self.view_is, ap (λ k. length k.list) c.other.view_is))

pub returns-clause-shorter : goal.returns-clause-shorter
returns-clause-shorter c = λ test.
    grind (arith, nat_tests, test, c.self.invariant, c.other.invariant, ap (λ k. length k.list) c.self.view_is, ap (λ k. length k.list) c.other.view_is)
