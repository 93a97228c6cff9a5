use Rattle.std.proofs.Common.{inl, inr, subst, sym}
use Rattle.bsi_answers.proofs.Passing.{if_err, on_ok}
use Rattle.bsi_store.specs.Asked.{LeavesNamed}
use Rattle.bsi_store.proofs.ask.ask_input.Goals as goal

pub returns-in-Some-clause-asked : goal.returns-in-Some-clause-asked
returns-in-Some-clause-asked g c = on_ok c.ask_named.result (λ asked. inr (c.in-Some.ensures.all, asked)) c.ask_named.ensures.asked

pub returns-in-Some-clause-prefix : goal.returns-in-Some-clause-prefix
returns-in-Some-clause-prefix g c =
    let before = g.O.Write.contents c.args.output.now in
    let after = g.O.Write.contents c.ask_named.new.output in
    if_err c.ask_named.result
    (λ fault left. inr (subst (λ b. LeavesNamed g.S.Read.remaining b (g.I.Read.remaining c.args.asks) before after fault) (sym c.in-Some.ensures.all) left)) c.ask_named.ensures.prefix

pub returns-clause-asked : goal.returns-clause-asked
returns-clause-asked g c = on_ok c.ask_whole.result (λ asked. inl asked) c.ask_whole.ensures.asked

pub returns-clause-prefix : goal.returns-clause-prefix
returns-clause-prefix g c = if_err c.ask_whole.result (λ fault left. inl left) c.ask_whole.ensures.prefix
