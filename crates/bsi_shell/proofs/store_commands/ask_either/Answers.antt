use Rattle.std.proofs.Common.{◌≡◌, ℕ, List, Option, inl, inr, subst, sym}
use Rattle.std.specs.Borrow.{Bor}
use Rattle.std.specs.Prelude.{◌⊎◌, IfSome}
use Rattle.bsi_answers.proofs.Passing.{on_ok}
use Rattle.bsi_shell.proofs.Flushing.{all_three, names_more}
use Rattle.bsi_shell.proofs.store_commands.ask_either.Goals as goal

pub returns-in-Some-clause-asked : goal.returns-in-Some-clause-asked
returns-in-Some-clause-asked g c = on_ok c.ask_over.result inl c.ask_over.ensures.asked

pub returns-in-None-clause-asked : goal.returns-in-None-clause-asked
returns-in-None-clause-asked g c = on_ok c.ask_input.result inr c.ask_input.ensures.asked

pub returns-in-Some-clause-fault : goal.returns-in-Some-clause-fault
returns-in-Some-clause-fault g c =
    all_three c.ask_over.result (λ fault named met partial. record {
      named = names_more fault (λ path is. of_either path is) named;
      met = met;
      partial = elim partial [ inl same ↦ inl same | inr out ↦ inr (inl out) ];
    }) c.ask_over.ensures.named c.ask_over.ensures.fault c.ask_over.ensures.prefix
  where
    of_either : (path : Bor (List ℕ)) → (path ≡ c.args.paths.now.index) ⊎ (path ≡ c.in-Some.asks)
        → (path ≡ c.args.paths.now.index) ⊎ IfSome c.args.paths.now.asks (λ asks. path ≡ asks)
    of_either path (inl keeps) = inl keeps
    of_either path (inr asks) = inr (subst (λ (o : Option (Bor (List ℕ))). IfSome o (λ a. path ≡ a)) (sym c.in-Some.is) asks)

pub returns-in-None-clause-fault : goal.returns-in-None-clause-fault
returns-in-None-clause-fault g c =
    all_three c.ask_input.result (λ fault named met partial. record {
      named = names_more fault (λ path is. inl is) named;
      met = met;
      partial = inr (inr partial);
    }) c.ask_input.ensures.named c.ask_input.ensures.fault c.ask_input.ensures.prefix
