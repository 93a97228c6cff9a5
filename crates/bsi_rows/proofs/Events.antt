-- A run's events and replies as its past, and what stays of a closed feeder.
use Rattle.std.proofs.Common.{◌≡◌, ℕ, zero, suc, ◌+◌, ◌<◌, ◌≤◌, Bool, true, false, cond, not, List, [], ◌∷◌, ◌++◌, Some, Result, Ok, Err, length, take, get_or, inl, inr, ap, sym, ◌∙◌, refl, subst, arith}
use Rattle.std.specs.Prelude.{slice_get, nat_le, unwrap_or, ◌==◌}
use Rattle.std.proofs.lemmas.Bool.{cases_Bool}
use Rattle.std.proofs.lemmas.Bool.Decides.{nat_tests}
use Rattle.std.proofs.lemmas.List.{append-nil, length-take-le, take_all, take_more}
use Rattle.bsi_schema.specs.Columns.{fits}
use Rattle.bsi_rows.specs.Rows.{Entries}
use Rattle.bsi_rows.specs.declared.event.Event.{Event}
use Rattle.bsi_rows.specs.declared.event.Event.TheVariants.{Submit}
use Rattle.bsi_rows.specs.declared.event.Reply.{Reply}
use Rattle.bsi_rows.specs.declared.event.Reply.TheVariants.{Submitted, Loaded, Closed, Answered}
use Rattle.bsi_rows.specs.declared.event.SubmitRefused.{SubmitRefused}
use Rattle.bsi_rows.specs.declared.event.SubmitRefused.TheVariants as submit
use Rattle.bsi_rows.specs.Shown.{Shown, feeder_at, is_unknown, IsLawful}
use Rattle.bsi_rows.specs.Runs.{Done, accepted, accepted_by, closed, AreLawful, shown_after, done_after, past_of, past_at, IsConserved, StaysClosed}
use Rattle.bsi_rows.proofs.Balance.{conserved, feeder_at-after, count_after}

-- ---- a past grows by the next event and its reply

pub done_after-push : (past : List Done) (events : List Event) (replies : List Reply) (e : Event) (r : Reply) → slice_get events (length replies) ≡ Some e
    → done_after past events (replies ++ r ∷ []) ≡ (e, r) ∷ done_after past events replies
unfolding done_after
done_after-push past [] [] e r next = absurd (grind (arith, next))
done_after-push past [] (reply ∷ replies) e r next = absurd (grind (arith, next))
done_after-push past (event ∷ events) [] e r next = ap (λ o. (unwrap_or o e, r) ∷ past) next
done_after-push past (event ∷ events) (reply ∷ replies) e r next = done_after-push ((event, reply) ∷ past) events replies e r next

-- ---- each first part of a lawful run is lawful

lawful_start : (s : Shown) (past : List Done) (events : List Event) (replies : List Reply) → AreLawful s (done_after past events replies) → AreLawful s past
unfolding done_after AreLawful
lawful_start s past events [] lawful = lawful
lawful_start s past [] (reply ∷ replies) lawful = lawful
lawful_start s past (event ∷ events) (reply ∷ replies) lawful = (lawful_start s ((event, reply) ∷ past) events replies lawful).0

lawful_first : (s : Shown) (past : List Done) (events : List Event) (replies : List Reply) (n : ℕ) → AreLawful s (done_after past events replies) → AreLawful s (done_after past events (take n replies))
unfolding done_after
lawful_first s past events replies zero lawful = lawful_start s past events replies lawful
lawful_first s past events [] (suc n) lawful = lawful
lawful_first s past [] (reply ∷ replies) (suc n) lawful = lawful
lawful_first s past (event ∷ events) (reply ∷ replies) (suc n) lawful = lawful_first s ((event, reply) ∷ past) events replies n lawful

pub lawful_at : (s : Shown) (events : List Event) (replies : List Reply) (n : ℕ) → AreLawful s (past_of events replies) → AreLawful s (past_at events replies n)
lawful_at s events replies n lawful = lawful_first s [] events replies n lawful

pub conserved_at : (s : Shown) (events : List Event) (replies : List Reply) → AreLawful s (past_of events replies) → (n : ℕ) → IsConserved s (past_at events replies n)
conserved_at s events replies lawful n = conserved s (past_at events replies n) (lawful_at s events replies n lawful)

-- ---- a row submitted where its feeder is closed

-- the reply that is owed accepts nothing
refused : (unknown is_closed : Bool) (f : ℕ) (row : Entries) (a b : SubmitRefused) (rest : Result (Unit {0}) SubmitRefused) → (unknown ≡ false → is_closed ≡ true)
    → accepted_by f (Submit f row) (Submitted (cond unknown (Err a) (cond is_closed (Err b) rest))) ≡ []
refused true is_closed f row a b rest shut = refl
refused false true f row a b rest shut = refl
refused false false f row a b rest shut = absurd (grind (arith, shut refl))

nothing_accepted : (s : Shown) (past : List Done) (f : ℕ) (row : Entries) (r : Reply) → IsLawful (shown_after s past) (Submit f row) r → closed s f past ≡ true
    → accepted_by f (Submit f row) r ≡ []
nothing_accepted s past f row (Submitted reply) lawful is_closed =
    let shown = shown_after s past in
    ap (λ a. accepted_by f (Submit f row) (Submitted a)) lawful
    ∙ refused (is_unknown shown f) ((feeder_at shown f).closed) f row (submit.UnknownFeeder row) (submit.Closed row) (cond (not (fits shown.index.schema.columns row)) (Err (submit.Misfit row)) (cond (length (feeder_at shown f).rows == (feeder_at shown f).capacity) (Err (submit.Full row)) (Ok tt))) (λ known.
    let there : f < length s.feeders = let many = count_after s past in grind (arith, nat_tests, known, many) in
    ap (λ w. w.closed) (feeder_at-after s past f there) ∙ is_closed)
nothing_accepted s past f row (Loaded reply) lawful is_closed = refl
nothing_accepted s past f row (Closed reply) lawful is_closed = refl
nothing_accepted s past f row (Answered reply) lawful is_closed = refl

nothing_more : (s : Shown) (past : List Done) (f : ℕ) (e : Event) (r : Reply) → accepted_by f e r ≡ [] → accepted s f ((e, r) ∷ past) ≡ accepted s f past
unfolding accepted
nothing_more s past f e r none = ap (λ more. accepted s f past ++ more) none ∙ append-nil (accepted s f past)

last_lawful : (s : Shown) (past : List Done) (e : Event) (r : Reply) → AreLawful s ((e, r) ∷ past) → IsLawful (shown_after s past) e r
unfolding AreLawful
last_lawful s past e r lawful = lawful.1

no_reply : Reply
no_reply = Submitted (Ok tt)

pub stays_closed : (s : Shown) (events : List Event) (replies : List Reply) → AreLawful s (past_of events replies) → StaysClosed s events replies
stays_closed s events replies lawful f n row submits is_closed = elim (cases_Bool (nat_le (length replies) n)) [
  | inl done ↦
      let past_it : length replies ≤ n = grind (arith, nat_tests, done) in
      ap (λ given. accepted s f (past_of events given)) (take_all (n + 1) replies (omega (arith, past_it)) ∙ sym (take_all n replies past_it))
  | inr more ↦
      let within : n < length replies = grind (arith, nat_tests, more) in
      let r = get_or replies n no_reply in
      let before = take n replies in
      let next : slice_get events (length before) ≡ Some (Submit f row) = ap (slice_get events) (length-take-le n replies (omega (arith, within))) ∙ submits in
      let pushed = ap (past_of events) (take_more replies n no_reply within) ∙ done_after-push [] events before (Submit f row) r next in
      let is = last_lawful s (past_at events replies n) (Submit f row) r (subst (AreLawful s) pushed (lawful_at s events replies (n + 1) lawful)) in
      ap (accepted s f) pushed ∙ nothing_more s (past_at events replies n) f (Submit f row) r (nothing_accepted s (past_at events replies n) f row r is is_closed)
]

-- ---- lawful runs grow from nothing

pub none_lawful : (s : Shown) → AreLawful s []
unfolding AreLawful
none_lawful s = tt

pub more_lawful : (s : Shown) (past : List Done) (e : Event) (r : Reply) → AreLawful s past → IsLawful (shown_after s past) e r → AreLawful s ((e, r) ∷ past)
unfolding AreLawful
more_lawful s past e r before next = (before, next)

pub past_none : (events : List Event) → past_of events [] ≡ []
unfolding done_after
past_none events = refl
