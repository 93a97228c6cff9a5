use Rattle.std.proofs.Common.{◌≡◌, ◌≤◌, length}
use Rattle.std.specs.Prelude.{vec_capacity}
use Rattle.bsi_rows.specs.Runs.{past_of, shown_after, AreLawful}
use Rattle.bsi_load.proofs.machine.Core.run.Given as goal

-- as many replies as events were done, each lawful, and the machine shows what they come to
abbrev pub invariant-events : goal.invariant-events
invariant-events l =
    (length l.fn.events.items ≤ vec_capacity l.replies)
    × (length l.replies.items ≡ length l.yielded)
    × AreLawful l.fn.self (past_of l.fn.events.items l.replies.items)
    × (l.self ≡ shown_after l.fn.self (past_of l.fn.events.items l.replies.items))
