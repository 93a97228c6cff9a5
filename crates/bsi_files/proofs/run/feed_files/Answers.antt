use denote.Param.Send.{sendable}
use Rattle.std.proofs.Common.{rules}
use Rattle.bsi_files.proofs.run.feed_files.Goals as goal

-- what is ready for the threads
pub scoped-requires : goal.scoped-requires
scoped-requires g c =
    let reader = c.type_bounds.send-I in
    let format = c.type_bounds.send-F in
    record { at = λ a. (c.requires.ready, (search sendable, search sendable, search rules, search rules)) }
