use Rattle.std.proofs.lemmas.Option.{IfSome_then}
use Rattle.bsi_kernels.proofs.Listing.{narrowed_listed}
use Rattle.bsi_kernels.proofs.ranks.narrow_words.Goals as goal

pub returns-in-Some-clause-listed : goal.returns-in-Some-clause-listed
returns-in-Some-clause-listed c =
    rw c.narrow_listed.ensures.chosen
    (IfSome_then c.args.listed.now c.requires.listed (λ l listed. narrowed_listed c.args.is_set c.args.chosen.now c.args.words.now c.requires.same l.indices l.count listed))
