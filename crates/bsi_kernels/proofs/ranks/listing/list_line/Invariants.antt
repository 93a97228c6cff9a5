use Rattle.bsi_kernels.proofs.Listing.{HasGaps}
use Rattle.bsi_kernels.proofs.ranks.listing.list_line.Given as goal

abbrev pub invariant-words : goal.invariant-words
invariant-words l = HasGaps l.k l.listed.indices l.listed.count l.words
