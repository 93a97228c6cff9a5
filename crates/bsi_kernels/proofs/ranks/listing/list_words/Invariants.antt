use Rattle.std.proofs.Common.{◌-◌, ◌≤◌, length}
use Rattle.bsi_kernels.specs.Listing.{AreListed}
use Rattle.bsi_kernels.proofs.ranks.listing.list_words.Given as goal

abbrev pub invariant-lines : goal.invariant-lines
invariant-lines l = record {
  within : l.at ≤ length l.words;
  listed : AreListed l.at l.listed.indices l.listed.count l.words;
}

abbrev pub decreases-lines : goal.decreases-lines
decreases-lines l = length l.words - l.at
