-- What is left of answers where columns could not be read.
use Rattle.std.proofs.Common.{inr, refl}
use Rattle.std.specs.Prelude.{false}
use Rattle.bsi_answers.specs.declared.faults.FilesFault.TheVariants.{NoMemory}
use Rattle.bsi_store.specs.Asked.{HasAskedFirst, LeavesNamed}
use Rattle.bsi_store.specs.declared.fault.StoreFault.{StoreFault}
use Rattle.bsi_store.specs.declared.fault.StoreFault.TheVariants.{BadRecords, CannotOpen, CannotWrite, Run, Unusable}
use Rattle.bsi_syntax.specs.Bytes.{KnownBytes}

-- whatever is found to be wrong with the file
pub columns_left : {S : Type 0} (rem : S → KnownBytes) (asks before after : KnownBytes) → HasAskedFirst rem asks NoMemory before after → (fault : StoreFault)
    → LeavesNamed rem false asks before after fault
columns_left rem asks before after first (Run fault) = (refl, inr first)
columns_left rem asks before after first (CannotOpen path) = (refl, first)
columns_left rem asks before after first (CannotWrite path why) = (refl, first)
columns_left rem asks before after first (Unusable path why) = (refl, first)
columns_left rem asks before after first (BadRecords bad) = (refl, first)
