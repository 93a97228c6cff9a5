use Rattle.std.proofs.Common.{arith}
use Rattle.std.proofs.lemmas.Bool.Decides.{nat_tests}
use Rattle.bsi_bits.proofs.Reading.{bits_of-empty, empty_bits_of}
use Rattle.bsi_bits.proofs.bits.Bits.is_empty.Goals as goal

pub returns : goal.returns
returns c = rw (← c.self.view_is) (
  (λ test. bits_of-empty c.self.inside.len c.self.inside.words.items (grind (arith, nat_tests, test))),
  (λ none. let zero_long = empty_bits_of c.self.inside.len c.self.inside.words.items none in grind (arith, nat_tests)),
)
