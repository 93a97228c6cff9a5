use Rattle.bsi_slices.proofs.Turning.{low_1, low_2, low_4, low_8, low_16, low_32, turned_by_six}
use Rattle.bsi_slices.proofs.transposing.transpose.Goals as goal

pub exchange-requires-clause-low : goal.exchange-requires-clause-low
exchange-requires-clause-low c = low_32

pub exchange-requires-2-clause-low : goal.exchange-requires-2-clause-low
exchange-requires-2-clause-low c = low_16

pub exchange-requires-3-clause-low : goal.exchange-requires-3-clause-low
exchange-requires-3-clause-low c = low_8

pub exchange-requires-4-clause-low : goal.exchange-requires-4-clause-low
exchange-requires-4-clause-low c = low_4

pub exchange-requires-5-clause-low : goal.exchange-requires-5-clause-low
exchange-requires-5-clause-low c = low_2

pub exchange-requires-6-clause-low : goal.exchange-requires-6-clause-low
exchange-requires-6-clause-low c = low_1

pub returns-clause-transposed : goal.returns-clause-transposed
returns-clause-transposed c =
    turned_by_six c.args.words.now c.exchange.new.words c.exchange-2.new.words c.exchange-3.new.words c.exchange-4.new.words c.exchange-5.new.words c.exchange-6.new.words
    c.exchange.ensures.exchanged c.exchange-2.ensures.exchanged c.exchange-3.ensures.exchanged c.exchange-4.ensures.exchanged c.exchange-5.ensures.exchanged c.exchange-6.ensures.exchanged
