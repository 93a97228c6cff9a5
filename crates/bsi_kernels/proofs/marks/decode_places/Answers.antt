use Rattle.bsi_kernels.proofs.Decoding.{spelled_more}
use Rattle.bsi_kernels.proofs.marks.decode_places.Goals as goal

pub words-preserved : goal.words-preserved
words-preserved c =
    spelled_more c.args.first c.args.second c.args.third c.place_or_rest.result c.place_or_rest-in-words.result c.place_or_rest-in-words-2.result c.words.j c.words.words
    c.words-test.true c.place_or_rest.ensures c.place_or_rest-in-words.ensures c.place_or_rest-in-words-2.ensures c.words.invariant
