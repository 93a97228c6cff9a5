use Rattle.std.proofs.Common.{subst}
use Rattle.bsi_kinds.specs.Dictionaries.{AreRising}
use Rattle.bsi_inference.proofs.Inserting.{on_ok, rising}
use Rattle.bsi_inference.proofs.text_set.TextSet.into_texts.Goals as goal

pub returns-clause-rising : goal.returns-clause-rising
returns-clause-rising c =
    on_ok c.collect.result (AreRising c.args.self)
    (subst AreRising c.self.view_is (rising (λ t. t.items) c.self.inside.texts.keys c.into_iter.ensures.into_iter_gives.4))
