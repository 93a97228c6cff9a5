use Rattle.std.proofs.Common.{◌<◌, get_or, length, rules, subst, sym, ◌∙◌}
use Rattle.bsi_storage.specs.ChosenFiles.{IsHeadAt}
use Rattle.bsi_storage.proofs.FileWalk.{zip-at}
use Rattle.bsi_storage.proofs.file_heads.follows.Goals as goal

-- the first head is that of a part of the same table
pub returns : goal.returns
returns c = λ no known t kinds parts p each at.
    (let heads = c.args.heads.now in
    let some : 0 < length heads = search rules in
    let first = c.index-heads-0.result in
    let own : IsHeadAt known t kinds first (get_or parts 0 p) =
    subst (λ x. IsHeadAt known t kinds x (get_or parts 0 p)) (sym c.index-heads-0.is) (zip-at (IsHeadAt known t kinds) heads parts 0 first p each some) in
    c.are_alike.ensures no (own.is.feeders ∙ sym at.is.feeders) (own.is.limit ∙ sym at.is.limit) (own.is.schema ∙ sym at.is.schema) (own.is.kinds_are ∙ sym at.is.kinds_are))
