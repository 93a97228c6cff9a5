use Rattle.std.proofs.Common.{◌≡◌, true, rules}
use Rattle.std.proofs.lemmas.Slice.Eq.{bytes_eq-Decides}
use Rattle.std.specs.Str.{bytes_eq}
use Rattle.bsi_logical.specs.Logical.{title_of}
use Rattle.bsi_survey.proofs.Saying.{title_done, title_was}
use Rattle.bsi_survey.proofs.making.set_title.Goals as goal

pub returns-then-eq : goal.returns-then-eq
returns-then-eq c =
    let l = c.args.logical.now in
    let same : bytes_eq (title_of l c.args.c) c.args.title.now ≡ true = search (rules, c.title.ensures, c.eq.ensures, c.if-eq.true) in
    title_was l c.args.c c.args.title.now ((bytes_eq-Decides (title_of l c.args.c) c.args.title.now).0 same)

pub returns : goal.returns
returns c = title_done c.args.logical.now c.set_title.new.self c.args.c c.args.title.now c.set_title.result c.set_title.ensures
