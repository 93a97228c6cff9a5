use Rattle.std.proofs.Common.{List, Vec, Global, Option, ℕ, ap, sym, ◌∙◌}
use Rattle.std.specs.List.{list_any}
use Rattle.std.specs.Str.{bytes_eq}
use Rattle.bsi_survey.specs.Choices.{is_wanted, wanted_titles}
use Rattle.bsi_survey.proofs.ChosenIndexes.{any-seen}
use Rattle.bsi_survey.proofs.choosing.is_wanted.Goals as goal

pub returns-in-Some : goal.returns-in-Some
returns-in-Some c =
    c.has_text.ensures ∙ ap (list_any (λ (t : Vec ℕ Global). bytes_eq t.items c.args.title.now)) c.deref.ensures.value
    ∙ any-seen (λ (t : Vec ℕ Global). t.items) (λ (t : List ℕ). bytes_eq t c.args.title.now) c.in-Some.titles.items
    ∙ ap (λ (o : Option (Vec (Vec ℕ Global) Global)). is_wanted (wanted_titles o) c.args.title.now) (sym c.in-Some.is)
