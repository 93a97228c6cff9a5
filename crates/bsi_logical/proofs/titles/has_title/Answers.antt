use Rattle.std.proofs.Common.{◌≡◌, ◌++◌, List, ℕ, [], ap, sym, subst, get_or, MatchOption, Option, Bor, ◌∙◌}
use Rattle.std.specs.Prelude.{◌≢◌}
use Rattle.std.specs.Str.{bytes_eq}
use Rattle.std.proofs.lemmas.Bool.Decides.{Decides-eqb}
use Rattle.std.proofs.lemmas.Slice.Eq.{strip_prefix_is}
use Rattle.csv.specs.Records.{fields_of}
use Rattle.bsi_logical.specs.HeaderTitles.{number_in, number_mark}
use Rattle.bsi_logical.proofs.Titling.{get_or-titles_of, not_begun, same_behind}
use Rattle.bsi_logical.proofs.titles.has_title.Goals as goal

-- the title is the field and what stands behind it
pub returns-in-Some : goal.returns-in-Some
returns-in-Some c =
    let header = fields_of c.args.header.now in
    let title = c.args.title.now in
    let text = get_or header c.args.index [] in
    let stripped = strip_prefix_is Decides-eqb title c.field.result.now c.strip_prefix.result c.strip_prefix.ensures.cases in
    let begins : title ≡ c.field.result.now ++ c.in-Some.rest.now =
    subst (λ (o : Option (Bor (List ℕ))). MatchOption o ((rest : List ℕ) → title ≢ c.field.result.now ++ rest) (λ x. title ≡ c.field.result.now ++ x.now)) c.in-Some.is stripped in
    let whole : title ≡ text ++ c.in-Some.rest.now = begins ∙ ap (λ (t : List ℕ). t ++ c.in-Some.rest.now) c.field.ensures.value in
    c.is_mark.ensures
    ∙ ap (λ (n : ℕ). bytes_eq (number_mark n) c.in-Some.rest.now) c.number_in.ensures
    ∙ same_behind text (number_mark (number_in header c.args.index)) c.in-Some.rest.now title whole
    ∙ ap (λ (t : List ℕ). bytes_eq t title) (sym (get_or-titles_of header c.args.index c.requires))

-- the title does not begin with the field
pub returns-in-None : goal.returns-in-None
returns-in-None c =
    let header = fields_of c.args.header.now in
    let title = c.args.title.now in
    let text = get_or header c.args.index [] in
    let stripped = strip_prefix_is Decides-eqb title c.field.result.now c.strip_prefix.result c.strip_prefix.ensures.cases in
    let never : (rest : List ℕ) → title ≢ c.field.result.now ++ rest =
    subst (λ (o : Option (Bor (List ℕ))). MatchOption o ((rest : List ℕ) → title ≢ c.field.result.now ++ rest) (λ x. title ≡ c.field.result.now ++ x.now)) c.in-None.is stripped in
    not_begun text (number_mark (number_in header c.args.index)) title
    (λ rest is. never rest (is ∙ ap (λ (t : List ℕ). t ++ rest) (sym c.field.ensures.value)))
    ∙ ap (λ (t : List ℕ). bytes_eq t title) (sym (get_or-titles_of header c.args.index c.requires))
