use Rattle.std.proofs.Common.{◌≡◌, ◌∷◌, [], ◌++◌, codes, ap, ◌∙◌, rules, arith}
use Rattle.bsi_syntax.specs.Reading.{texts}
use Rattle.bsi_syntax.proofs.Asking.{columns_on, columns_stop, no_further, no_more}
use Rattle.bsi_syntax.proofs.questions.+read_columns.Goals as goal

-- as many as there may be
pub returns-then-len-eq-MAX_GROUP_COLUMNS : goal.returns-then-len-eq-MAX_GROUP_COLUMNS
returns-then-len-eq-MAX_GROUP_COLUMNS g t c =
    let is : c.in-Some.word.now.now ≡ codes "by" = search rules in
    let word : texts c.args.fields.now ≡ codes "by" ∷ texts c.in-Some.rest.now = ap texts c.in-Some.ensures.cases.0 ∙ ap (λ w. w ∷ texts c.in-Some.rest.now) is in
    no_more (g.V.Vocabulary.words c.args.vocabulary.now) c.args.by.now.items (texts c.args.fields.now) (texts c.in-Some.rest.now) word
    (omega (arith, c.len.ensures, c.args.by.now.ok.0, c.if-len-eq-MAX_GROUP_COLUMNS.true))

pub returns-in_err-c : goal.returns-in_err-c
returns-in_err-c g t c =
    let is : c.in-Some.word.now.now ≡ codes "by" = search rules in
    let word : texts c.args.fields.now ≡ codes "by" ∷ texts c.in-Some.rest.now = ap texts c.in-Some.ensures.cases.0 ∙ ap (λ w. w ∷ texts c.in-Some.rest.now) is in
    columns_stop (g.V.Vocabulary.words c.args.vocabulary.now) c.args.by.now.items (texts c.args.fields.now) c.args.by.now.items c.from_residual.result _ c.from_residual.ensures
    (no_further (g.V.Vocabulary.words c.args.vocabulary.now) c.args.by.now.items (texts c.args.fields.now) (texts c.in-Some.rest.now) word c.in_err-c.ensures)

pub returns : goal.returns
returns g t c =
    let is : c.in-Some.word.now.now ≡ codes "by" = search rules in
    let word : texts c.args.fields.now ≡ codes "by" ∷ texts c.in-Some.rest.now = ap texts c.in-Some.ensures.cases.0 ∙ ap (λ w. w ∷ texts c.in-Some.rest.now) is in
    let pushed : c.push.new.self.items ≡ c.args.by.now.items ++ c.in_ok-c.c ∷ [] = search rules in
    columns_on (g.V.Vocabulary.words c.args.vocabulary.now) c.args.by.now.items (texts c.args.fields.now) (texts c.in-Some.rest.now) word c.in_ok-c.c (texts c.in_ok-c.rest.now) c.in_ok-c.ensures
    c.push.new.self.items c.read_columns.new.by.items c.read_columns.result pushed c.read_columns.ensures
