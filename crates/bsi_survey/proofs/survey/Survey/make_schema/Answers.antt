use Rattle.std.proofs.Common.{◌≡◌, ℕ, List, Vec, Global, arith, map, subst}
use Rattle.std.proofs.lemmas.List.{length-map}
use Rattle.bsi_logical.specs.HeaderTitles.{titles_of}
use Rattle.bsi_survey.specs.Titles.{AreDistinct, IsFirstRepeated}
use Rattle.bsi_survey.proofs.Seeing.{fits_all}
use Rattle.bsi_survey.proofs.Distinct.{first_only, none_repeated}
use Rattle.bsi_survey.proofs.survey.Survey.make_schema.Goals as goal

-- no two of the titles that were lent are the same
pub make_titled-requires-clause-distinct : goal.make_titled-requires-clause-distinct
make_titled-requires-clause-distinct c =
    let seen : Vec ℕ Global → List ℕ = λ title. title.items in
    subst AreDistinct c.args.self.titled (subst (λ (fs : List (Vec ℕ Global)). AreDistinct (map seen fs)) c.deref.ensures.value c.in-None.ensures.none)

pub returns-in-Some-clause-repeated : goal.returns-in-Some-clause-repeated
returns-in-Some-clause-repeated c = λ k few is.
    let seen : Vec ℕ Global → List ℕ = λ title. title.items in
    let header = map seen c.args.self.header.items in
    let found : IsFirstRepeated (titles_of header) c.in-Some.c =
    subst (λ (ts : List (List ℕ)). IsFirstRepeated ts c.in-Some.c) c.args.self.titled
    (subst (λ (fs : List (Vec ℕ Global)). IsFirstRepeated (map seen fs) c.in-Some.c) c.deref.ensures.value c.in-Some.ensures.some) in
    let same = first_only (titles_of header) c.in-Some.c k found is in
    cc

pub returns-in-None-clause-repeated : goal.returns-in-None-clause-repeated
returns-in-None-clause-repeated c = λ k few is.
    let seen : Vec ℕ Global → List ℕ = λ title. title.items in
    absurd (none_repeated (titles_of (map seen c.args.self.header.items)) k
    (subst AreDistinct c.args.self.titled (subst (λ (fs : List (Vec ℕ Global)). AreDistinct (map seen fs)) c.deref.ensures.value c.in-None.ensures.none)) is)

pub returns-in-None-clause-fits : goal.returns-in-None-clause-fits
returns-in-None-clause-fits c =
    let seen : Vec ℕ Global → List ℕ = λ title. title.items in
    fits_all c.args.self c.make_titled.result (omega (arith, c.args.self.many, length-map c.args.self.header.items seen)) c.make_titled.ensures.header c.make_titled.ensures.rows c.make_titled.ensures.dialect

pub returns-in-Some-clause-only_repeated : goal.returns-in-Some-clause-only_repeated
returns-in-Some-clause-only_repeated c = λ k is.
    let seen : Vec ℕ Global → List ℕ = λ title. title.items in
    let header = map seen c.args.self.header.items in
    let found : IsFirstRepeated (titles_of header) c.in-Some.c =
    subst (λ (ts : List (List ℕ)). IsFirstRepeated ts c.in-Some.c) c.args.self.titled
    (subst (λ (fs : List (Vec ℕ Global)). IsFirstRepeated (map seen fs) c.in-Some.c) c.deref.ensures.value c.in-Some.ensures.some) in
    let same : c.in-Some.c ≡ k = cc in
    subst (IsFirstRepeated (titles_of header)) same found
