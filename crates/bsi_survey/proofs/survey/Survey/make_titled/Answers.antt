use Rattle.std.proofs.Common.{◌≡◌, ℕ, List, Vec, Global, Option, IfOk, IfSome, [], arith, rules, ap, get_or, length, map, subst, sym, ◌∙◌}
use Rattle.std.proofs.lemmas.List.{length-map}
use Rattle.bsi_inference.specs.declared.decision.Column.{Column}
use Rattle.bsi_logical.specs.HeaderTitles.{titles_of}
use Rattle.bsi_logical.specs.Logical.{Logical}
use Rattle.bsi_logical.proofs.Titling.{length-titles_of}
use Rattle.bsi_survey.specs.Choices.{chosen_fields}
use Rattle.bsi_survey.specs.Decided.{AreColumnsOf}
use Rattle.bsi_survey.proofs.Schemas.{all_good, columns_len, kinds_valid, schema_len}
use Rattle.bsi_survey.proofs.Whole.{header_accepted, whole_good}
use Rattle.std.specs.Prelude.{IfErr}
use Rattle.bsi_survey.specs.declared.schema_refusal.SchemaRefusal.{SchemaRefusal}
use Rattle.bsi_survey.specs.declared.schema_refusal.SchemaRefusal.TheVariants.{NoMemory}
use Rattle.bsi_survey.proofs.Late.{late_memory}
use Rattle.bsi_survey.proofs.survey.Survey.make_titled.Goals as goal

-- there are as many titles as fields of the header
pub choose_titles-requires : goal.choose_titles-requires
choose_titles-requires c =
    let seen : Vec ℕ Global → List ℕ = λ title. title.items in
    omega (
      arith,
      c.args.self.many,
      ap (λ (fs : List (Vec ℕ Global)). length fs) c.deref.ensures.value,
      length-map c.args.self.header.items seen,
      length-map c.args.self.titles.items seen,
      ap (λ (ts : List (List ℕ)). length ts) c.args.self.titled,
      length-titles_of (map seen c.args.self.header.items),
    )

-- there is a column for each title
pub make_logical-requires-clause-len : goal.make_logical-requires-clause-len
make_logical-requires-clause-len c =
    let listed : AreColumnsOf c.in_ok-decisions.decisions.items c.in-Some.columns.items =
    subst (λ (o : Option (Vec Column Global)). IfSome o (λ (list : Vec Column Global). AreColumnsOf c.in_ok-decisions.decisions.items list.items)) c.in-Some.is c.in_ok-listed.ensures in
    let columns = columns_len c.args.self.columns.items c.in_ok-decisions.decisions.items c.in-Some.columns.items c.in_ok-decisions.ensures listed in
    let seen : Vec ℕ Global → List ℕ = λ title. title.items in
    let lent = ap (λ (fs : List (Vec ℕ Global)). length fs) c.deref-4.ensures.value in
    let titles = ap (λ (ts : List (List ℕ)). length ts) c.in_ok-titles.ensures in
    let indexes = c.args.self.choice.indexes.items in
    omega (
      arith,
      columns,
      lent,
      titles,
      c.args.self.chosen,
      length-map c.in_ok-titles.titles.items seen,
      length-map indexes (λ (index : ℕ). get_or (map seen c.deref.result.now) index []),
    )

pub make_logical-requires-clause-kinds : goal.make_logical-requires-clause-kinds
make_logical-requires-clause-kinds c =
    let listed : AreColumnsOf c.in_ok-decisions.decisions.items c.in-Some.columns.items =
    subst (λ (o : Option (Vec Column Global)). IfSome o (λ (list : Vec Column Global). AreColumnsOf c.in_ok-decisions.decisions.items list.items)) c.in-Some.is c.in_ok-listed.ensures in
    kinds_valid c.args.self.columns.items c.in_ok-decisions.decisions.items c.in-Some.columns.items c.in_ok-decisions.ensures listed

pub returns-clause-good : goal.returns-clause-good
returns-clause-good c =
    let listed : AreColumnsOf c.in_ok-decisions.decisions.items c.in-Some.columns.items =
    subst (λ (o : Option (Vec Column Global)). IfSome o (λ (list : Vec Column Global). AreColumnsOf c.in_ok-decisions.decisions.items list.items)) c.in-Some.is c.in_ok-listed.ensures in
    all_good c.args.self.columns.items c.in_ok-decisions.decisions.items c.in-Some.columns.items c.in_ok-decisions.ensures listed c.args.self.dialect
    c.requires.looks.starts c.requires.looks.each
    c.make_logical.result c.make_logical.ensures.stored c.make_logical.ensures.dialect c.make_logical.ensures.kinds c.make_logical.ensures.nulls

pub returns-clause-columns : goal.returns-clause-columns
returns-clause-columns c =
    let listed : AreColumnsOf c.in_ok-decisions.decisions.items c.in-Some.columns.items =
    subst (λ (o : Option (Vec Column Global)). IfSome o (λ (list : Vec Column Global). AreColumnsOf c.in_ok-decisions.decisions.items list.items)) c.in-Some.is c.in_ok-listed.ensures in
    schema_len c.args.self.columns.items c.in_ok-decisions.decisions.items c.in-Some.columns.items c.in_ok-decisions.ensures listed c.make_logical.result c.make_logical.ensures.stored

-- the titles are those of the chosen columns
pub returns-clause-titles : goal.returns-clause-titles
returns-clause-titles c =
    let seen : Vec ℕ Global → List ℕ = λ title. title.items in
    let choice = c.args.self.choice in
    let same : map seen c.deref-4.result.now ≡ chosen_fields choice (titles_of (map seen c.args.self.header.items)) =
    ap (map seen) c.deref-4.ensures.value ∙ c.in_ok-titles.ensures ∙ ap (λ (fs : List (Vec ℕ Global)). chosen_fields choice (map seen fs)) c.deref.ensures.value
    ∙ ap (chosen_fields choice) c.args.self.titled in
    subst (λ (ts : List (List ℕ)). IfOk c.make_logical.result (λ (l : Logical). l.titles ≡ ts)) same c.make_logical.ensures.titles

pub returns-clause-header : goal.returns-clause-header
returns-clause-header c =
    let listed : AreColumnsOf c.in_ok-decisions.decisions.items c.in-Some.columns.items =
    subst (λ (o : Option (Vec Column Global)). IfSome o (λ (list : Vec Column Global). AreColumnsOf c.in_ok-decisions.decisions.items list.items)) c.in-Some.is c.in_ok-listed.ensures in
    let seen : Vec ℕ Global → List ℕ = λ field. field.items in
    let header = map seen c.args.self.header.items in
    let cands = c.args.self.columns.items in
    let choice = c.args.self.choice in
    let many : choice.many ≡ length header = c.args.self.many ∙ sym (length-map c.args.self.header.items seen) in
    let titled = returns-clause-titles c in
    header_accepted header choice c.requires.distinct choice.within many c.make_logical.result titled cands (sym c.args.self.chosen)
    (schema_len cands c.in_ok-decisions.decisions.items c.in-Some.columns.items c.in_ok-decisions.ensures listed c.make_logical.result c.make_logical.ensures.stored)

pub returns-clause-rows : goal.returns-clause-rows
returns-clause-rows c =
    let listed : AreColumnsOf c.in_ok-decisions.decisions.items c.in-Some.columns.items =
    subst (λ (o : Option (Vec Column Global)). IfSome o (λ (list : Vec Column Global). AreColumnsOf c.in_ok-decisions.decisions.items list.items)) c.in-Some.is c.in_ok-listed.ensures in
    let seen : Vec ℕ Global → List ℕ = λ field. field.items in
    let header = map seen c.args.self.header.items in
    let cands = c.args.self.columns.items in
    let choice = c.args.self.choice in
    let many : choice.many ≡ length header = c.args.self.many ∙ sym (length-map c.args.self.header.items seen) in
    let titled = returns-clause-titles c in
    whole_good header choice c.requires.distinct choice.within many c.make_logical.result titled cands (sym c.args.self.chosen)
    (schema_len cands c.in_ok-decisions.decisions.items c.in-Some.columns.items c.in_ok-decisions.ensures listed c.make_logical.result c.make_logical.ensures.stored)
    (all_good cands c.in_ok-decisions.decisions.items c.in-Some.columns.items c.in_ok-decisions.ensures listed c.args.self.dialect
    c.requires.looks.starts c.requires.looks.each
    c.make_logical.result c.make_logical.ensures.stored c.make_logical.ensures.dialect c.make_logical.ensures.kinds c.make_logical.ensures.nulls)

pub returns-in_err-decisions-clause-late : goal.returns-in_err-decisions-clause-late
returns-in_err-decisions-clause-late c =
    let none : IfErr c.from_residual-in_err-decisions.result (λ (e : SchemaRefusal). e ≡ NoMemory) = search rules in
    late_memory c.from_residual-in_err-decisions.result none

pub returns-in_err-doubts-clause-late : goal.returns-in_err-doubts-clause-late
returns-in_err-doubts-clause-late c =
    let none : IfErr c.from_residual-in_err-doubts.result (λ (e : SchemaRefusal). e ≡ NoMemory) = search rules in
    late_memory c.from_residual-in_err-doubts.result none

pub returns-in_err-listed-clause-late : goal.returns-in_err-listed-clause-late
returns-in_err-listed-clause-late c =
    let none : IfErr c.from_residual-in_err-listed.result (λ (e : SchemaRefusal). e ≡ NoMemory) = search rules in
    late_memory c.from_residual-in_err-listed.result none

pub returns-in_err-titles-clause-late : goal.returns-in_err-titles-clause-late
returns-in_err-titles-clause-late c =
    let none : IfErr c.from_residual.result (λ (e : SchemaRefusal). e ≡ NoMemory) = search rules in
    late_memory c.from_residual.result none
