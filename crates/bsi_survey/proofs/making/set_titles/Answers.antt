use Rattle.std.proofs.Common.{◌≡◌, ◌<◌, [], ℕ, List, Vec, Global, get_or, length, map, refl, sym, ap, ◌∙◌, arith, below_more, ext_get_or, get_or-set_other, get_or-set_same}
use Rattle.std.proofs.Math.ListN.{length-set}
use Rattle.std.proofs.lemmas.List.{length-map}
use Rattle.bsi_schema.specs.Columns.{Declared}
use Rattle.bsi_rows.specs.Fields.{Field}
use Rattle.bsi_logical.specs.Logical.{Logical}
use Rattle.bsi_survey.proofs.Lists.{mapped_at}
use Rattle.bsi_survey.proofs.Saying.{titles_more}
use Rattle.bsi_survey.proofs.making.set_titles.Goals as goal

pub columns-init : goal.columns-init
columns-init c = record { same = refl; len = c.schema.ensures.logical.titled ∙ sym c.requires; set = λ k low. absurd (omega (arith, low)) }

-- one title more
pub columns-preserved : goal.columns-preserved
columns-preserved c =
    let seen : Vec ℕ Global → List ℕ = λ title. title.items in
    let titles = c.args.titles.now in
    let k = c.columns.c in
    let now = c.columns.logical in
    let there : k < length titles =
    omega (arith, c.columns-test.true, c.columns-c-end.ensures.columns, ap (λ (d : Declared). length d.columns) c.schema.ensures.schema, c.requires) in
    let within : k < length now.titles = omega (arith, there, c.columns.invariant.len) in
    let title = c.as_slice.result.now in
    let is = c.in_ok-set_title.ensures in
    let list = ap (λ (l : Logical). l.titles) is in
    let text : title ≡ get_or (map seen titles) k [] = c.as_slice.ensures.value ∙ sym (mapped_at seen titles k c.index-titles-c.result [] there c.index-titles-c.is) in
    record {
      same = titles_more c.args.logical.now now c.set_title.new.logical k title c.columns.invariant.same is;
      len = ap length list ∙ length-set now.titles k title ∙ c.columns.invariant.len;
      set = below_more _ _
          (λ j low. ap (λ (ts : List Field). get_or ts j []) list ∙ get_or-set_other now.titles k j title [] (λ same. omega (arith, low, same)) ∙ c.columns.invariant.set j low)
          (ap (λ (ts : List Field). get_or ts k []) list ∙ get_or-set_same now.titles k title [] within ∙ text);
    }

pub returns-clause-same : goal.returns-clause-same
returns-clause-same c = c.columns.invariant.same

pub returns-clause-titles : goal.returns-clause-titles
returns-clause-titles c =
    let seen : Vec ℕ Global → List ℕ = λ title. title.items in
    let titles = c.args.titles.now in
    let now = c.columns.logical in
    let long : length now.titles ≡ length (map seen titles) = c.columns.invariant.len ∙ sym (length-map titles seen) in
    let all : length titles ≡ length c.args.logical.now.schema.columns = c.requires in
    ext_get_or [] now.titles (map seen titles) long
    (λ k within. c.columns.invariant.set k (omega (arith, within, c.columns-test.false, c.columns.invariant.len, all, c.columns-c-end.ensures.columns, ap (λ (d : Declared). length d.columns) c.schema.ensures.schema)))
