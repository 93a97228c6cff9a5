use Rattle.std.proofs.Common.{◌≡◌, ◌<◌, Vec, Global, ℕ, Some, None, map, position, length, ap, sym, ◌∙◌, arith}
use Rattle.std.proofs.lemmas.List.{length-map}
use Rattle.std.specs.Str.{bytes_eq}
use Rattle.bsi_schema.proofs.Naming.{position-map}
use Rattle.bsi_schema.specs.Columns.{position_of}
use Rattle.bsi_logical.specs.Logical.{column_called, Logical}
use Rattle.bsi_logical.proofs.Called.{or_first, or_second}
use Rattle.bsi_logical.proofs.logical.LogicalSchema.find.Goals as goal

pub overflow_cast-result : goal.overflow_cast-result
overflow_cast-result c =
    let within : c.in-Some.c < length c.deref.result.now = c.in-Some.ensures.within in
    let few = c.self.invariant.few in
    omega (arith, within, few, ap length c.deref.ensures.value, length-map c.self.inside.titles.items (λ (t : Vec ℕ Global). t.items))

-- a title
pub returns-in-Some : goal.returns-in-Some
returns-in-Some c =
    let name = c.args.name.now in
    let items = c.self.inside.titles.items in
    let among : Some c.in-Some.c ≡ position (λ t. bytes_eq name t) (map (λ (t : Vec ℕ Global). t.items) items) =
    c.in-Some.ensures.index ∙ ap (position (λ (t : Vec ℕ Global). bytes_eq name t.items)) c.deref.ensures.value
    ∙ sym (position-map (λ (t : Vec ℕ Global). t.items) (λ t. bytes_eq name t) items) in
    sym (or_first (position (λ t. bytes_eq name t) (map (λ (t : Vec ℕ Global). t.items) items)) (position_of c.self.inside.schema.columns name) c.in-Some.c (sym among))
    ∙ ap (λ (l : Logical). column_called l name) c.self.view_is

-- else a name
pub returns-in-None : goal.returns-in-None
returns-in-None c =
    let name = c.args.name.now in
    let items = c.self.inside.titles.items in
    let among : None ≡ position (λ t. bytes_eq name t) (map (λ (t : Vec ℕ Global). t.items) items) =
    c.in-None.ensures.index ∙ ap (position (λ (t : Vec ℕ Global). bytes_eq name t.items)) c.deref.ensures.value
    ∙ sym (position-map (λ (t : Vec ℕ Global). t.items) (λ t. bytes_eq name t) items) in
    c.find.ensures
    ∙ sym (or_second (position (λ t. bytes_eq name t) (map (λ (t : Vec ℕ Global). t.items) items)) (position_of c.self.inside.schema.columns name) (sym among))
    ∙ ap (λ (l : Logical). column_called l name) c.self.view_is
