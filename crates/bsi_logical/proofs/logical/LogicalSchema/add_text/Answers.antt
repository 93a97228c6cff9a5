use Rattle.std.proofs.Common.{◌≡◌, ◌<◌, ℕ, List, Vec, Global, length, map, ap, sym, subst, arith, rules}
use Rattle.std.proofs.lemmas.List.Elements.{All-get_or}
use Rattle.bsi_kinds.specs.Kinds.{IsKind}
use Rattle.bsi_kinds.specs.declared.kind.Kind.TheVariants.{Decimal}
use Rattle.bsi_logical.specs.Logical.{Logical}
use Rattle.bsi_logical.specs.Records.{text_given, with_kind, Does}
use Rattle.bsi_logical.proofs.Building.{kind_logical, kind_there, text_done}
use Rattle.bsi_logical.proofs.logical.LogicalSchema.add_text.Goals as goal

pub invariant_of-self : goal.invariant_of-self
invariant_of-self c =
    let l : Logical = record {
      schema = c.self.inside.schema;
      limit = c.self.inside.limit;
      titles = map (λ (t : Vec ℕ Global). t.items) c.self.inside.titles.items;
      kinds = c.self.inside.kinds.items;
      dialect = c.self.inside.dialect;
      nulls = map (λ (w : Vec ℕ Global). w.items) c.self.inside.nulls.items;
    } in
    let within : c.args.c < length c.self.inside.kinds.items = omega (arith, c.requires, ap (λ (s : Logical). length s.schema.columns) c.self.view_is, c.self.invariant.kinded) in
    let same = kind_there c.self.inside.kinds.items c.args.c c.index_mut.result.now within c.index_mut.ensures.value in
    kind_logical l c.args.c c.add_text.new.kind c.self.invariant
    (c.add_text.ensures.valid (subst IsKind (sym same) (All-get_or IsKind c.self.inside.kinds.items c.args.c (Decimal 0) within c.self.invariant.kinds)))

pub returns : goal.returns
returns c =
    let l : Logical = record {
      schema = c.self.inside.schema;
      limit = c.self.inside.limit;
      titles = map (λ (t : Vec ℕ Global). t.items) c.self.inside.titles.items;
      kinds = c.self.inside.kinds.items;
      dialect = c.self.inside.dialect;
      nulls = map (λ (w : Vec ℕ Global). w.items) c.self.inside.nulls.items;
    } in
    let within : c.args.c < length c.self.inside.kinds.items = omega (arith, c.requires, ap (λ (s : Logical). length s.schema.columns) c.self.view_is, c.self.invariant.kinded) in
    let same = kind_there c.self.inside.kinds.items c.args.c c.index_mut.result.now within c.index_mut.ensures.value in
    let text : c.in_ok-text.text.items ≡ c.args.text.now = search rules in
    subst (λ (s : Logical). Does (text_given s c.args.c c.args.text.now) s (with_kind l c.args.c c.add_text.new.kind) c.add_text.result) c.self.view_is
    (subst (λ (t : List ℕ). Does (text_given l c.args.c t) l (with_kind l c.args.c c.add_text.new.kind) c.add_text.result) text
    (text_done l c.args.c c.index_mut.result.now c.add_text.new.kind c.in_ok-text.text.items same c.add_text.result c.add_text.ensures.does))
