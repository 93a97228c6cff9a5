use Rattle.std.proofs.Common.{List, Vec, Global, ℕ, ap, ◌∙◌}
use Rattle.std.specs.List.{list_any}
use Rattle.std.specs.Str.{bytes_eq}
use Rattle.bsi_kinds.specs.Nulls.{is_null_word}
use Rattle.bsi_logical.proofs.Called.{any-map}
use Rattle.bsi_logical.proofs.logical.LogicalSchema.is_null_word.Goals as goal

pub returns : goal.returns
returns c =
    c.has_word.ensures ∙ ap (list_any (λ (w : Vec ℕ Global). bytes_eq w.items c.args.field.now)) c.deref.ensures.value
    ∙ any-map (λ (w : Vec ℕ Global). w.items) (λ (w : List ℕ). bytes_eq w c.args.field.now) c.self.inside.nulls.items
    ∙ ap (λ l. is_null_word l.nulls c.args.field.now) c.self.view_is
