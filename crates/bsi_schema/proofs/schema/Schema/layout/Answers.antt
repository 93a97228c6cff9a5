use Rattle.std.proofs.Common.{◌<◌, map, length, subst, sym, ap, ◌∙◌}
use Rattle.std.specs.Prelude.{option_map}
use Rattle.std.specs.Map.Iter.{deref_pair}
use Rattle.std.proofs.lemmas.List.Elements.{All-get_or}
use Rattle.bsi_schema.specs.Columns.{column_at, named, no_column, IsColumn}
use Rattle.bsi_schema.proofs.Naming.{column_named}
use Rattle.bsi_schema.proofs.schema.Schema.layout.Goals as goal

pub returns-clause-form : goal.returns-clause-form
returns-clause-form c =
    let at = sym c.get_index.ensures.entry ∙ ap (option_map deref_pair) c.unwrap.ensures in
    let same = column_named c.self.inside.columns.entries c.args.c (c.unwrap.result.0.now, c.unwrap.result.1.now) at in
    sym (ap (λ column. column.form) same) ∙ ap (λ s. (column_at s.columns c.args.c).form) c.self.view_is

pub returns-clause-offset : goal.returns-clause-offset
returns-clause-offset c =
    let at = sym c.get_index.ensures.entry ∙ ap (option_map deref_pair) c.unwrap.ensures in
    let same = column_named c.self.inside.columns.entries c.args.c (c.unwrap.result.0.now, c.unwrap.result.1.now) at in
    sym (ap (λ column. column.offset) same) ∙ ap (λ s. (column_at s.columns c.args.c).offset) c.self.view_is

pub returns-clause-valid : goal.returns-clause-valid
returns-clause-valid c =
    let columns = map named c.self.inside.columns.entries in
    let within : c.args.c < length columns = subst (λ s. c.args.c < length s.columns) (sym c.self.view_is) c.requires in
    subst (λ s. IsColumn (column_at s.columns c.args.c)) c.self.view_is
    (All-get_or IsColumn columns c.args.c no_column within c.self.invariant.0.each)
