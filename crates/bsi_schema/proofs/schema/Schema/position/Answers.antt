use Rattle.std.proofs.Common.{ap, sym, ◌∙◌}
use Rattle.bsi_schema.specs.Columns.{position_of}
use Rattle.bsi_schema.proofs.Naming.{position-named}
use Rattle.bsi_schema.proofs.schema.Schema.position.Goals as goal

pub returns-in_err-get_index_of : goal.returns-in_err-get_index_of
returns-in_err-get_index_of c =
    c.from_residual.ensures ∙ c.in_err-get_index_of.ensures.index ∙ sym (position-named c.args.name.now c.self.inside.columns.entries)
    ∙ ap (λ s. position_of s.columns c.args.name.now) c.self.view_is

pub returns : goal.returns
returns c =
    c.in_ok-get_index_of.ensures.index ∙ sym (position-named c.args.name.now c.self.inside.columns.entries)
    ∙ ap (λ s. position_of s.columns c.args.name.now) c.self.view_is
