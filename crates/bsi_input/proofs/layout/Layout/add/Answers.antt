use Rattle.std.proofs.Common.{ap, ◌∙◌}
use Rattle.bsi_schema.specs.Columns.{fits}
use Rattle.bsi_schema.proofs.Fitting.{fits-alike}
use Rattle.bsi_input.proofs.layout.Layout.add.Goals as goal

pub push_fitting-requires-clause-fits : goal.push_fitting-requires-clause-fits
push_fitting-requires-clause-fits g c =
    let block = c.args.block.now.schema.columns in
    fits-alike block (g.F.RowFormat.format c.args.self.now.format).schema.columns c.requires.alike c.deref.result.now
    ∙ ap (fits (g.F.RowFormat.format c.args.self.now.format).schema.columns) c.deref.ensures.value ∙ c.read_entries.ensures.fits c.if-not-read_entries.false
