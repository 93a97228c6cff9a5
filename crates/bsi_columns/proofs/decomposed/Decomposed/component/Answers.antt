use Rattle.std.proofs.Common.{[], sym, ◌∙◌, arith}
use Rattle.std.proofs.lemmas.List.{length-map}
use Rattle.bsi_columns.proofs.ComponentLists.{read_map}
use Rattle.bsi_columns.proofs.decomposed.Decomposed.component.Goals as goal

pub returns-clause-digits : goal.returns-clause-digits
returns-clause-digits g c =
    let within = rw (← c.self.view_is) at c.requires in
    let decomposes = c.self.invariant.0 in
    let items = c.self.inside.components.items in
    rw (← c.self.view_is)
    (sym (read_map g.E.Encoding.digits items c.args.i c.index.result.now [] (omega (arith, decomposes.count, length-map items g.E.Encoding.digits)) c.index.ensures)
    ∙ decomposes.digits_are c.args.i within)
