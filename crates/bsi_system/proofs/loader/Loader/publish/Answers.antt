use Rattle.bsi_system.proofs.Progress.{always_holds, published_loader}
use Rattle.bsi_system.proofs.loader.Loader.publish.Goals as goal

pub returns-clause-always : goal.returns-clause-always
returns-clause-always g c =
    let l = c.self.inside in
    always_holds l.readers.items c.publish.new.self (published_loader l.readers.items l.publisher c.self.invariant c.publish.new.self c.publish.result c.publish.ensures.ok c.publish.ensures.err)
