use Rattle.bsi_table.specs.Index.{table_of}
use Rattle.bsi_storage.proofs.Files.{first_read}
use Rattle.bsi_storage.proofs.opening.read_first.Goals as goal

pub returns-clause-read : goal.returns-clause-read
returns-clause-read g c =
    let consumed = rw c.in-Some.is at c.in_ok-part.ensures.read in
    let valid = rw c.in-Some.is at c.in_ok-part.ensures.valid in
    let long = rw c.in-Some.is at c.in_ok-part.ensures.bytes in
    let part = c.in-Some.field-0.part in
    first_read part.version (g.R.Read.remaining c.args.reader.now) (g.R.Read.remaining c.read_part.new.reader)
    (table_of part.index) part.notes.items part.kinds.items c.in-Some.field-0.bytes consumed valid long
