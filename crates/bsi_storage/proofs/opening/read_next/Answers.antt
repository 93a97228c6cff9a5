use Rattle.std.proofs.Common.{◌≡◌, ◌+◌, rules, ap, ◌∙◌}
use Rattle.bsi_table.specs.Index.{table_of}
use Rattle.bsi_rows.specs.Table.{with_rows}
use Rattle.bsi_storage.specs.Faults.{AcceptsRowsOf}
use Rattle.bsi_storage.proofs.Files.{more_read}
use Rattle.bsi_storage.proofs.opening.read_next.Goals as goal

pub returns-clause-more : goal.returns-clause-more
returns-clause-more g c = λ yes before read.
    (let consumed = rw c.in-Some.is at c.in_ok-part.ensures.read in
    let valid = rw c.in-Some.is at c.in_ok-part.ensures.valid in
    let long = rw c.in-Some.is at c.in_ok-part.ensures.bytes in
    let t = table_of c.args.whole.now.index in
    let part = c.in-Some.field-0.part in
    let more = table_of part.index in
    let may : AcceptsRowsOf t c.args.whole.now.kinds.items more part.kinds.items = search rules in
    let joined : table_of c.append_index.new.self ≡ with_rows t more.rows = search rules in
    let sum : c.in-Some-checked_add.bytes ≡ c.args.whole.now.bytes + c.in-Some.field-0.bytes = search rules in
    more_read part.version before (g.R.Read.remaining c.args.reader.now) (g.R.Read.remaining c.read_part.new.reader) t more c.args.whole.now.notes.items part.notes.items
    c.args.whole.now.kinds.items part.kinds.items
    c.args.whole.now.bytes read consumed valid may (table_of c.append_index.new.self) c.in-Some-checked_add.bytes joined
    (sum ∙ ap (λ n. c.args.whole.now.bytes + n) long))
