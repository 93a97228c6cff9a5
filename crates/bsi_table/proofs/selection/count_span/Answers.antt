use Rattle.std.proofs.Common.{ap, ◌∙◌}
use Rattle.std.specs.Prelude.{count_by}
use Rattle.bsi_bits.proofs.Counting.{count_packed}
use Rattle.bsi_table.proofs.selection.count_span.Goals as goal

pub returns : goal.returns
returns c =
    c.count.ensures.ones
    ∙ count_packed c.args.rows c.trim.new.span c.trim.ensures.packed c.know_fits.ensures
    ∙ ap (count_by (λ b. b)) c.trim.ensures.bits
