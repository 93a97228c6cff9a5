use Rattle.std.proofs.Common.{length, ap, sym, ◌∙◌}
use Rattle.std.proofs.lemmas.List.{length-map}
use Rattle.std.proofs.lemmas.Simd.{length-zip2}
use Rattle.bsi_aggregates.proofs.splitting.split_off_rows.Goals as goal

pub and_not_with-requires : goal.and_not_with-requires
and_not_with-requires c =
    let rows = ap length c.in_ok-rows.ensures ∙ length-map _ _ ∙ c.requires in
    sym (ap length c.and_with.ensures.bits ∙ length-zip2 _ _ _ rows ∙ rows)
