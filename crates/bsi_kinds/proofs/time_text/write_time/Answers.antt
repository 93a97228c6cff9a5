use Rattle.std.proofs.Common.{◌∙◌}
use Rattle.std.specs.Int.{w64}
use Rattle.std.proofs.lemmas.Int.{to_z-of_z}
use Rattle.std.proofs.lemmas.Result.{IfOk-weaker}
use Rattle.bsi_kinds.proofs.time_text.write_time.Goals as goal

pub returns : goal.returns
returns c =
    let split = c.split_number-subsecond in
    IfOk-weaker c.write_moment.result _ _
    (λ x e. record {
      date = c.split_number-subsecond.result.0;
      time = c.split_number-subsecond.result.1;
      subsecond = c.split_number-subsecond.result.2;
      small = c.split_number-subsecond.ensures.small;
      is = c.split_number-subsecond.ensures.number ∙ to_z-of_z w64 c.args.number c.ranges.number;
      written = e;
    }) c.write_moment.ensures
