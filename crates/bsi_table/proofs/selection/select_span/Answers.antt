use Rattle.std.proofs.Common.{◌≡◌, ◌+◌, ◌*◌, ◌-◌, ◌^◌, ◌&&◌, ◌<◌, true, length, replicate, ap, ◌∙◌, arith}
use Rattle.std.proofs.lemmas.Result.{on_ok_weaker}
use Rattle.bsi_bits.specs.Packed.{bit_of}
use Rattle.bsi_bits.proofs.Reading.{all_set}
use Rattle.bsi_columns.proofs.WordSpans.{replicate_bit}
use Rattle.bsi_rows.specs.Rows.{holds}
use Rattle.bsi_table.specs.Encoded.{row_in}
use Rattle.bsi_table.proofs.selection.select_span.Goals as goal

-- a span of ones has each row
pub returns-clause-rows : goal.returns-clause-rows
returns-clause-rows c =
    let n = length c.args.span.now in
    let filled : c.fill.new.self ≡ replicate n (2 ^ 64 - 1) = c.fill.ensures.after (λ y same. same) in
    on_ok_weaker c.narrow.result
    (λ each. λ p below row.
    let here : p < 64 * length c.fill.new.self = omega (arith, below, c.narrow.auto.span, c.fill.ensures.len) in
    each p here row
    ∙ ap (λ ws. bit_of ws p && holds c.args.pred.now (row_in c.args.columns.now (64 * c.args.at + p))) filled
    ∙ ap (λ b. b && holds c.args.pred.now (row_in c.args.columns.now (64 * c.args.at + p))) (replicate_bit n (2 ^ 64 - 1) true all_set p (omega (arith, here, c.fill.ensures.len))))
    c.narrow.ensures.rows
