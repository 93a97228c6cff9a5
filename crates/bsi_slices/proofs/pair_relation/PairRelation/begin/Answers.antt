use Rattle.std.proofs.Common.{◌-◌, ◌^◌, ◌≡◌, true, length, ap, sym, ◌∙◌}
use Rattle.std.specs.Prelude.{replicate}
use Rattle.bsi_bits.specs.Packed.{bit_of}
use Rattle.bsi_bits.proofs.Reading.{all_set}
use Rattle.bsi_slices.specs.PairRelations.{relation_holds}
use Rattle.bsi_slices.proofs.WordSpans.{replicate_bit}
use Rattle.bsi_slices.proofs.pair_relation.PairRelation.begin.Goals as goal

pub returns-in-AtMost-clause-bits : goal.returns-in-AtMost-clause-bits
returns-in-AtMost-clause-bits c = λ p below.
    let n = length c.args.state.now in
    let filled : c.fill.new.self ≡ replicate n (2 ^ 64 - 1) = c.fill.ensures.after (λ y same. same) in
    ap (λ ws. bit_of ws p) filled ∙ replicate_bit n (2 ^ 64 - 1) true all_set p below ∙ ap (λ s. relation_holds s 0 0) (sym c.in-AtMost.is)
