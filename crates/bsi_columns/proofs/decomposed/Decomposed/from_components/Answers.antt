use Rattle.std.proofs.Common.{Bool, List, length, map, ap, sym, subst, arith}
use Rattle.bsi_bits.specs.BitList.{BitList}
use Rattle.bsi_columns.specs.Decomposed.{entries_of, Decomposes}
use Rattle.bsi_columns.proofs.FromDigits.{decomposed_from}
use Rattle.bsi_columns.proofs.decomposed.Decomposed.from_components.Goals as goal

pub invariant_of-result : goal.invariant_of-result
invariant_of-result g c =
    let digits = map g.E.Encoding.digits c.args.components.items in
    let decomposes = decomposed_from c.args.bases c.args.not_null.bits digits c.requires.digits in
    let same = ap (λ (b : BitList). b.bits) (sym c.from_bits.ensures) in (
      subst (λ (bits : List Bool). Decomposes c.args.bases bits digits (entries_of c.args.bases bits digits)) same decomposes,
      c.requires.bases,
      record {
        within = omega (arith, c.if-prove.false, c.len.ensures.len, ap length same);
        bitmap = omega arith;
        each = λ i below. omega arith;
      },
    )

pub returns-clause-digits : goal.returns-clause-digits
returns-clause-digits g c =
    let digits = map g.E.Encoding.digits c.args.components.items in
    subst (λ (bits : List Bool). Decomposes c.args.bases c.args.not_null.bits digits (entries_of c.args.bases bits digits))
    (ap (λ (b : BitList). b.bits) (sym c.from_bits.ensures)) (decomposed_from c.args.bases c.args.not_null.bits digits c.requires.digits)
