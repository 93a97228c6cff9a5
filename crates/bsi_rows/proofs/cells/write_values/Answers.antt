use Rattle.std.proofs.Common.{◌≡◌, ◌≢◌, ℕ, ℤ, ◌*◌, ◌+◌, ◌<◌, ◌+ℤ◌, pos, get_or, set, length, length-set, nat_eq, ap, of_z, rules, sym, to_z, to_z-of_z, w64, ◌∙◌, arith, below_more}
use Rattle.std.proofs.lemmas.List.{get_or-set_other, get_or-set_same}
use Rattle.std.proofs.lemmas.Nat.Bits.{shr_and_one}
use Rattle.bsi_digits.specs.Offsets.{number_of}
use Rattle.bsi_rows.specs.RowBlocks.{least_at, IsValueAt}
use Rattle.bsi_rows.proofs.cells.write_values.Goals as goal

pub rows-preserved : goal.rows-preserved
rows-preserved c =
    let a = c.args in
    let old = c.rows.numbers in
    let at = 64 * a.c + c.rows.r in
    let new = set old at c.stored.result in
    let least = least_at a.limits.now a.c in
    let near : c.rows.r < 64 = omega (arith, c.rows-test.true, c.requires.few) in
    let within : at < length old = omega (arith, near, c.requires.within, c.requires.long, c.rows.invariant.long) in
    let last : get_or new at 0 ≡ c.stored.result = get_or-set_same old at c.stored.result 0 within in
    let other : (i : ℕ) → i ≢ at → get_or new i 0 ≡ get_or old i 0 = λ i apart. get_or-set_other old at i c.stored.result 0 apart in
    let least_is : to_z w64 (of_z w64 c.least-least.result) ≡ least = to_z-of_z {w = w64} (search rules) ∙ c.least-least.ensures in
    record {
      long = length-set old at c.stored.result ∙ c.rows.invariant.long;
      written = λ k below.
          below_more (λ k. IsValueAt a.limits.now a.values.now a.not_null new a.c k) c.rows.r
          (λ k h.
          let same = other (64 * a.c + k) (λ e. absurd (omega (arith, e, h))) in
          record {
            number = λ bit. ap (number_of least) same ∙ (c.rows.invariant.written k h).number bit;
            null = λ bit. same ∙ (c.rows.invariant.written k h).null bit;
          })
          (record {
            number = λ bit.
                ap (number_of least) last ∙ ap (λ (l : ℤ). l +ℤ pos c.stored.result) (sym least_is)
                ∙ c.stored.ensures.number (ap (λ b. nat_eq b 1) (shr_and_one a.not_null c.rows.r ∙ bit)) ∙ search rules;
            null = λ bit. last ∙ c.stored.ensures.null (ap (λ b. nat_eq b 1) (shr_and_one a.not_null c.rows.r ∙ bit));
          }) k below;
      others = λ k s apart low. other (64 * k + s) (λ e. apart (omega (arith, e, low, near))) ∙ c.rows.invariant.others k s apart low;
    }
