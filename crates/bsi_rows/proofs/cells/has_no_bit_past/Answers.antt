use Rattle.std.proofs.Common.{◌≡◌, ◌*◌, ◌/◌, ◌^◌, ◌<◌, ℕ, nat_eq, true, arith}
use Rattle.std.specs.Prelude.{◌↔◌}
use Rattle.std.proofs.Math.Nat.{div-lt_iff_lt-mul}
use Rattle.std.proofs.lemmas.Bool.Decides.{nat_tests}
use Rattle.std.proofs.lemmas.Nat.{pow_pos}
use Rattle.bsi_rows.proofs.cells.has_no_bit_past.Goals as goal

-- none is left past the rows where the word is below their power of two
pub returns-else-rows-eq-MAX_BLOCK_ROWS : goal.returns-else-rows-eq-MAX_BLOCK_ROWS
returns-else-rows-eq-MAX_BLOCK_ROWS c =
    let past = c.args.word / 2 ^ c.args.rows in
    let none : (past < 1) ↔ (c.args.word < 1 * 2 ^ c.args.rows) = div-lt_iff_lt-mul (pow_pos c.args.rows) in (
      λ zero. (let no : past < 1 = is_none past zero in omega (arith, none.0 no)),
      λ below. (let no : past < 1 = none.1 (omega (arith, below)) in is_zero past no),
    )
  where
    is_none : (n : ℕ) → nat_eq n 0 ≡ true → n < 1
    is_none n zero = grind (arith, nat_tests)

    is_zero : (n : ℕ) → n < 1 → nat_eq n 0 ≡ true
    is_zero n below = grind (arith, nat_tests)
