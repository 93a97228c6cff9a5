use Rattle.std.proofs.Common.{◌≤◌, ◌*◌, ℕ, arith}
use Rattle.std.proofs.Math.Nat.{mul-le-mul}
use Rattle.bsi_ffi.proofs.memory.index_bytes.Goals as goal

-- at most 2^26 words of 8 bytes in each of at most 2^22 bitmaps
few_bytes : (words bitmaps : ℕ) → words ≤ 67108864 → bitmaps ≤ 4194304 → 8 * words * bitmaps ≤ 2251799813685248
few_bytes words bitmaps few many =
    let eight : 8 * words ≤ 536870912 = omega (arith, few) in
    mul-le-mul eight many

pub tally_bytes-requires : goal.tally_bytes-requires
tally_bytes-requires c = (omega (arith, c.feeders.ensures.within), omega (arith, c.len-rows.ensures.within, c.limit.ensures.within))

pub overflow_mul-result-2 : goal.overflow_mul-result-2
overflow_mul-result-2 c =
    let words : c.div_ceil-words.result ≤ 67108864 = omega (arith, c.len-rows.ensures.within, c.limit.ensures.within, c.div_ceil-words.ensures) in
    record { fits = omega (arith, few_bytes c.div_ceil-words.result c.count_bitmaps.result words c.count_bitmaps.ensures.few) }

pub overflow_add-result : goal.overflow_add-result
overflow_add-result c =
    let words : c.div_ceil-words.result ≤ 67108864 = omega (arith, c.len-rows.ensures.within, c.limit.ensures.within, c.div_ceil-words.ensures) in
    record { fits = omega (arith, c.len-rows.ensures.within, c.limit.ensures.within, few_bytes c.div_ceil-words.result c.count_bitmaps.result words c.count_bitmaps.ensures.few) }

pub overflow_add-result-2 : goal.overflow_add-result-2
overflow_add-result-2 c =
    let words : c.div_ceil-words.result ≤ 67108864 = omega (arith, c.len-rows.ensures.within, c.limit.ensures.within, c.div_ceil-words.ensures) in
    record {
      fits = omega (
        arith,
        c.len-rows.ensures.within,
        c.limit.ensures.within,
        c.tally_bytes.ensures.few,
        few_bytes c.div_ceil-words.result c.count_bitmaps.result words c.count_bitmaps.ensures.few,
      );
    }
