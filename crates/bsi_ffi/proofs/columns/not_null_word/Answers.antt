use Rattle.std.proofs.Common.{◌+◌, ◌-◌, ◌/◌, ◌≤◌, length, drop, bit_and, sym, subst, ◌∙◌, arith}
use Rattle.std.proofs.lemmas.List.{length-drop, length-take-le}
use Rattle.bsi_ffi.specs.Columns.{IsNotNullWord}
use Rattle.bsi_ffi.proofs.NotNullWords.{all_there, bit_from, enough_bytes, low_ones, some_there}
use Rattle.bsi_ffi.proofs.columns.not_null_word.Goals as goal

-- there is no bitmap, so each entry is there
pub returns-then-is_empty : goal.returns-then-is_empty
returns-then-is_empty c =
    let valid = c.args.column.now.valid.now in
    subst (IsNotNullWord valid c.args.from c.args.count) (sym (low_ones c.args.count c.requires.few.1)) (all_there valid c.args.from c.args.count (sym c.is_empty.ensures ∙ c.if-is_empty.true))

pub returns : goal.returns
returns c =
    let valid = c.args.column.now.valid.now in
    let from = c.args.from in
    let n = from / 8 + c.div_ceil.result - from / 8 in
    let enough = enough_bytes (length c.args.column.now.values.now) (length valid) c.requires.whole (sym c.is_empty.ensures ∙ c.if-is_empty.false) in
    let long : n ≤ length valid - from / 8 = omega (arith, enough, c.div_ceil.ensures, c.requires.within, c.requires.first) in
    subst (λ each. IsNotNullWord valid from c.args.count (bit_and c.word_of.result each)) (sym (low_ones c.args.count c.requires.few.1))
    (some_there valid from c.args.count c.word_of.result (sym c.is_empty.ensures ∙ c.if-is_empty.false)
    (λ r within. c.word_of.ensures r (omega (arith, within, long, length-take-le n (drop (from / 8) valid), length-drop (from / 8) valid)) ∙ bit_from valid from n r c.requires.first (omega (arith, within))))
