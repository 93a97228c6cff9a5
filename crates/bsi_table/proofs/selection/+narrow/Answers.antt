use Rattle.std.proofs.Common.{◌≡◌, ℕ, ◌+◌, ◌*◌, ◌++◌, [], ◌∷◌, length, get_or, arith, SFits, to_z-of_z, rules, ap, ap₂, sym, ◌∙◌}
use Rattle.std.specs.Int.{w128}
use Rattle.std.specs.Prelude.{◌&&◌, ◌||◌, None, bit_or, bit_xor, is_none, not}
use Rattle.std.specs.Simd.Lanes.{zip2}
use Rattle.bsi_bits.specs.Packed.{bit_of}
use Rattle.bsi_shift.specs.Shifted.{shifted_entries}
use Rattle.bsi_digits.specs.WholeNumbers.{signed_relates, signed_selects}
use Rattle.bsi_rows.specs.Answers.{columns_of_pred, missing_of}
use Rattle.bsi_rows.specs.Rows.{holds}
use Rattle.bsi_table.specs.Encoded.{row_in}
use Rattle.bsi_rows.proofs.Missing.{none_missing_first, none_missing_second, there}
use Rattle.bsi_table.proofs.Parts.{parts_of}
use Rattle.bsi_table.proofs.Selecting.{entry_read, joined_bit, saved_before, saved_last, turned_bit}
use Rattle.bsi_table.proofs.selection.+narrow.Goals as goal

pub returns-in-Compare-clause-rows : goal.returns-in-Compare-clause-rows
returns-in-Compare-clause-rows t c = λ p below row.
    let columns = c.args.columns.now in
    let r : ℕ = 64 * c.args.at + p in
    let column = c.index-columns-c.result in
    let within = there (length columns) c.in-Compare.c (ap (λ q. missing_of (length columns) (columns_of_pred q)) (sym c.in-Compare.is) ∙ c.requires.there) in
    let read : SFits w128 c.in-Compare.constant = search rules in
    c.and_compare.ensures p below
    ∙ ap (λ k. bit_of c.args.span.now p && signed_selects c.in-Compare.op k (get_or (shifted_entries column) r None)) (to_z-of_z read)
    ∙ ap (λ e. bit_of c.args.span.now p && signed_selects c.in-Compare.op c.in-Compare.constant e) (entry_read columns c.in-Compare.c column within c.index-columns-c.is r)
    ∙ ap (λ q. bit_of c.args.span.now p && holds q (row_in columns r)) (sym c.in-Compare.is)

pub returns-in-Columns-clause-rows : goal.returns-in-Columns-clause-rows
returns-in-Columns-clause-rows t c = λ p below row.
    let columns = c.args.columns.now in
    let r : ℕ = 64 * c.args.at + p in
    let a = c.in-Columns.first in
    let b = c.in-Columns.second in
    let one = c.index-columns-first.result in
    let two = c.index-columns-second.result in
    let none = ap (λ q. missing_of (length columns) (columns_of_pred q)) (sym c.in-Columns.is) ∙ c.requires.there in
    let first = there (length columns) a (none_missing_first (length columns) (a ∷ []) (b ∷ []) none) in
    let second = there (length columns) b (none_missing_second (length columns) (a ∷ []) (b ∷ []) none) in
    c.and_compare_columns.ensures p below
    ∙ ap₂ (λ x y. bit_of c.args.span.now p && signed_relates c.in-Columns.op x y)
    (entry_read columns a one first c.index-columns-first.is r) (entry_read columns b two second c.index-columns-second.is r)
    ∙ ap (λ q. bit_of c.args.span.now p && holds q (row_in columns r)) (sym c.in-Columns.is)

pub returns-in-Null-clause-rows : goal.returns-in-Null-clause-rows
returns-in-Null-clause-rows t c = λ p below row.
    let columns = c.args.columns.now in
    let r : ℕ = 64 * c.args.at + p in
    let column = c.index-columns-c-in-Null.result in
    let within = there (length columns) c.in-Null.c (ap (λ q. missing_of (length columns) (columns_of_pred q)) (sym c.in-Null.is) ∙ c.requires.there) in
    c.and_nulls.ensures p below
    ∙ ap (λ e. bit_of c.args.span.now p && is_none e) (entry_read columns c.in-Null.c column within c.index-columns-c-in-Null.is r)
    ∙ ap (λ q. bit_of c.args.span.now p && holds q (row_in columns r)) (sym c.in-Null.is)

pub narrow-requires : goal.narrow-requires
narrow-requires t c =
    let columns = length c.args.columns.now in
    let none = none_missing_first columns (columns_of_pred c.in-Both.first.value) (columns_of_pred c.in-Both.second.value) (ap (λ p. missing_of columns (columns_of_pred p)) (sym c.in-Both.is) ∙ c.requires.there) in
    (omega (arith, c.decreases, ap parts_of c.in-Both.is, ap parts_of c.deref.ensures), (c.requires.few, (c.requires.within, (c.requires.even, ap (λ p. missing_of columns (columns_of_pred p)) c.deref.ensures ∙ none))))

pub narrow-requires-then-has_row : goal.narrow-requires-then-has_row
narrow-requires-then-has_row t c =
    let columns = length c.args.columns.now in
    let none = none_missing_second columns (columns_of_pred c.in-Both.first.value) (columns_of_pred c.in-Both.second.value) (ap (λ p. missing_of columns (columns_of_pred p)) (sym c.in-Both.is) ∙ c.requires.there) in
    (omega (arith, c.decreases, ap parts_of c.in-Both.is, ap parts_of c.deref-then-has_row.ensures), (omega (arith, c.requires.few, c.narrow.auto.span), (omega (arith, c.requires.within, c.narrow.auto.span), (c.requires.even, ap (λ p. missing_of columns (columns_of_pred p)) c.deref-then-has_row.ensures ∙ none))))

pub narrow-requires-in-Either : goal.narrow-requires-in-Either
narrow-requires-in-Either t c =
    let columns = length c.args.columns.now in
    let none = none_missing_first columns (columns_of_pred c.in-Either.first.value) (columns_of_pred c.in-Either.second.value) (ap (λ p. missing_of columns (columns_of_pred p)) (sym c.in-Either.is) ∙ c.requires.there) in
    (omega (arith, c.decreases, ap parts_of c.in-Either.is, ap parts_of c.deref-in-Either.ensures), (c.requires.few, (c.requires.within, (c.requires.even, ap (λ p. missing_of columns (columns_of_pred p)) c.deref-in-Either.ensures ∙ none))))

pub narrow-requires-in-Either-2 : goal.narrow-requires-in-Either-2
narrow-requires-in-Either-2 t c =
    let columns = length c.args.columns.now in
    let none = none_missing_second columns (columns_of_pred c.in-Either.first.value) (columns_of_pred c.in-Either.second.value) (ap (λ p. missing_of columns (columns_of_pred p)) (sym c.in-Either.is) ∙ c.requires.there) in
    (omega (arith, c.decreases, ap parts_of c.in-Either.is, ap parts_of c.deref-in-Either-2.ensures), (omega (arith, c.requires.few, c.narrow-in-Either.auto.span, c.swap_top.auto.span), (omega (arith, c.requires.within, c.narrow-in-Either.auto.span, c.swap_top.auto.span), (c.requires.even, ap (λ p. missing_of columns (columns_of_pred p)) c.deref-in-Either-2.ensures ∙ none))))

-- the rows of either part, of those that the span had
pub returns-in_ok-narrow-in-Either-2-clause-rows : goal.returns-in_ok-narrow-in-Either-2-clause-rows
returns-in_ok-narrow-in-Either-2-clause-rows t c = λ p below row.
    let s = c.args.stack.now.items in
    let span = c.args.span.now in
    let entries = row_in c.args.columns.now (64 * c.args.at + p) in
    let first = c.narrow-in-Either.new.span in
    let second = c.narrow-in-Either-2.new.span in
    let first_long : length first ≡ length span = c.narrow-in-Either.auto.span in
    let saved : c.narrow-in-Either.new.stack.items ≡ s ++ span = c.in_ok-narrow-in-Either.ensures.stack ∙ c.in_ok-extend_from_slice-in-Either.ensures.items in
    let back : c.swap_top.new.span ≡ span = c.swap_top.ensures.span ∙ saved_last s span c.narrow-in-Either.new.stack.items (length first) saved first_long in
    let encoded : c.narrow-in-Either-2.new.stack.items ≡ s ++ first =
    c.in_ok-narrow-in-Either-2.ensures.stack ∙ c.swap_top.ensures.stack ∙ ap (λ w. w ++ first) (saved_before s span c.narrow-in-Either.new.stack.items (length first) saved first_long) in
    let second_long : length second ≡ length first = omega (arith, c.narrow-in-Either-2.auto.span, ap length back, first_long) in
    ap (λ ws. bit_of ws p) c.or_top.ensures.span
    ∙ ap (λ ws. bit_of (zip2 bit_or second ws) p) (saved_last s first c.narrow-in-Either-2.new.stack.items (length second) encoded second_long)
    ∙ joined_bit span first second p (holds c.deref-in-Either.result.now entries) (holds c.deref-in-Either-2.result.now entries) second_long (omega (arith, below, second_long, first_long))
    (c.in_ok-narrow-in-Either.ensures.rows p below row)
    (c.in_ok-narrow-in-Either-2.ensures.rows p (omega (arith, below, ap length back)) row ∙ ap (λ ws. bit_of ws p && holds c.deref-in-Either-2.result.now entries) back)
    ∙ ap₂ (λ a b. bit_of span p && (holds a entries || holds b entries)) c.deref-in-Either.ensures c.deref-in-Either-2.ensures
    ∙ ap (λ q. bit_of span p && holds q entries) (sym c.in-Either.is)

-- the rows that the part left out
pub returns-in_ok-narrow-in-Not-clause-rows : goal.returns-in_ok-narrow-in-Not-clause-rows
returns-in_ok-narrow-in-Not-clause-rows t c = λ p below row.
    let s = c.args.stack.now.items in
    let span = c.args.span.now in
    let entries = row_in c.args.columns.now (64 * c.args.at + p) in
    let encoded = c.narrow-in-Not.new.span in
    let long : length encoded ≡ length span = c.narrow-in-Not.auto.span in
    let saved : c.narrow-in-Not.new.stack.items ≡ s ++ span = c.in_ok-narrow-in-Not.ensures.stack ∙ c.in_ok-extend_from_slice-in-Not.ensures.items in
    ap (λ ws. bit_of ws p) c.not_top.ensures.span
    ∙ ap (λ ws. bit_of (zip2 bit_xor encoded ws) p) (saved_last s span c.narrow-in-Not.new.stack.items (length encoded) saved long)
    ∙ turned_bit span encoded p (holds c.deref-in-Not.result.now entries) long (omega (arith, below, long)) (c.in_ok-narrow-in-Not.ensures.rows p below row)
    ∙ ap (λ q. bit_of span p && not (holds q entries)) c.deref-in-Not.ensures
    ∙ ap (λ q. bit_of span p && holds q entries) (sym c.in-Not.is)
