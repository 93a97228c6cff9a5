use Rattle.std.proofs.Common.{◌≡◌, ◌+◌, ◌*◌, ◌&&◌, ℕ, false, not, get_or, refl, ap, ◌∙◌}
use Rattle.std.specs.Prelude.{None, Option, Some, is_none, is_some}
use Rattle.bsi_bits.specs.Packed.{bit_of}
use Rattle.bsi_columns.specs.AnyColumns.{any_entries}
use Rattle.bsi_columns.proofs.EntryReads.{map_read}
use Rattle.bsi_columns.proofs.any.AnyColumn.and_nulls.Goals as goal

no_number : (e : Option ℕ) → not (is_some e) ≡ is_none e
no_number None = refl
no_number (Some x) = refl

pub returns : goal.returns
returns c = λ p below.
    let r = 64 * c.args.at + p in
    let entries = any_entries c.args.self.now in
    c.and_not_assign.ensures.bits p below
    ∙ ap (◌&&◌ (bit_of c.args.span.now p))
    (ap (λ bits. not (get_or bits r false)) c.not_null.ensures ∙ ap not (map_read is_some entries r) ∙ no_number (get_or entries r None))
