-- Booleans: what the bytes of a field spell, and how they are written.
use Rattle.std.specs.Prelude.{Bool, Option, Some, None, if◌then◌else◌, ℤ, pos, int_lt}
use Rattle.std.specs.Str.{bytes_eq}
use Rattle.bsi_rows.specs.Fields.{Field}
use Rattle.bsi_kinds.specs.declared.boolean.BooleanForm.{BooleanForm}

-- The number of a word: 1 for true, and 0 for false.
abbrev pub boolean_number : BooleanForm → Field → Option ℤ
boolean_number form text =
    if bytes_eq text form.yes then Some (pos 1) else (if bytes_eq text form.no then Some (pos 0) else None)

-- The number stands for true.
abbrev pub is_true : ℤ → Bool
is_true n = int_lt (pos 0) n

-- The word of a number.
abbrev pub boolean_text : BooleanForm → ℤ → Field
boolean_text form n = if is_true n then form.yes else form.no
