-- A field of a record, as the list of its bytes.
use Rattle.std.specs.Prelude.{ℕ, List}

-- The bytes of a field.
abbrev pub Field : Type 0
Field = List ℕ
