-- The types `Bytes` and `KnownBytes`: the bytes of a stream, or none where a contract does not know them.
use Rattle.std.specs.Prelude.{ℕ, List, Option}

-- A text, a line, a name or a file: its bytes, each below 256.
abbrev pub Bytes : Type 0
Bytes = List ℕ

-- The bytes that a reader has left or a writer holds, if they are known.
abbrev pub KnownBytes : Type 0
KnownBytes = Option Bytes
