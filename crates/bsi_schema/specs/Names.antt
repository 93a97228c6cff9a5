-- Which texts may be names of columns, as lists of bytes (`is_name`): no word of predicates is one (`is_word`).
use Rattle.std.specs.Prelude.{ℕ, Bool, false, ◌&&◌, ◌||◌, ◌==◌, not, nat_le, List, [], ◌∷◌, length, codes}
use Rattle.std.specs.Char.{is_ascii_digit, is_ascii_lowercase}
use Rattle.std.specs.List.{list_all}
use Rattle.std.specs.Str.{bytes_eq}

-- a lower-case letter, a digit or '_'
abbrev pub is_name_byte : ℕ → Bool
is_name_byte byte = is_ascii_lowercase byte || is_ascii_digit byte || (byte == 95)

-- the first byte is a lower-case letter
abbrev pub begins_lower : List ℕ → Bool
begins_lower [] = false
begins_lower (first ∷ rest) = is_ascii_lowercase first

-- a word that predicates are written with
abbrev pub is_word : List ℕ → Bool
is_word text =
    bytes_eq text (codes "all") || bytes_eq text (codes "null") || bytes_eq text (codes "and")
    || bytes_eq text (codes "or") || bytes_eq text (codes "not")

-- the most bytes of a name
abbrev pub max_name_bytes : ℕ
max_name_bytes = 32

-- the text is a name
abbrev pub is_name : List ℕ → Bool
is_name text = begins_lower text && nat_le (length text) max_name_bytes && list_all is_name_byte text && not (is_word text)
