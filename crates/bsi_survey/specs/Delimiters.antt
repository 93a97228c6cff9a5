-- The byte between the fields of a text: of four, the one that stands most often in its first line outside quotes.
use Rattle.std.specs.Prelude.{ℕ, ◌+◌, ◌==◌, ◌||◌, Bool, false, not, nat_lt, if◌then◌else◌, List, [], ◌∷◌}

-- A line feed or a carriage return.
abbrev pub is_line_end : ℕ → Bool
is_line_end byte = (byte == 10) || (byte == 13)

-- How often a byte stands in a text outside quotes, up to the first line end outside quotes. The text may begin within
-- quotes.
abbrev pub bare_count : ℕ → Bool → List ℕ → ℕ
bare_count byte quoted [] = 0
bare_count byte quoted (first ∷ rest) =
    if first == 34 then bare_count byte (not quoted) rest
    else (if quoted then bare_count byte quoted rest
    else (if is_line_end first then 0
    else (if first == byte then bare_count byte quoted rest + 1 else bare_count byte quoted rest)))

-- Of two bytes the one that stands more often, or the first if both stand as often.
abbrev pub more_often : List ℕ → ℕ → ℕ → ℕ
more_often text first second =
    if nat_lt (bare_count first false text) (bare_count second false text) then second else first

-- The first of comma, semicolon, tab and vertical bar that stands most often: a comma, if none does.
abbrev pub delimiter_of : List ℕ → ℕ
delimiter_of text = more_often text (more_often text (more_often text 44 59) 9) 124
