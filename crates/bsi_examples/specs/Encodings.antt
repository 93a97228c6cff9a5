-- What a contract sees of a component in one of two encodings (`EitherComponent`), and which encoding suits its base.
use Rattle.std.specs.Prelude.{◌≡◌, ℕ, Bool, true, false, List, nat_le}
use Rattle.bsi_examples.specs.declared.encoding.EitherComponent.{EitherComponent}
use Rattle.bsi_examples.specs.declared.encoding.EitherComponent.TheVariants.{Range, Equality}

abbrev pub inner_base : EitherComponent → ℕ
inner_base (Range c) = c.base
inner_base (Equality c) = c.base

abbrev pub inner_digits : EitherComponent → List ℕ
inner_digits (Range c) = c.digits
inner_digits (Equality c) = c.digits

-- for how many more digits there is room
abbrev pub inner_room : EitherComponent → ℕ
inner_room (Range c) = c.room
inner_room (Equality c) = c.room

abbrev pub is_range : EitherComponent → Bool
is_range (Range c) = true
is_range (Equality c) = false

-- the greatest base of a range encoded component; past this base a component is equality encoded
abbrev pub max_range_base : ℕ
max_range_base = 16

-- the encoding suits the base
abbrev pub Suits : EitherComponent → Type 0
Suits inner = is_range inner ≡ nat_le (inner_base inner) max_range_base
