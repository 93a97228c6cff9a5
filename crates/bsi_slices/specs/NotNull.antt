-- The flag beside a not-null bitmap: whether any row may be null (`IsNullFlag`).
use Rattle.std.specs.Prelude.{◌≡◌, Bool, true, List, All, IsFalse}

-- the flag says whether there may be a null: if false, each row has a number
abbrev pub IsNullFlag : Bool → List Bool → Type 0
IsNullFlag has_null bits = IsFalse has_null → All (λ b. b ≡ true) bits
