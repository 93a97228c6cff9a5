-- For which of several reasons a list of bases is refused: the first that applies (`refusal`).
use Rattle.std.specs.Prelude.{◌≡◌, ℕ, Bool, ◌||◌, List, length, Option, Some, None, position, sum, nat_eq, nat_lt, if◌then◌else◌}
use Rattle.bsi_digits.specs.declared.bases_error.BasesError.{BasesError}
use Rattle.bsi_digits.specs.declared.bases_error.BasesError.TheVariants.{Empty, TooMany, BaseOutOfRange, TooWide, ProductTooLarge}
use Rattle.bsi_digits.specs.Digits.{max_base, max_bases, max_size, max_sum, min_base, product}

-- the base is out of range
abbrev pub is_bad_base : ℕ → Bool
is_bad_base b = nat_lt b min_base || nat_lt max_base b

-- the first refusal of a list of bases, given the index of its first base that is out of range
abbrev pub refusal_at : Option ℕ → List ℕ → Option BasesError
refusal_at (Some at) bs = Some (BaseOutOfRange at)
refusal_at None bs =
    if nat_lt max_sum (sum bs) then Some TooWide
    else if nat_lt max_size (product bs) then Some ProductTooLarge
    else None

-- the first refusal that applies to a list of bases as written
abbrev pub refusal : List ℕ → Option BasesError
refusal bs =
    if nat_eq (length bs) 0 then Some Empty
    else if nat_lt max_bases (length bs) then Some TooMany
    else refusal_at (position is_bad_base bs) bs

-- the error is the first refusal that applies, or if none applies, that memory was refused
abbrev pub IsFirstOr : {E : Type 0} → E → Option E → E → Type 0
IsFirstOr no_memory (Some first) e = e ≡ first
IsFirstOr no_memory None e = e ≡ no_memory
