-- The order of entries.
use Rattle.std.proofs.Common.{◌≡◌, Bool, true, false, true≢false, List, [], ◌∷◌, ◌++◌, ℤ, Some, None, Option, refl, ap, sym, ◌∙◌, arith}
use Rattle.std.specs.Prelude.{◌&&◌, not, int_le, int_lt}
use Rattle.std.specs.List.{list_all}
use Rattle.std.proofs.lemmas.Bool.Decides.{nat_tests}
use Rattle.std.proofs.lemmas.Int.{ints}
use Rattle.std.proofs.lemmas.List.Folds.{list_all-append}
use Rattle.bsi_aggregates.specs.Entries.{comes_before, is_entry}

same_number : (x y : ℤ) → (int_le x y && int_le y x) ≡ true → x ≡ y
same_number x y same = grind (arith, ints, nat_tests)

itself : (x : ℤ) → (int_le x x && int_le x x) ≡ true
itself x = grind (arith, ints, nat_tests)

not_below_itself : (x : ℤ) → int_lt x x ≡ false
not_below_itself x = grind (arith, ints, nat_tests)

above : (x y : ℤ) → not (int_lt y x) ≡ true → (int_le y x && int_le x y) ≡ false → int_lt x y ≡ true
above x y not_before other = grind (arith, ints, nat_tests)

-- an entry is the one that it is compared with
pub entry_is : (e x : Option ℤ) → is_entry e x ≡ true → x ≡ e
entry_is None None is = refl
entry_is None (Some x) is = absurd (true≢false (sym is))
entry_is (Some e) None is = absurd (true≢false (sym is))
entry_is (Some e) (Some x) is = ap Some (same_number x e is)

pub is_itself : (e : Option ℤ) → is_entry e e ≡ true
is_itself None = refl
is_itself (Some e) = itself e

-- no entry comes before itself
pub not_before_itself : (e : Option ℤ) → comes_before e e ≡ false
not_before_itself None = refl
not_before_itself (Some e) = not_below_itself e

-- of two entries that differ one comes before the other
pub behind : (e x : Option ℤ) → not (comes_before x e) ≡ true → is_entry e x ≡ false → comes_before e x ≡ true
behind None None not_before other = absurd (true≢false other)
behind None (Some x) not_before other = absurd (true≢false (sym not_before))
behind (Some e) None not_before other = refl
behind (Some e) (Some x) not_before other = above e x not_before other

-- an entry comes after each of these
abbrev pub comes_after : List (Option ℤ) → Option ℤ → Bool
comes_after keys x = list_all (λ key. comes_before key x) keys

both_true : (a : Bool) → (a && true) ≡ a
both_true true = refl
both_true false = refl

-- and after one more
pub after_more : (keys : List (Option ℤ)) (e x : Option ℤ) → comes_after (keys ++ e ∷ []) x ≡ (comes_after keys x && comes_before e x)
after_more keys e x =
    list_all-append (λ key. comes_before key x) keys (e ∷ []) ∙ ap (λ b. comes_after keys x && b) (both_true (comes_before e x))
