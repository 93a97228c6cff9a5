-- Whether numbers of two kinds stand for the same values, as a test.
use Rattle.std.proofs.Common.{◌≡◌, ◌<◌, ℕ, Bool, arith, length, nat_lt, true, false, not, ◌&&◌, ◌==◌, if◌then◌else◌, ap, refl, subst}
use Rattle.std.specs.Bool.{Decides}
use Rattle.std.specs.Cmp.Lexicographic.{pointwise_decides}
use Rattle.std.proofs.lemmas.Bool.Decides.{nat_tests, same_from_decides, Decides-eqb}
use Rattle.std.proofs.lemmas.Slice.Eq.{bytes_eq-Decides}
use Rattle.bsi_kinds.specs.Times.{unit_places}
use Rattle.bsi_kinds.specs.declared.kind.Kind.{Kind}
use Rattle.bsi_kinds.specs.declared.kind.Kind.TheVariants.{Boolean, Date, Decimal, Rounded, Text, Time}
use Rattle.bsi_kinds.specs.declared.time.TimeUnit.{TimeUnit}
use Rattle.bsi_kinds.specs.declared.time.TimeUnit.TheVariants.{Seconds, Milliseconds, Microseconds}
use Rattle.bsi_logical.specs.Entries.{have_same_values, HaveSameValues}
use Rattle.bsi_logical.specs.Logical.{kind_of, Logical}
use Rattle.bsi_logical.specs.Meanings.{are_alike}

-- a unit is known by its places
same_unit : (u v : TimeUnit) → (unit_places u == unit_places v) ≡ true → u ≡ v
same_unit Seconds Seconds is = refl
same_unit Seconds Milliseconds is = cc
same_unit Seconds Microseconds is = cc
same_unit Milliseconds Seconds is = cc
same_unit Milliseconds Milliseconds is = refl
same_unit Milliseconds Microseconds is = cc
same_unit Microseconds Seconds is = cc
same_unit Microseconds Milliseconds is = cc
same_unit Microseconds Microseconds is = refl

same_truth : (p q : Bool) → (if p then q else not q) ≡ true → p ≡ q
same_truth true true is = refl
same_truth true false is = cc
same_truth false true is = cc
same_truth false false is = refl

own_truth : (p : Bool) → (if p then p else not p) ≡ true
own_truth true = refl
own_truth false = refl

both : (a b : Bool) → (a && b) ≡ true → (a ≡ true) × (b ≡ true)
both true b is = (refl, is)
both false b is = cc

joint : (a b : Bool) → a ≡ true → b ≡ true → (a && b) ≡ true
joint a b one two = rw (one, two) refl

times_decide : (u v : TimeUnit) (p q : Bool)
    → Decides ((unit_places u == unit_places v) && (if p then q else not q)) ((u ≡ v) × (p ≡ q))
times_decide u v p q = (
  λ is. let parts = both (unit_places u == unit_places v) (if p then q else not q) is in (same_unit u v parts.0, same_truth p q parts.1),
  λ is. joint (unit_places u == unit_places v) (if p then q else not q)
      ((Decides-eqb (unit_places u) (unit_places v)).1 (ap unit_places is.0))
      (subst (λ r. (if p then r else not r) ≡ true) is.1 (own_truth p)),
)

pub values_decide : (a b : Kind) → Decides (have_same_values a b) (HaveSameValues a b)
values_decide (Decimal p) (Decimal q) = Decides-eqb p q
values_decide (Decimal p) (Rounded q) = Decides-eqb p q
values_decide (Rounded p) (Decimal q) = Decides-eqb p q
values_decide (Rounded p) (Rounded q) = Decides-eqb p q
values_decide (Date f) (Date g) = (λ is. tt, λ is. refl)
values_decide (Time f) (Time g) = times_decide f.unit g.unit f.utc g.utc
values_decide (Boolean f) (Boolean g) = (λ is. tt, λ is. refl)
values_decide (Text a) (Text b) = pointwise_decides bytes_eq-Decides a b
values_decide first second = (λ is. cc, λ is. absurd is)

-- of two columns
pub columns_alike : (l : Logical) (a b : ℕ) (r : Bool) → a < length l.schema.columns → b < length l.schema.columns
    → Decides r (HaveSameValues (kind_of l a) (kind_of l b)) → r ≡ are_alike l a b
columns_alike l a b r one two is =
    let first : nat_lt a (length l.schema.columns) ≡ true = grind (arith, nat_tests, one) in
    let second : nat_lt b (length l.schema.columns) ≡ true = grind (arith, nat_tests, two) in
    rw (first, second) (same_from_decides r (have_same_values (kind_of l a) (kind_of l b)) is (values_decide (kind_of l a) (kind_of l b)))
