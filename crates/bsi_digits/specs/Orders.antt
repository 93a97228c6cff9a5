-- Orders of any values, given by the tests of two values (`Order`), and by them comparisons, the least, the greatest
-- and the lower median.
use Rattle.std.specs.Prelude.{◌≡◌, ◌*◌, ◌<◌, ◌≤◌, Bool, false, not, List, [], Option, Some, None, MatchOption, All, Contains, IsTrue, length, count_by}
use Rattle.std.specs.List.{filter_map, items_where_true}
use Rattle.bsi_digits.specs.declared.op.Op.{Op}
use Rattle.bsi_digits.specs.declared.op.Op.TheVariants.{Eq, Ne, Lt, Le, Gt, Ge}

-- the tests of an order: the first value is the same as the second, below it, at most it
pub record Order (A : Type 0) : Type 0 where
  pub same : A → A → Bool
  pub below : A → A → Bool
  pub at_most : A → A → Bool

-- two values compare as the operator says
abbrev pub compares_by : {A : Type 0} → Order A → Op → A → A → Bool
compares_by order Eq x y = order.same x y
compares_by order Ne x y = not (order.same x y)
compares_by order Lt x y = order.below x y
compares_by order Le x y = order.at_most x y
compares_by order Gt x y = order.below y x
compares_by order Ge x y = order.at_most y x

-- the entry is a value, and compares with the constant as the operator says
abbrev pub selects_by : {A : Type 0} → Order A → Op → A → Option A → Bool
selects_by order op constant None = false
selects_by order op constant (Some x) = compares_by order op x constant

-- the values at the rows of a selection, in order of the rows, without the nulls
abbrev pub values_at : {A : Type 0} → List Bool → List (Option A) → List A
values_at selection entries = filter_map (λ e. e) (items_where_true selection entries)

-- the value is a least one: no value is below the least
pub record IsLeastBy {A : Type 0} (order : Order A) (values : List A) (m : A) : Type 0 where
  pub member : Contains values m
  pub none_below : All (λ x. IsTrue (order.at_most m x)) values

-- the value is a greatest one: no value is above the greatest
pub record IsGreatestBy {A : Type 0} (order : Order A) (values : List A) (m : A) : Type 0 where
  pub member : Contains values m
  pub none_above : All (λ x. IsTrue (order.at_most x m)) values

-- the lower median: at least half of the values are at most this one, and fewer than half are below it
pub record IsLowerMedianBy {A : Type 0} (order : Order A) (values : List A) (m : A) : Type 0 where
  pub member : Contains values m
  pub half : length values ≤ 2 * count_by (λ x. order.at_most x m) values
  pub fewer_below : 2 * count_by (λ x. order.below x m) values < length values

-- the answer is a value as `Is` describes, or none if there are no values
abbrev pub IsNoneOr : {A : Type 0} → (List A → A → Type 0) → List A → Option A → Type 0
IsNoneOr Is values answer = MatchOption answer (values ≡ []) (Is values)
