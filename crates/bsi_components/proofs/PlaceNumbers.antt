-- The numbers whose binary places stand in bitmaps, and tests of them place by place.
use Rattle.std.proofs.Common.{◌≡◌, ℕ, zero, suc, ◌+◌, ◌-◌, ◌*◌, ◌/◌, ◌%◌, ◌^◌, ◌<◌, ◌≤◌, Bool, true, false, cond, ◌&&◌, ◌||◌, not, nat_lt, List, [], ◌∷◌, ◌++◌, length, get_or, map, replicate, inl, inr, sym, ◌∙◌, ap, ap₂, refl, arith}
use Rattle.std.specs.Prelude.{◌==◌, nat_le, bit_and, count_by, if◌then◌else◌}
use Rattle.std.specs.Int.{bit_at}
use Rattle.std.specs.List.{range_with_len}
use Rattle.std.specs.Simd.Lanes.{zip2}
use Rattle.std.proofs.lemmas.Bool.{cases_eq, cases_lt}
use Rattle.std.proofs.lemmas.Bool.Decides.{nat_tests}
use Rattle.std.proofs.lemmas.Nat.{div-add-mod', mod-mul-add, mod-pow-add, mod_below, pow_pos, pow-add}
use Rattle.std.proofs.lemmas.Nat.Bits.{bit_at-suc, shr_and_one}
use Rattle.std.proofs.lemmas.List.{get_or_past, length-map, get_or-map, get_or_append_left, get_or-append_right}
use Rattle.std.proofs.Math.Seq.{get_or-append_seam}
use Rattle.std.proofs.lemmas.List.FromFn.{length-map-range_with_len, get_or-map-range_with_len, fill_by_all}
use Rattle.std.proofs.lemmas.List.Sums.{sum_by-cons}
use Rattle.std.proofs.Math.Nat.{mod-eq_of_lt}
use Rattle.bsi_bits.specs.BitList.{BitList, without}
use Rattle.bsi_bits.specs.BitLists.{bits_at, no_bits}
use Rattle.bsi_kernels.specs.Places.{has_place, IsEncoded}
use Rattle.bsi_kernels.proofs.DigitMaps.{zip2_maps, map_map, same_tests, map_same}
use Rattle.bsi_components.specs.PlaceNumbers.{number_in, numbers_in, AreLevel, HasNumberPastBase}

abbrev bit_value : Bool → ℕ
bit_value bit = if bit then 1 else 0

two_pow : (i : ℕ) → 2 ^ (suc i) ≡ 2 * 2 ^ i
two_pow i = let e : suc i ≡ 1 + i = omega arith in ap (λ k. 2 ^ k) e ∙ pow-add 2 1 i

small_bit : (bit : Bool) → bit_value bit ≤ 1
small_bit true = omega arith
small_bit false = omega arith

-- it is below two to the power of the number of bitmaps
pub number_below : (places : List BitList) (r : ℕ) → number_in places r < 2 ^ length places
unfolding number_in
number_below [] r = omega arith
number_below (s ∷ places) r = omega (arith, two_pow (length places), number_below places r, small_bit (get_or s.bits r false))

-- binary place k of a number is the bit in bitmap k
pub number_place : (places : List BitList) (r k : ℕ) → k < length places → has_place k (number_in places r) ≡ get_or (bits_at places k) r false
unfolding number_in
number_place [] r k within = absurd (omega arith)
number_place (s ∷ places) r zero within = lowest (get_or s.bits r false) (number_in places r)
  where
    lowest : (b : Bool) (m : ℕ) → (bit_at (bit_value b + 2 * m) 0 == 1) ≡ b
    lowest true m = grind (arith, nat_tests)
    lowest false m = grind (arith, nat_tests)
number_place (s ∷ places) r (suc k) within =
    ap (λ x. x == 1) (bit_at-suc (bit_value (get_or s.bits r false) + 2 * number_in places r) k ∙ ap (λ x. bit_at x k) (half (get_or s.bits r false) (number_in places r)))
    ∙ number_place places r k (omega arith)
  where
    half : (b : Bool) (m : ℕ) → (bit_value b + 2 * m) / 2 ≡ m
    half b m = omega (arith, small_bit b)

-- there are as many numbers as bits
pub length-numbers_in : (places : List BitList) → length (numbers_in places) ≡ length (bits_at places 0)
unfolding numbers_in
length-numbers_in places = length-map-range_with_len (number_in places) 0 (length (bits_at places 0))

pub get_or-numbers_in : (places : List BitList) (r : ℕ) → r < length (bits_at places 0) → get_or (numbers_in places) r 0 ≡ number_in places r
unfolding numbers_in
get_or-numbers_in places r within = get_or-map-range_with_len (number_in places) 0 (length (bits_at places 0)) r r 0 within (omega arith)

pub numbers_below : (places : List BitList) (r : ℕ) → get_or (numbers_in places) r 0 < 2 ^ length places
numbers_below places r = elim (cases_lt r (length (bits_at places 0))) [
  | inl within ↦ omega (arith, get_or-numbers_in places r within, number_below places r)
  | inr past ↦ omega (arith, get_or_past (numbers_in places) r 0 (omega (arith, length-numbers_in places)), pow_pos (length places))
]

-- the bitmaps say the binary places of the numbers
pub places_are : (places : List BitList) → AreLevel places → IsEncoded has_place places (numbers_in places)
unfolding numbers_in
places_are places level = record {
  each = λ k within.
      let n = length (bits_at places 0) in
      fill_by_all (λ r. has_place k (number_in places r)) (bits_at places k) n false (level.even k within) (λ r below. sym (number_place places r k within))
      ∙ sym (maps_twice (number_in places) (has_place k) (range_with_len 0 n));
}
  where
    maps_twice : (f : ℕ → ℕ) (g : ℕ → Bool) (xs : List ℕ) → map g (map f xs) ≡ map (λ x. g (f x)) xs
    maps_twice f g [] = refl
    maps_twice f g (x ∷ xs) = ap (λ ys. g (f x) ∷ ys) (maps_twice f g xs)

-- ---- one more place

-- the lowest i + 1 places of a number
pub places_more : (n i : ℕ) → n % 2 ^ (i + 1) ≡ n % 2 ^ i + bit_value (has_place i n) * 2 ^ i
places_more n i =
    let e : i + 1 ≡ 1 + i = omega arith in
    let top : n % 2 ^ (1 + i) ≡ (bit_at n i) * 2 ^ i + n % 2 ^ i = mod-pow-add n 1 i in
    let d : bit_at n i ≡ bit_value (bit_at n i == 1) = value_is (bit_at n i) (omega arith) in
    ap (λ k. n % 2 ^ k) e ∙ top ∙ ap (λ b. b * 2 ^ i + n % 2 ^ i) d ∙ (let x : ℕ = bit_value (bit_at n i == 1) * 2 ^ i in omega arith)
  where
    value_is : (b : ℕ) → b < 2 → b ≡ bit_value (b == 1)
    value_is b small = elim (cases_eq b 1) [
      | inl one ↦ let t : (b == 1) ≡ true = grind (arith, nat_tests) in rw t one
      | inr other ↦ let t : (b == 1) ≡ false = grind (arith, nat_tests) in rw t (omega arith)
    ]

-- a number whose lowest places are all 0
pub no_place : (v n : ℕ) → ((k : ℕ) → k < n → has_place k v ≡ false) → v % 2 ^ n ≡ 0
no_place v zero off = omega arith
no_place v (suc n) off =
    let e : suc n ≡ n + 1 = omega arith in
    ap (λ k. v % 2 ^ k) e ∙ places_more v n
    ∙ (λ j. no_place v n (λ k within. off k (omega arith)) j + bit_value (off n (omega arith) j) * 2 ^ n) ∙ omega arith

-- numbers that have the same lowest places
pub same_places : (u v n : ℕ) → ((k : ℕ) → k < n → has_place k u ≡ has_place k v) → u % 2 ^ n ≡ v % 2 ^ n
same_places u v zero same = omega arith
same_places u v (suc n) same =
    let e : suc n ≡ n + 1 = omega arith in
    ap (λ k. u % 2 ^ k) e ∙ places_more u n
    ∙ (λ j. same_places u v n (λ k within. same k (omega arith)) j + bit_value (same n (omega arith) j) * 2 ^ n)
    ∙ sym (places_more v n) ∙ ap (λ k. v % 2 ^ k) (sym e)

-- a higher place decides over the lower ones
above_place : (t m p : ℕ) (c s : Bool) → t < p → m < p
    → nat_lt (t + bit_value c * p) (m + bit_value s * p) ≡ (if c then nat_lt t m && s else (nat_lt t m || s))
above_place t m p true true small below = grind (arith, nat_tests)
above_place t m p true false small below = grind (arith, nat_tests)
above_place t m p false true small below = grind (arith, nat_tests)
above_place t m p false false small below = grind (arith, nat_tests)

equal_place : (t m p : ℕ) (c s : Bool) → t < p → m < p
    → (m + bit_value s * p == t + bit_value c * p) ≡ ((m == t) && (if c then s else not s))
equal_place t m p true true small below = grind (arith, nat_tests)
equal_place t m p true false small below = grind (arith, nat_tests)
equal_place t m p false true small below = grind (arith, nat_tests)
equal_place t m p false false small below = grind (arith, nat_tests)

-- by the lowest k places: the number is above the constant
abbrev pub above_by : ℕ → ℕ → ℕ → Bool
above_by d k v = nat_lt (d % 2 ^ k) (v % 2 ^ k)

-- and the number is the constant
abbrev pub equal_by : ℕ → ℕ → ℕ → Bool
equal_by d k v = v % 2 ^ k == d % 2 ^ k

above_more : (d k v : ℕ) → above_by d (k + 1) v ≡ (if has_place k d then above_by d k v && has_place k v else (above_by d k v || has_place k v))
above_more d k v =
    (λ j. nat_lt (places_more d k j) (places_more v k j))
    ∙ above_place (d % 2 ^ k) (v % 2 ^ k) (2 ^ k) (has_place k d) (has_place k v) (mod_below d (2 ^ k) (pow_pos k)) (mod_below v (2 ^ k) (pow_pos k))

equal_more : (d k v : ℕ) → equal_by d (k + 1) v ≡ (equal_by d k v && (if has_place k d then has_place k v else not (has_place k v)))
equal_more d k v =
    (λ j. places_more v k j == places_more d k j)
    ∙ equal_place (d % 2 ^ k) (v % 2 ^ k) (2 ^ k) (has_place k d) (has_place k v) (mod_below d (2 ^ k) (pow_pos k)) (mod_below v (2 ^ k) (pow_pos k))

-- what one place does to the rows
abbrev pub above_stepped : Bool → List Bool → List Bool → List Bool
above_stepped is_one rows place = if is_one then zip2 ◌&&◌ rows place else zip2 ◌||◌ rows place

abbrev pub equal_stepped : Bool → List Bool → List Bool → List Bool
equal_stepped is_one rows place = if is_one then zip2 ◌&&◌ rows place else zip2 without rows place

module _ (d k : ℕ) (ns : List ℕ) where
  pub above_rows : (is_one : Bool) → has_place k d ≡ is_one → above_stepped is_one (map (above_by d k) ns) (map (has_place k) ns) ≡ map (above_by d (k + 1)) ns
  above_rows true is =
      zip2_maps ◌&&◌ (above_by d k) (has_place k) ns
      ∙ map_same (λ v. above_by d k v && has_place k v) (above_by d (k + 1)) (λ v. sym (above_more d k v ∙ ap (λ b. if b then above_by d k v && has_place k v else (above_by d k v || has_place k v)) is)) ns
  above_rows false is =
      zip2_maps ◌||◌ (above_by d k) (has_place k) ns
      ∙ map_same (λ v. above_by d k v || has_place k v) (above_by d (k + 1)) (λ v. sym (above_more d k v ∙ ap (λ b. if b then above_by d k v && has_place k v else (above_by d k v || has_place k v)) is)) ns

  pub equal_rows : (is_one : Bool) → has_place k d ≡ is_one → equal_stepped is_one (map (equal_by d k) ns) (map (has_place k) ns) ≡ map (equal_by d (k + 1)) ns
  equal_rows true is =
      zip2_maps ◌&&◌ (equal_by d k) (has_place k) ns
      ∙ map_same (λ v. equal_by d k v && has_place k v) (equal_by d (k + 1)) (λ v. sym (equal_more d k v ∙ ap (λ b. equal_by d k v && (if b then has_place k v else not (has_place k v))) is)) ns
  equal_rows false is =
      zip2_maps without (equal_by d k) (has_place k) ns
      ∙ map_same (λ v. without (equal_by d k v) (has_place k v)) (equal_by d (k + 1)) (λ v. sym (equal_more d k v ∙ ap (λ b. equal_by d k v && (if b then has_place k v else not (has_place k v))) is)) ns

-- by no place no number is above the constant, and each is the constant
pub none_above : (d n : ℕ) (ns : List ℕ) → length ns ≡ n → replicate n false ≡ map (above_by d 0) ns
none_above d zero [] same = refl
none_above d (suc n) [] same = absurd (omega arith)
none_above d zero (v ∷ ns) same = absurd (omega arith)
none_above d (suc n) (v ∷ ns) same = ap₂ ◌∷◌ (no_test d v) (none_above d n ns (omega arith))
  where
    no_test : (d v : ℕ) → false ≡ above_by d 0 v
    no_test d v = grind (arith, nat_tests)

pub all_equal : (d n : ℕ) (ns : List ℕ) → length ns ≡ n → replicate n true ≡ map (equal_by d 0) ns
all_equal d zero [] same = refl
all_equal d (suc n) [] same = absurd (omega arith)
all_equal d zero (v ∷ ns) same = absurd (omega arith)
all_equal d (suc n) (v ∷ ns) same = ap₂ ◌∷◌ (each_test d v) (all_equal d n ns (omega arith))
  where
    each_test : (d v : ℕ) → true ≡ equal_by d 0 v
    each_test d v = grind (arith, nat_tests)

-- by all places
module _ (d n : ℕ) (ns : List ℕ) (small : d < 2 ^ n) (below : (k : ℕ) → get_or ns k 0 < 2 ^ n) where
  pub above_all : map (above_by d n) ns ≡ map (nat_lt d) ns
  above_all = same_tests (above_by d n) (nat_lt d) (2 ^ n - 1) (λ v most. (λ j. nat_lt (mod-eq_of_lt small j) (mod-eq_of_lt (fits v most) j))) ns (λ k. omega (arith, below k))
    where
      fits : (v : ℕ) → v ≤ 2 ^ n - 1 → v < 2 ^ n
      fits v most = omega (arith, pow_pos n)

  pub equal_all : map (equal_by d n) ns ≡ map (λ v. v == d) ns
  equal_all = same_tests (equal_by d n) (λ v. v == d) (2 ^ n - 1) (λ v most. (λ j. mod-eq_of_lt (fits v most) j == mod-eq_of_lt small j)) ns (λ k. omega (arith, below k))
    where
      fits : (v : ℕ) → v ≤ 2 ^ n - 1 → v < 2 ^ n
      fits v most = omega (arith, pow_pos n)

-- rows that are not above the constant are below the next one
pub upto_are : (d : ℕ) (ns : List ℕ) → map not (map (nat_lt d) ns) ≡ map (λ v. nat_lt v (1 + d)) ns
upto_are d ns = map_map not (nat_lt d) ns ∙ map_same (λ v. not (nat_lt d v)) (λ v. nat_lt v (1 + d)) (λ v. turned d v) ns
  where
    turned : (d v : ℕ) → not (nat_lt d v) ≡ nat_lt v (1 + d)
    turned d v = grind (arith, nat_tests)

-- a place of the constant, as it is read
pub one_read : (c i : ℕ) → (bit_and (c / 2 ^ i) 1 == 1) ≡ has_place i c
one_read c i = ap (λ b. b == 1) (shr_and_one c i)

-- ---- bitmaps one after another

pub bits_pushed : (old new : List BitList) (rows : BitList) (f : ℕ → List Bool) (n : ℕ) → new ≡ old ++ rows ∷ [] → length old ≡ n
    → ((i : ℕ) → i < n → bits_at old i ≡ f i) → rows.bits ≡ f n → (i : ℕ) → i < n + 1 → bits_at new i ≡ f i
bits_pushed old new rows f n is long before here i below = elim (cases_eq i n) [
  | inl same ↦
      let last : i ≡ length old = omega arith in
      ap (λ bs. bits_at bs i) is ∙ ap (λ k. bits_at (old ++ rows ∷ []) k) last ∙ ap (λ b. b.bits) (get_or-append_seam old rows [] no_bits) ∙ here ∙ ap f (sym same)
  | inr apart ↦
      let early : i < n = omega arith in
      let within : i < length old = omega arith in
      ap (λ bs. bits_at bs i) is ∙ ap (λ b. b.bits) (get_or_append_left old (rows ∷ []) no_bits i within) ∙ before i early
]

-- the first of two lists, and the second
pub bits_left : (first second : List BitList) (i : ℕ) → i < length first → bits_at (first ++ second) i ≡ bits_at first i
bits_left first second i within = ap (λ b. b.bits) (get_or_append_left first second no_bits i within)

pub bits_right : (first second : List BitList) (n i : ℕ) → length first ≡ n → n ≤ i → bits_at (first ++ second) i ≡ bits_at second (i - n)
bits_right first second n i long from = ap (λ b. b.bits) (get_or-append_right first second n i no_bits long from)

-- ---- a row past the constant

count_split : (p : ℕ → Bool) (v : ℕ) (ns : List ℕ) → count_by (λ b. b) (map p (v ∷ ns)) ≡ cond (p v) 1 0 + count_by (λ b. b) (map p ns)
count_split p v ns = sum_by-cons (λ b. cond b 1 0) (p v) (map p ns)

none_step : (p : ℕ → Bool) (v : ℕ) (ns : List ℕ) (b : Bool) → p v ≡ b → count_by (λ b. b) (map p (v ∷ ns)) ≡ 0
    → (count_by (λ b. b) (map p ns) ≡ 0 → (k : ℕ) → k < length ns → p (get_or ns k 0) ≡ false)
    → (k : ℕ) → k < length (v ∷ ns) → p (get_or (v ∷ ns) k 0) ≡ false
none_step p v ns true is none rest k within = absurd (omega (arith, none, count_split p v ns, ap {B = ℕ} (λ b. cond b 1 0) is))
none_step p v ns false is none rest zero within = is
none_step p v ns false is none rest (suc k) within = rest (omega (arith, none, count_split p v ns)) k (omega arith)

-- where no row is counted, none passes
pub none_counted : (p : ℕ → Bool) (ns : List ℕ) → count_by (λ b. b) (map p ns) ≡ 0 → (k : ℕ) → k < length ns → p (get_or ns k 0) ≡ false
none_counted p [] none k within = absurd (omega arith)
none_counted p (v ∷ ns) none k within = none_step p v ns (p v) refl none (none_counted p ns) k within

one_step : (p : ℕ → Bool) (v : ℕ) (ns : List ℕ) (b : Bool) → p v ≡ b → 0 < count_by (λ b. b) (map p (v ∷ ns))
    → (0 < count_by (λ b. b) (map p ns) → (k : ℕ) × (k < length ns) × (p (get_or ns k 0) ≡ true))
    → (k : ℕ) × (k < length (v ∷ ns)) × (p (get_or (v ∷ ns) k 0) ≡ true)
one_step p v ns true is some rest = (0, omega arith, is)
one_step p v ns false is some rest =
    let one = rest (omega (arith, some, count_split p v ns, ap {B = ℕ} (λ b. cond b 1 0) is)) in
    (suc one.0, omega (arith, one.1), one.2)

-- where one is counted, one passes
pub one_counted : (p : ℕ → Bool) (ns : List ℕ) → 0 < count_by (λ b. b) (map p ns) → (k : ℕ) × (k < length ns) × (p (get_or ns k 0) ≡ true)
one_counted p [] some = absurd (omega arith)
one_counted p (v ∷ ns) some = one_step p v ns (p v) refl some (one_counted p ns)

-- no row is above the last digit of a base
pub all_below : (base : ℕ) (ns : List ℕ) → 0 < base → count_by (λ b. b) (map (nat_lt (base - 1)) ns) ≡ 0 → (k : ℕ) → get_or ns k 0 < base
all_below base ns some none k = elim (cases_lt k (length ns)) [
  | inl within ↦ let off = none_counted (nat_lt (base - 1)) ns none k within in grind (arith, nat_tests)
  | inr past ↦ omega (arith, get_or_past ns k 0 past)
]

-- a row is
pub one_past : (base : ℕ) (ns : List ℕ) → 0 < base → 0 < count_by (λ b. b) (map (nat_lt (base - 1)) ns) → HasNumberPastBase base ns
one_past base ns some counted =
    let one = one_counted (nat_lt (base - 1)) ns counted in
    (one.0, one.1, past (get_or ns one.0 0) one.2)
  where
    past : (v : ℕ) → nat_lt (base - 1) v ≡ true → base ≤ v
    past v on = grind (arith, nat_tests)

-- ---- the numbers of bitmaps that were made of numbers

low_split : (v p : ℕ) → 0 < p → v % (2 * p) ≡ v % 2 + 2 * (v / 2 % p)
low_split v p some =
    let h = v / 2 in
    let m = h % p in
    let q = h / p in
    let b = v % 2 + 2 * m in
    let below : m < p = mod_below h p some in
    let high : h ≡ q * p + m = sym (div-add-mod' h p) in
    let both : v ≡ 2 * h + v % 2 = omega arith in
    let twice : q * (2 * p) ≡ 2 * (q * p) = omega arith in
    let whole : v ≡ q * (2 * p) + b = omega (arith, both, high, twice) in
    ap (λ n. n % (2 * p)) whole ∙ mod-mul-add q (2 * p) b (omega (arith, below))

low_bit : (v : ℕ) → bit_value (has_place 0 v) ≡ v % 2
low_bit v = elim (cases_eq (v % 2) 1) [
  | inl one ↦ let on : has_place 0 v ≡ true = grind (arith, nat_tests) in ap bit_value on ∙ sym one
  | inr other ↦ let off : has_place 0 v ≡ false = grind (arith, nat_tests) in let none : v % 2 ≡ 0 = omega arith in ap bit_value off ∙ sym none
]

number_by : (places : List BitList) (r v : ℕ) → ((k : ℕ) → k < length places → get_or (bits_at places k) r false ≡ has_place k v) → number_in places r ≡ v % 2 ^ length places
unfolding number_in
number_by [] r v same = omega arith
number_by (s ∷ places) r v same =
    let low : bit_value (get_or s.bits r false) ≡ v % 2 = ap bit_value (same 0 (omega arith)) ∙ low_bit v in
    let rest : number_in places r ≡ v / 2 % 2 ^ length places = number_by places r (v / 2) (λ k within. same (suc k) (omega arith) ∙ ap (λ b. b == 1) (bit_at-suc v k)) in
    omega (arith, low, rest, low_split v (2 ^ length places) (pow_pos (length places)), ap (λ n. v % n) (two_pow (length places)))

pub numbers_are : (places : List BitList) (ds : List ℕ) → 0 < length places → IsEncoded has_place places ds → ((k : ℕ) → get_or ds k 0 < 2 ^ length places) → numbers_in places ≡ ds
unfolding numbers_in
numbers_are places ds some encoded below =
    let long : length ds ≡ length (bits_at places 0) = sym (ap length (encoded.each 0 some) ∙ length-map ds (has_place 0)) in
    sym (fill_by_all (number_in places) ds (length (bits_at places 0)) 0 long (λ r within.
    sym (number_by places r (get_or ds r 0) (λ k inside. ap (λ bits. get_or bits r false) (encoded.each k inside) ∙ get_or-map (has_place k) ds r 0 false (omega (arith, within, long)))
    ∙ mod-eq_of_lt (below r))))
