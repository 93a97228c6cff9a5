-- Weights, and the parts of a value: what stands below a component, its digit, and what stands from it on.
use Rattle.std.proofs.Common.{◌≡◌, ℕ, ◌+◌, ◌*◌, ◌/◌, ◌%◌, ◌<◌, ◌≤◌, List, length, slice_index, sym, ◌∙◌, ap, arith, nat_lt, nat_le, ◌==◌, ◌&&◌, ◌||◌}
use Rattle.std.proofs.lemmas.Bool.Decides.{nat_tests}
use Rattle.std.proofs.lemmas.List.{take_all}
use Rattle.std.proofs.lemmas.List.FromFn.{length-map-range_with_len, get_or-map-range_with_len}
use Rattle.std.proofs.lemmas.Nat.{mul-le, mod_below, div-add-mod'}
use Rattle.std.proofs.Math.Nat.{mul-le-mul_right, div-div-eq-div-mul, mod-eq_of_lt, div-eq_of_lt}
use Rattle.std.proofs.Math.Arith.{mod-mul}
use Rattle.bsi_digits.specs.Digits.{product, weight, digit_of, digits_of, IsBaseList}
use Rattle.bsi_digits.proofs.Products.{product-take_more, product_pos, product-take_pos, product-take_le}

-- each base is at least 1
pub base_pos : {bs : List ℕ} → IsBaseList bs → (i : ℕ) → i < length bs → 1 ≤ slice_index bs i
base_pos valid i h = omega (arith, (valid.each i h).0)

-- the weight of the next component
pub weight_more : (bs : List ℕ) (i : ℕ) → i < length bs → weight bs (i + 1) ≡ weight bs i * slice_index bs i
weight_more bs i h = product-take_more bs i h

-- past the last component stands the size
pub weight_all : (bs : List ℕ) → weight bs (length bs) ≡ product bs
weight_all bs = ap product (take_all (length bs) bs (omega arith))

pub weight_pos : {bs : List ℕ} → IsBaseList bs → (i : ℕ) → 1 ≤ weight bs i
weight_pos {bs} valid i = product-take_pos bs i (base_pos valid)

pub weight_le_size : {bs : List ℕ} → IsBaseList bs → (i : ℕ) → weight bs i ≤ product bs
weight_le_size {bs} valid i = product-take_le bs i (base_pos valid)

pub size_pos : {bs : List ℕ} → IsBaseList bs → 1 ≤ product bs
size_pos {bs} valid = product_pos bs (base_pos valid)

-- weights rise
pub weight_rises : {bs : List ℕ} → IsBaseList bs → (i : ℕ) → i < length bs → 2 * weight bs i ≤ weight bs (i + 1)
weight_rises {bs} valid i h =
    let more : weight bs (i + 1) ≡ weight bs i * slice_index bs i = weight_more bs i h in
    let twice : weight bs i * 2 ≤ weight bs i * slice_index bs i =
    mul-le (weight bs i) 2 (weight bs i) (slice_index bs i) (omega arith) (valid.each i h).0 in
    omega arith

pub digit_below : {bs : List ℕ} → IsBaseList bs → (v i : ℕ) → i < length bs → digit_of bs v i < slice_index bs i
digit_below {bs} valid v i h = mod_below (v / weight bs i) (slice_index bs i) (base_pos valid i h)

-- the digits of a value, one by one
pub length-digits_of : (bs : List ℕ) (v : ℕ) → length (digits_of bs v) ≡ length bs
length-digits_of bs v = length-map-range_with_len (digit_of bs v) 0 (length bs)

pub get_or-digits_of : (bs : List ℕ) (v i : ℕ) → i < length bs → slice_index (digits_of bs v) i ≡ digit_of bs v i
get_or-digits_of bs v i h = get_or-map-range_with_len (digit_of bs v) 0 (length bs) i i 0 h (omega arith)

-- the part below component i + 1: the digit of component i, and the part below it
pub low_more : {bs : List ℕ} → IsBaseList bs → (v i : ℕ) → i < length bs →
    v % weight bs (i + 1) ≡ digit_of bs v i * weight bs i + v % weight bs i
low_more {bs} valid v i h =
    ap (λ w. v % w) (weight_more bs i h ∙ omega arith) ∙
    mod-mul v {m = slice_index bs i} {c = weight bs i} (base_pos valid i h) (weight_pos valid i)

-- the part from component i + 1 on
pub high_more : (bs : List ℕ) (v i : ℕ) → i < length bs → v / weight bs i / slice_index bs i ≡ v / weight bs (i + 1)
high_more bs v i h =
    div-div-eq-div-mul v (weight bs i) (slice_index bs i) ∙ ap (λ w. v / w) (sym (weight_more bs i h))

-- the part from component i on: the part from the next on, and the digit of component i
pub high_digit : {bs : List ℕ} → IsBaseList bs → (v i : ℕ) → i < length bs →
    v / weight bs i ≡ v / weight bs (i + 1) * slice_index bs i + digit_of bs v i
high_digit {bs} valid v i h =
    sym (div-add-mod' (v / weight bs i) (slice_index bs i)) ∙
    ap (λ n. n * slice_index bs i + digit_of bs v i) (high_more bs v i h)

-- the same of numbers that are known to be these parts
pub high_parts : {bs : List ℕ} → IsBaseList bs → (v i here above base : ℕ) → i < length bs → here ≡ v / weight bs i →
    above ≡ v / weight bs (i + 1) → base ≡ slice_index bs i → here ≡ above * base + digit_of bs v i
high_parts {bs} valid v i here above base h here_is above_is base_is =
    here_is ∙ high_digit valid v i h ∙ ap (λ n. n * slice_index bs i + digit_of bs v i) (sym above_is) ∙
    ap (λ n. above * n + digit_of bs v i) (sym base_is)

-- below all components stands the value, and above them nothing
pub low_all : (bs : List ℕ) (v : ℕ) → v < product bs → v % weight bs (length bs) ≡ v
low_all bs v small = ap (λ w. v % w) (weight_all bs) ∙ mod-eq_of_lt small

pub high_all : (bs : List ℕ) (v : ℕ) → v < product bs → v / weight bs (length bs) ≡ 0
high_all bs v small = ap (λ w. v / w) (weight_all bs) ∙ div-eq_of_lt small

-- numbers of two parts, of which the higher part differs
pub apart : (w q p : ℕ) → q < p → q * w + w ≤ p * w
apart w q p less =
    let more : (q + 1) * w ≤ p * w = mul-le-mul_right w (omega arith) in
    omega arith

-- two numbers of two parts, compared
pub two_lt : (w x y q p : ℕ) → x < w → y < w → nat_lt (q * w + x) (p * w + y) ≡ (nat_lt q p || (q == p) && nat_lt x y)
two_lt w x y q p small other =
    let below : q < p → q * w + w ≤ p * w = apart w q p in
    let above : p < q → p * w + w ≤ q * w = apart w p q in
    let same : q ≡ p → q * w ≡ p * w = λ e. ap (λ n. n * w) e in
    grind (arith, nat_tests)

pub two_le : (w x y q p : ℕ) → x < w → y < w → nat_le (q * w + x) (p * w + y) ≡ (nat_lt q p || (q == p) && nat_le x y)
two_le w x y q p small other =
    let below : q < p → q * w + w ≤ p * w = apart w q p in
    let above : p < q → p * w + w ≤ q * w = apart w p q in
    let same : q ≡ p → q * w ≡ p * w = λ e. ap (λ n. n * w) e in
    grind (arith, nat_tests)

pub two_eq : (w x y q p : ℕ) → x < w → y < w → (q * w + x == p * w + y) ≡ ((q == p) && (x == y))
two_eq w x y q p small other =
    let below : q < p → q * w + w ≤ p * w = apart w q p in
    let above : p < q → p * w + w ≤ q * w = apart w p q in
    let same : q ≡ p → q * w ≡ p * w = λ e. ap (λ n. n * w) e in
    grind (arith, nat_tests)

-- the parts of two values below component i + 1 compare as the digits of component i or, where these are equal, as the
-- parts below it
pub low_lt : {bs : List ℕ} → IsBaseList bs → (u v i : ℕ) → i < length bs →
    nat_lt (u % weight bs (i + 1)) (v % weight bs (i + 1)) ≡
    (nat_lt (digit_of bs u i) (digit_of bs v i) || (digit_of bs u i == digit_of bs v i) && nat_lt (u % weight bs i) (v % weight bs i))
low_lt {bs} valid u v i h =
    ap (λ n. nat_lt n (v % weight bs (i + 1))) (low_more valid u i h) ∙
    ap (λ n. nat_lt (digit_of bs u i * weight bs i + u % weight bs i) n) (low_more valid v i h) ∙
    two_lt (weight bs i) (u % weight bs i) (v % weight bs i) (digit_of bs u i) (digit_of bs v i)
    (mod_below u (weight bs i) (weight_pos valid i)) (mod_below v (weight bs i) (weight_pos valid i))

pub low_le : {bs : List ℕ} → IsBaseList bs → (u v i : ℕ) → i < length bs →
    nat_le (u % weight bs (i + 1)) (v % weight bs (i + 1)) ≡
    (nat_lt (digit_of bs u i) (digit_of bs v i) || (digit_of bs u i == digit_of bs v i) && nat_le (u % weight bs i) (v % weight bs i))
low_le {bs} valid u v i h =
    ap (λ n. nat_le n (v % weight bs (i + 1))) (low_more valid u i h) ∙
    ap (λ n. nat_le (digit_of bs u i * weight bs i + u % weight bs i) n) (low_more valid v i h) ∙
    two_le (weight bs i) (u % weight bs i) (v % weight bs i) (digit_of bs u i) (digit_of bs v i)
    (mod_below u (weight bs i) (weight_pos valid i)) (mod_below v (weight bs i) (weight_pos valid i))

pub low_eq : {bs : List ℕ} → IsBaseList bs → (u v i : ℕ) → i < length bs →
    (u % weight bs (i + 1) == v % weight bs (i + 1)) ≡
    ((digit_of bs u i == digit_of bs v i) && (u % weight bs i == v % weight bs i))
low_eq {bs} valid u v i h =
    ap (λ n. n == v % weight bs (i + 1)) (low_more valid u i h) ∙
    ap (λ n. digit_of bs u i * weight bs i + u % weight bs i == n) (low_more valid v i h) ∙
    two_eq (weight bs i) (u % weight bs i) (v % weight bs i) (digit_of bs u i) (digit_of bs v i)
    (mod_below u (weight bs i) (weight_pos valid i)) (mod_below v (weight bs i) (weight_pos valid i))

-- the part from component i on compares as the part above it or, where these are equal, as the digit
pub high_lt : {bs : List ℕ} → IsBaseList bs → (u v i : ℕ) → i < length bs →
    nat_lt (u / weight bs i) (v / weight bs i) ≡
    (nat_lt (u / weight bs (i + 1)) (v / weight bs (i + 1)) ||
    (u / weight bs (i + 1) == v / weight bs (i + 1)) && nat_lt (digit_of bs u i) (digit_of bs v i))
high_lt {bs} valid u v i h =
    ap (λ n. nat_lt n (v / weight bs i)) (high_digit valid u i h) ∙
    ap (λ n. nat_lt (u / weight bs (i + 1) * slice_index bs i + digit_of bs u i) n) (high_digit valid v i h) ∙
    two_lt (slice_index bs i) (digit_of bs u i) (digit_of bs v i) (u / weight bs (i + 1)) (v / weight bs (i + 1))
    (digit_below valid u i h) (digit_below valid v i h)

pub high_eq : {bs : List ℕ} → IsBaseList bs → (u v i : ℕ) → i < length bs →
    (u / weight bs i == v / weight bs i) ≡
    ((u / weight bs (i + 1) == v / weight bs (i + 1)) && (digit_of bs u i == digit_of bs v i))
high_eq {bs} valid u v i h =
    ap (λ n. n == v / weight bs i) (high_digit valid u i h) ∙
    ap (λ n. u / weight bs (i + 1) * slice_index bs i + digit_of bs u i == n) (high_digit valid v i h) ∙
    two_eq (slice_index bs i) (digit_of bs u i) (digit_of bs v i) (u / weight bs (i + 1)) (v / weight bs (i + 1))
    (digit_below valid u i h) (digit_below valid v i h)
