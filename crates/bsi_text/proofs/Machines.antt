-- The machine of a setup is refused only because memory was refused.
use Rattle.std.proofs.Common.{◌≡◌, ℕ, ◌<◌, ◌≤◌, false, nat_eq, nat_lt, List, length, get_or, None, position, refl, arith}
use Rattle.std.specs.Prelude.{All}
use Rattle.std.specs.List.{position_or_len}
use Rattle.std.proofs.lemmas.Bool.Decides.{nat_tests}
use Rattle.std.proofs.lemmas.List.Elements.{All-get_or}
use Rattle.std.proofs.lemmas.List.Sums.{position_or_len_is}
use Rattle.bsi_rows.specs.Sizes.{is_out_of_range, sizes_refusal}
use Rattle.bsi_schema.specs.Columns.{Declared}
use Rattle.bsi_syntax.specs.Setups.{IsSetup}

in_range : (n : ℕ) → (1 ≤ n) × (n ≤ 65536) → is_out_of_range n ≡ false
in_range n is =
    let least : 1 ≤ n = is.0 in
    let most : n ≤ 65536 = is.1 in
    grind (arith, nat_tests)

all_in_range : (capacities : List ℕ) → All (λ n. (1 ≤ n) × (n ≤ 65536)) capacities → position is_out_of_range capacities ≡ None
all_in_range capacities each =
    let good = λ (i : ℕ) (h : i < length capacities). in_range (get_or capacities i 0) (All-get_or (λ n. (1 ≤ n) × (n ≤ 65536)) capacities i 0 h each) in
    let whole : position_or_len is_out_of_range capacities ≡ length capacities =
    position_or_len_is is_out_of_range capacities (length capacities) 0 (omega arith) good (λ h. absurd (omega arith)) in
    let test : nat_lt (position_or_len is_out_of_range capacities) (length capacities) ≡ false = grind (arith, nat_tests) in
    rw test refl

pub sizes_taken : (schema : Declared) (capacities : List ℕ) (limit : ℕ) → IsSetup capacities limit → 0 < length schema.columns → 0 < length capacities
    → sizes_refusal schema capacities limit ≡ None
sizes_taken schema capacities limit is columns feeders =
    let some : nat_eq (length capacities) 0 ≡ false = grind (arith, nat_tests) in
    let few_is : length capacities ≤ 64 = is.few in
    let few : nat_lt 64 (length capacities) ≡ false = grind (arith, nat_tests) in
    let range : position is_out_of_range capacities ≡ None = all_in_range capacities is.each in
    let named : nat_eq (length schema.columns) 0 ≡ false = grind (arith, nat_tests) in
    let least : 1 ≤ limit = is.some in
    let most : limit ≤ 4294967296 = is.most in
    let low : nat_eq limit 0 ≡ false = grind (arith, nat_tests) in
    let high : nat_lt 0x1_0000_0000 limit ≡ false = grind (arith, nat_tests) in
    rw (some, few, range, named, low, high) refl
