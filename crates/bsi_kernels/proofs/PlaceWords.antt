-- The words of the binary places of a whole block.
use Rattle.std.proofs.Common.{◌≡◌, ℕ, ◌+◌, ◌*◌, ◌%◌, ◌^◌, ◌<◌, List, length, get_or, set, length-set, replicate, take, length-take, inl, inr, ap, ap₂, sym, ◌∙◌, arith, map, cond, eqb, true, false, w8}
use Rattle.std.specs.Prelude.{bit_and}
use Rattle.std.specs.Int.{bit_at}
use Rattle.std.specs.Simd.Lanes.{zip2, mask_l, top}
use Rattle.std.proofs.lemmas.Nat.{pow_pos}
use Rattle.std.proofs.lemmas.Nat.Bits.{and_pow, bit_at-lt}
use Rattle.std.proofs.lemmas.List.{get_or-map, get_or-take, length-map, get_or-set_same, get_or-set_other, get_or-replicate, length-replicate}
use Rattle.std.proofs.lemmas.Simd.{get_or-zip2, length-zip2, bit_mask_l, bitmask_splat}
use Rattle.std.proofs.lemmas.Bool.{cases_eq}
use Rattle.std.proofs.lemmas.Bool.Decides.{nat_tests}

-- the words of the places before p say which digits of a block have them
pub record ArePlaces (p : ℕ) (block words : List ℕ) : Type 0 where
  pub long : length words ≡ 6
  pub done : (i k : ℕ) → i < p → k < 64 → bit_at (get_or words i 0) k ≡ bit_at (get_or block k 0) i

one_place : (b q : ℕ) → b < 2 → 0 < q → cond (eqb (b * q) q) 1 0 ≡ b
one_place b q small some = elim (cases_eq b 0) [
  | inl off ↦
      let none : 0 * q ≡ 0 = omega arith in
      let test : eqb 0 q ≡ false = grind (arith, nat_tests) in
      ap (λ x. cond (eqb (x * q) q) 1 0) off ∙ ap (λ x. cond (eqb x q) 1 0) none ∙ ap (λ t. cond t 1 0) test ∙ sym off
  | inr on ↦
      let one : b ≡ 1 = omega arith in
      let unit : 1 * q ≡ q = omega arith in
      let test : eqb q q ≡ true = grind (arith, nat_tests) in
      ap (λ x. cond (eqb (x * q) q) 1 0) one ∙ ap (λ x. cond (eqb x q) 1 0) unit ∙ ap (λ t. cond t 1 0) test ∙ sym one
]

-- the mask of the digits that have a place
place_mask : (digits : List ℕ) (p k mask : ℕ) → length digits ≡ 64 → k < 64 → mask ≡ 2 ^ p
    → bit_at (mask_l (map (top 7) (zip2 (λ a b. cond (eqb a b) 255 0) (zip2 bit_and digits (replicate 64 mask)) (replicate 64 mask))) % 2 ^ 64) k ≡ bit_at (get_or digits k 0) p
place_mask digits p k mask whole near is =
    let masked = zip2 bit_and digits (replicate 64 mask) in
    let long : length masked ≡ 64 = length-zip2 bit_and digits (replicate 64 mask) (whole ∙ sym (length-replicate 64 mask)) ∙ whole in
    let lane : get_or masked k 0 ≡ bit_at (get_or digits k 0) p * 2 ^ p =
    get_or-zip2 bit_and digits (replicate 64 mask) k 0 0 0 (omega arith) (omega (arith, length-replicate {A = ℕ} 64 mask))
    ∙ ap (λ m. bit_and (get_or digits k 0) m) (get_or-replicate 64 k mask 0 near ∙ is) ∙ and_pow (get_or digits k 0) p in
    ap (λ n. bit_at n k) (bitmask_splat w8 eqb masked 64 mask long (omega arith)) ∙ bit_mask_l (map (λ x. eqb x mask) masked) k
    ∙ ap (λ t. cond t 1 0) (get_or-map (λ x. eqb x mask) masked k 0 false (omega arith) ∙ ap₂ eqb lane is)
    ∙ one_place (bit_at (get_or digits k 0) p) (2 ^ p) (bit_at-lt (get_or digits k 0) p) (pow_pos p)

-- one place more, where a digit is cast to a byte
pub place_more : (block words : List ℕ) (cast : ℕ → ℕ) (p mask : ℕ) → length block ≡ 64 → ((k : ℕ) → k < length block → get_or block k 0 < 64) → ((d : ℕ) → d < 64 → cast d ≡ d) → p < 6 → mask ≡ 2 ^ p → ArePlaces p block words
    → ArePlaces (p + 1) block (set words p (mask_l (map (top 7) (zip2 (λ a b. cond (eqb a b) 255 0) (zip2 bit_and (map cast (take 64 block)) (replicate 64 mask)) (replicate 64 mask))) % 2 ^ 64))
place_more block words cast p mask whole below same few is are =
    let first : length (take 64 block) ≡ 64 = omega (arith, length-take 64 block, whole) in
    let digits = map cast (take 64 block) in
    let word = mask_l (map (top 7) (zip2 (λ a b. cond (eqb a b) 255 0) (zip2 bit_and digits (replicate 64 mask)) (replicate 64 mask))) % 2 ^ 64 in
    let digit : (k : ℕ) → k < 64 → get_or digits k 0 ≡ get_or block k 0 = λ k near.
    get_or-map cast (take 64 block) k 0 0 (omega (arith, first)) ∙ ap cast (get_or-take 64 block k 0 near) ∙ same (get_or block k 0) (below k (omega (arith, whole))) in
    record {
      long = length-set words p word ∙ are.long;
      done = λ i k before near. elim (cases_eq i p) [
        | inl here ↦
            ap (λ j. bit_at (get_or (set words p word) j 0) k) here
            ∙ ap (λ w. bit_at w k) (get_or-set_same words p word 0 (omega (arith, are.long)))
            ∙ place_mask digits p k mask (length-map (take 64 block) cast ∙ first) near is
            ∙ ap (λ d. bit_at d p) (digit k near) ∙ ap (λ j. bit_at (get_or block k 0) j) (sym here)
        | inr apart ↦ ap (λ w. bit_at w k) (get_or-set_other words p i word 0 apart) ∙ are.done i k (omega arith) near
      ];
    }
