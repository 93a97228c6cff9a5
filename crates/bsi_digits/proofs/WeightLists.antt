-- The weights that are kept beside a list of bases.
use Rattle.std.proofs.Common.{◌≡◌, ◌≢◌, ℕ, ◌+◌, ◌*◌, ◌<◌, ◌≤◌, List, length, get_or, set, sym, ◌∙◌, ap, arith, ◌⊎◌, inl, inr}
use Rattle.std.proofs.lemmas.Bool.{cases_eq}
use Rattle.std.proofs.lemmas.List.{get_or-set_same, get_or-set_other}
use Rattle.bsi_digits.specs.Digits.{weight}
use Rattle.bsi_digits.proofs.Products.{product-take_more}

-- one weight more is written
weights_by : (bs ws : List ℕ) (i x k : ℕ) → i + 1 < length ws → ((j : ℕ) → j ≤ i → get_or ws j 0 ≡ weight bs j) → x ≡ weight bs (i + 1) →
    k ≤ i + 1 → (k ≡ i + 1) ⊎ (k ≢ i + 1) → get_or (set ws (i + 1) x) k 0 ≡ weight bs k
weights_by bs ws i x k room each new within (inl e) =
    ap (λ n. get_or (set ws (i + 1) x) n 0) e ∙ get_or-set_same ws (i + 1) x 0 room ∙ new ∙ ap (λ n. weight bs n) (sym e)
weights_by bs ws i x k room each new within (inr other) = get_or-set_other ws (i + 1) k x 0 other ∙ each k (omega arith)

pub weights_more : (bs ws : List ℕ) (i x : ℕ) → i + 1 < length ws → ((j : ℕ) → j ≤ i → get_or ws j 0 ≡ weight bs j) → x ≡ weight bs (i + 1) →
    (k : ℕ) → k ≤ i + 1 → get_or (set ws (i + 1) x) k 0 ≡ weight bs k
weights_more bs ws i x room each new k within = weights_by bs ws i x k room each new within (cases_eq k (i + 1))

-- a weight times its base is the next
pub next_weight : (bs : List ℕ) (i w x y : ℕ) → i < length bs → w ≡ weight bs i → x ≡ w → y ≡ get_or bs i 0 → x * y ≡ weight bs (i + 1)
next_weight bs i w x y within last first second =
    ap (λ n. n * y) (first ∙ last) ∙ ap (λ n. weight bs i * n) second ∙ sym (product-take_more bs i within)
