-- Bitmaps of one length, one after another in words.
use Rattle.std.proofs.Common.{◌≡◌, ℕ, suc, ◌+◌, ◌*◌, ◌<◌, Bool, List, [], ◌∷◌, ◌++◌, length, get_or, take, drop, inl, inr, refl, sym, ap, ◌∙◌, arith, length-append, length-take, append_assoc, append-nil, drop-cons}
use Rattle.std.specs.List.{flat_map}
use Rattle.std.proofs.lemmas.Bool.{cases_eq}
use Rattle.std.proofs.lemmas.Grind.{flat_map-append}
use Rattle.std.proofs.lemmas.List.{take_at, drop_at, take-append-drop, get_or-take, get_or_append_left, map-append}
use Rattle.std.proofs.Math.Seq.{get_or-append_seam}
use Rattle.std.proofs.lemmas.List.FromFn.{length-map-range_with_len}
use Rattle.bsi_bits.specs.BitList.{word_count, BitList}
use Rattle.bsi_segments.specs.Bitmaps.{bits_of_bitmaps, packed, word_of_bits, AreBitmaps}

pub length-packed : (b : List Bool) → length (packed b) ≡ word_count (length b)
length-packed b = length-map-range_with_len (word_of_bits b) 0 (word_count (length b))

pub length-all : (n : ℕ) (bs : List (List Bool)) → ((k : ℕ) → k < length bs → length (get_or bs k []) ≡ n) → length (flat_map packed bs) ≡ length bs * word_count n
length-all n [] each = omega arith
length-all n (b ∷ bs) each =
    let first : length (packed b) ≡ word_count n = length-packed b ∙ ap word_count (each 0 (omega arith)) in
    let rest = length-all n bs (λ k below. each (suc k) (omega arith)) in
    omega (arith, length-append (packed b) (flat_map packed bs), first, rest)

all_split : (k : ℕ) (bs : List (List Bool)) → flat_map packed bs ≡ flat_map packed (take k bs) ++ flat_map packed (drop k bs)
all_split k bs = ap (flat_map packed) (sym (take-append-drop k bs)) ∙ flat_map-append packed (take k bs) (drop k bs)

pub same_rest : (xs ys us vs : List ℕ) → length xs ≡ length ys → xs ++ us ≡ ys ++ vs → us ≡ vs
same_rest xs ys us vs long same = sym (drop_at xs us (length xs) refl) ∙ ap (drop (length xs)) same ∙ drop_at ys vs (length xs) (sym long)

-- the next words are those of the next bitmap
pub next_is : (k count n : ℕ) (maps bits : List (List Bool)) (words rest : List ℕ) → AreBitmaps k n maps → AreBitmaps count n bits → k < count → words ≡ flat_map packed maps ++ rest → words ≡ flat_map packed bits
    → (length (get_or bits k []) ≡ n) × (take (word_count n) rest ≡ packed (get_or bits k []))
next_is k count n maps bits words rest consumed all within split whole =
    let front = take k bits in
    let inside : k < length bits = omega (arith, all.many) in
    let front_many : length front ≡ k = omega (arith, length-take k bits) in
    let front_each : (j : ℕ) → j < length front → length (get_or front j []) ≡ n = λ j below.
    ap length (get_or-take k bits j [] (omega (arith, below, front_many))) ∙ all.each j (omega (arith, below, front_many)) in
    let maps_each : (j : ℕ) → j < length maps → length (get_or maps j []) ≡ n = λ j below. consumed.each j (omega (arith, below, consumed.many)) in
    let same : length (flat_map packed maps) ≡ length (flat_map packed front) = omega (arith, length-all n maps maps_each, length-all n front front_each, ap (λ m. m * word_count n) consumed.many, ap (λ m. m * word_count n) front_many) in
    let rest_is : rest ≡ flat_map packed (drop k bits) = same_rest (flat_map packed maps) (flat_map packed front) rest (flat_map packed (drop k bits)) same (sym split ∙ whole ∙ all_split k bits) in
    let opened : rest ≡ packed (get_or bits k []) ++ flat_map packed (drop (suc k) bits) = rest_is ∙ ap (flat_map packed) (drop-cons bits k [] inside) in
    let here = all.each k within in (
      here,
      ap (take (word_count n)) opened ∙ take_at (packed (get_or bits k [])) (flat_map packed (drop (suc k) bits)) (word_count n) (length-packed (get_or bits k []) ∙ ap word_count here),
    )

-- one more bitmap
pub long_more : (k n : ℕ) (maps : List BitList) (b : BitList) (new : List BitList) → new ≡ maps ++ b ∷ [] → AreBitmaps k n (bits_of_bitmaps maps) → length b.bits ≡ n → AreBitmaps (k + 1) n (bits_of_bitmaps new)
long_more k n maps b new is consumed here =
    let parts : bits_of_bitmaps new ≡ bits_of_bitmaps maps ++ b.bits ∷ [] = ap bits_of_bitmaps is ∙ map-append (λ (m : BitList). m.bits) maps (b ∷ []) in
    record {
      many = ap length parts ∙ length-append (bits_of_bitmaps maps) (b.bits ∷ []) ∙ ap (λ m. m + 1) consumed.many;
      each = λ j below. elim (cases_eq j k) [
        | inl same ↦
            let last : j ≡ length (bits_of_bitmaps maps) = omega (arith, same, consumed.many) in
            ap (λ bs. length (get_or bs j [])) parts ∙ ap (λ i. length (get_or (bits_of_bitmaps maps ++ b.bits ∷ []) i [])) last
            ∙ ap length (get_or-append_seam (bits_of_bitmaps maps) b.bits [] []) ∙ here
        | inr apart ↦
            let early : j < k = omega (arith, below, apart) in
            let within : j < length (bits_of_bitmaps maps) = omega (arith, early, consumed.many) in
            ap (λ bs. length (get_or bs j [])) parts ∙ ap length (get_or_append_left (bits_of_bitmaps maps) (b.bits ∷ []) [] j within) ∙ consumed.each j early
      ];
    }

pub words_more : (maps : List BitList) (b : BitList) (new : List BitList) (words rest first others : List ℕ) → new ≡ maps ++ b ∷ [] → words ≡ flat_map packed (bits_of_bitmaps maps) ++ rest → rest ≡ first ++ others → first ≡ packed b.bits
    → words ≡ flat_map packed (bits_of_bitmaps new) ++ others
words_more maps b new words rest first others is split parts same =
    split ∙ ap (λ r. flat_map packed (bits_of_bitmaps maps) ++ r) (parts ∙ ap (λ f. f ++ others) same)
    ∙ sym (append_assoc (flat_map packed (bits_of_bitmaps maps)) (packed b.bits) others)
    ∙ ap (λ ws. (flat_map packed (bits_of_bitmaps maps) ++ ws) ++ others) (sym (append-nil (packed b.bits)))
    ∙ ap (λ ws. ws ++ others) (sym (flat_map-append packed (bits_of_bitmaps maps) (b.bits ∷ [])))
    ∙ ap (λ bs. flat_map packed bs ++ others) (sym (ap bits_of_bitmaps is ∙ map-append (λ (m : BitList). m.bits) maps (b ∷ [])))
