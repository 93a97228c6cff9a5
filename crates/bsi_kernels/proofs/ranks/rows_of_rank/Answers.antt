use Rattle.std.proofs.Common.{◌≡◌, ℕ, List, Bool, true, false, ◌+◌, ◌-◌, ◌*◌, ◌^◌, ◌<◌, ◌≤◌, ◌&&◌, cond, length, get_or, ap, ap₂, sym, subst, ◌∙◌, refl, arith}
use Rattle.bsi_kernels.specs.Listing.{AreListed}
use Rattle.std.specs.Prelude.{IfSome, count_by, not, if◌then◌else◌}
use Rattle.std.specs.Simd.Lanes.{zip2}
use Rattle.std.proofs.lemmas.Nat.{pow-add}
use Rattle.bsi_bits.specs.BitList.{BitList, without}
use Rattle.bsi_bits.specs.BitLists.{bits_at}
use Rattle.bsi_bits.specs.Packed.{bits_of, IsPacked}
use Rattle.bsi_bits.proofs.InWords.{shown_packed, shown_bits}
use Rattle.bsi_bits.proofs.Logic.{written}
use Rattle.bsi_bits.proofs.Reading.{length-bits_of}
use Rattle.bsi_kernels.proofs.BitmapReads.{read_bitmap}
use Rattle.bsi_kernels.proofs.PlaceRanks.{IsRankedAbove, ranked_start, ranked_step, ranked_extreme}
use Rattle.bsi_kernels.proofs.ranks.rows_of_rank.Goals as goal
use mir.Val.{bool_byte}

-- what a flag adds to a number
byte_is : (d : Bool) → bool_byte d ≡ cond d 1 0
byte_is true = refl
byte_is false = refl

flag_small : (d : Bool) → cond d 1 0 ≤ 1
flag_small true = omega arith
flag_small false = omega arith

pub places-init : goal.places-init
places-init c =
    let selection = c.args.selection.bits in
    let words = c.into_words-rows.result.items in
    let top = length c.args.places.now - 1 in
    let above : length c.args.places.now ≡ top + 1 = omega (arith, c.requires.some) in
    let within : top < length c.args.places.now = omega (arith, c.requires.some) in
    let place = c.index-places-last.result.bits in
    let place_is : place ≡ bits_at c.args.places.now top = ap (λ r. r.bits) (read_bitmap c.args.places.now top c.index-places-last.result within c.index-places-last.is) in
    let all : selection ≡ bits_of (length selection) words = shown_bits selection words c.into_words-rows.ensures.few c.into_words-rows.ensures.places in
    record {
      packed = shown_packed selection words c.into_words-rows.ensures.few c.into_words-rows.ensures.places (omega (arith, c.len-len.ensures.len, c.len-len.ensures.within));
      listed = subst (λ (ws : List ℕ). IfSome c.list_words-listed.result (λ l. AreListed (length ws) l.indices l.count ws)) c.deref.ensures.value c.list_words-listed.ensures;
      within = within;
      small = let none : top - top ≡ 0 = omega arith in let one : 2 ^ (top - top) ≡ 1 = ap (λ n. 2 ^ n) none in omega (arith, one);
      ranked = λ numbers encoded below same.
          let start : IsRankedAbove (top + 1) c.args.rank selection numbers 0 c.args.rank selection =
          subst (λ (n : ℕ). IsRankedAbove n c.args.rank selection numbers 0 c.args.rank selection) above (ranked_start c.args.rank selection numbers (length c.args.places.now) same below c.requires.there) in
          let step = ranked_step c.args.rank selection numbers top 0 c.args.rank c.count_clear.result c.choose-choice.result.rank c.choose-choice.result.is_set selection place start
          (place_is ∙ encoded.each top within) (ap length place_is ∙ c.requires.same top within) c.count_clear.ensures c.choose-choice.ensures.rank c.choose-choice.ensures.clear in
          subst (λ (rows : List Bool). IsRankedAbove top c.args.rank selection numbers (0 + cond c.choose-choice.result.is_set 1 0) c.choose-choice.result.rank rows)
          (ap₂ (zip2 (λ f b. f && (if c.choose-choice.result.is_set then b else not b))) all place_is) step;
    }

-- a place that is read
place_read : (places : List BitList) (i : ℕ) (r : BitList) → i < length places → r ≡ get_or places i r → r.bits ≡ bits_at places i
place_read places i r within is = ap (λ b. b.bits) (read_bitmap places i r within is)

pub narrow-clear-requires-clause-packed : goal.narrow-clear-requires-clause-packed
narrow-clear-requires-clause-packed c =
    let long = ap length (place_read c.args.places.now c.places.last c.index-places-last-in-places.result c.places.invariant.within c.index-places-last-in-places.is)
    ∙ c.requires.same c.places.last c.places.invariant.within in
    let Packed : ℕ → List ℕ → Type 0 = λ n words. IsPacked n words in
    subst (λ (n : ℕ). IsPacked n c.deref_mut.result.now) (sym long) (subst (λ (words : List ℕ). IsPacked (length c.args.selection.bits) words) (sym c.deref_mut.ensures.value) c.places.invariant.packed)

pub narrow-clear-requires-clause-listed : goal.narrow-clear-requires-clause-listed
narrow-clear-requires-clause-listed c =
    subst (λ (ws : List ℕ). IfSome c.list_words-listed.result (λ l. AreListed (length ws) l.indices l.count ws)) (sym c.deref_mut.ensures.value) c.places.invariant.listed

pub narrow-requires-clause-listed : goal.narrow-requires-clause-listed
narrow-requires-clause-listed c =
    subst (λ (ws : List ℕ). IfSome c.list_words-listed.result (λ l. AreListed (length ws) l.indices l.count ws)) (sym c.deref_mut-2.ensures.value) c.places.invariant.listed

pub narrow-clear-requires-clause-same : goal.narrow-clear-requires-clause-same
narrow-clear-requires-clause-same c =
    let next : c.places.last - 1 < length c.args.places.now = omega (arith, c.places.invariant.within) in
    ap length (place_read c.args.places.now (c.places.last - 1) c.index-places-last-in-places-2.result next c.index-places-last-in-places-2.is)
    ∙ c.requires.same (c.places.last - 1) next
    ∙ sym (c.requires.same c.places.last c.places.invariant.within)
    ∙ sym (ap length (place_read c.args.places.now c.places.last c.index-places-last-in-places.result c.places.invariant.within c.index-places-last-in-places.is))

pub places-preserved : goal.places-preserved
places-preserved c =
    let selection = c.args.selection.bits in
    let n : ℕ = length selection in
    let places = c.args.places.now in
    let last = c.places.last in
    let i = c.places.last - 1 in
    let up : last ≡ i + 1 = omega (arith, c.places-test.true) in
    let within = c.places.invariant.within in
    let next_within : i < length places = omega (arith, within) in
    let set = c.places.choice.is_set in
    let d = c.choose-choice-in-places.result.is_set in
    let cut = c.index-places-last-in-places.result.bits in
    let next = c.index-places-last-in-places-2.result.bits in
    let cut_is = place_read places last c.index-places-last-in-places.result within c.index-places-last-in-places.is in
    let next_is = place_read places i c.index-places-last-in-places-2.result next_within c.index-places-last-in-places-2.is in
    let long : length cut ≡ n = ap length cut_is ∙ c.requires.same last within in
    let words = c.narrow-clear.new.chosen in
    let sel : Bool → Bool → Bool = λ f b. f && (if set then b else not b) in
    let rows = bits_of n words in
    let rows_are : rows ≡ zip2 sel (bits_of n c.places.rows.items) (bits_at places last) =
    ap (λ m. bits_of m words) (sym long) ∙ c.narrow-clear.ensures.chosen
    ∙ ap₂ (λ m items. zip2 sel (bits_of m items) cut) long c.deref_mut.ensures.value ∙ ap (zip2 sel (bits_of n c.places.rows.items)) cut_is in
    let stored = written c.places.rows.len words c.places.rows.items (sym c.places.rows.ok.0) (omega (arith, c.narrow-clear.auto.chosen, ap length c.deref_mut.ensures.value, c.places.rows.ok.0)) in
    let flag = c.from.ensures ∙ byte_is set in
    let twice : 2 ^ (length places - 1 - last + 1) ≡ 2 ^ (length places - 1 - last) * 2 = pow-add 2 (length places - 1 - last) 1 in
    let height : length places - 1 - i ≡ length places - 1 - last + 1 = omega (arith, up, within) in
    let clear_is : c.narrow-clear.result ≡ count_by (λ b. b) (zip2 without rows next) = c.narrow-clear.ensures.clear ∙ ap (λ m. count_by (λ b. b) (zip2 without (bits_of m words) next)) long in
    rw stored (record {
      packed = subst (λ (m : ℕ). IsPacked m words) long c.narrow-clear.ensures.packed;
      listed = c.narrow-clear.ensures.listed;
      within = next_within;
      small = omega (arith, flag, flag_small set, twice, ap (λ h. 2 ^ h) height, c.places.invariant.small);
      ranked = λ numbers encoded below same.
          let before = c.places.invariant.ranked numbers encoded below same in
          let here : IsRankedAbove (i + 1) c.args.rank selection numbers (c.places.number * 2 + c.from.result) c.places.choice.rank rows =
          subst (λ (m : ℕ). IsRankedAbove (i + 1) c.args.rank selection numbers (c.places.number * 2 + m) c.places.choice.rank rows) (sym flag)
          (subst (λ (rs : List Bool). IsRankedAbove (i + 1) c.args.rank selection numbers (c.places.number * 2 + cond set 1 0) c.places.choice.rank rs) (sym rows_are)
          (subst (λ (m : ℕ). IsRankedAbove m c.args.rank selection numbers (c.places.number * 2 + cond set 1 0) c.places.choice.rank (zip2 sel (bits_of n c.places.rows.items) (bits_at places last))) up before)) in
          let step = ranked_step c.args.rank selection numbers i (c.places.number * 2 + c.from.result) c.places.choice.rank c.narrow-clear.result c.choose-choice-in-places.result.rank d rows next here
          (next_is ∙ encoded.each i next_within) (ap length next_is ∙ c.requires.same i next_within ∙ sym (length-bits_of n words)) clear_is
          c.choose-choice-in-places.ensures.rank c.choose-choice-in-places.ensures.clear in
          subst (λ (p : List Bool). IsRankedAbove i c.args.rank selection numbers ((c.places.number * 2 + c.from.result) * 2 + cond d 1 0) c.choose-choice-in-places.result.rank (zip2 (λ f b. f && (if d then b else not b)) rows p)) next_is step;
    })

-- the lowest place
first_long : (places : List BitList) (selection : List Bool) (r : BitList) → 0 < length places → ((k : ℕ) → k < length places → length (bits_at places k) ≡ length selection)
    → r ≡ get_or places 0 r → length r.bits ≡ length selection
first_long places selection r some same is = ap length (place_read places 0 r some is) ∙ same 0 some

pub narrow-requires-clause-packed : goal.narrow-requires-clause-packed
narrow-requires-clause-packed c =
    let long = first_long c.args.places.now c.args.selection.bits c.index-places-0.result c.requires.some c.requires.same c.index-places-0.is in
    subst (λ (n : ℕ). IsPacked n c.deref_mut-2.result.now) (sym long) (subst (λ (words : List ℕ). IsPacked (length c.args.selection.bits) words) (sym c.deref_mut-2.ensures.value) c.places.invariant.packed)

pub returns-clause-ranked : goal.returns-clause-ranked
returns-clause-ranked c = λ numbers encoded below same.
    let selection = c.args.selection.bits in
    let n : ℕ = length selection in
    let places = c.args.places.now in
    let set = c.places.choice.is_set in
    let cut = c.index-places-0.result.bits in
    let cut_is = place_read places 0 c.index-places-0.result c.requires.some c.index-places-0.is in
    let long : length cut ≡ n = ap length cut_is ∙ c.requires.same 0 c.requires.some in
    let words = c.narrow.new.chosen in
    let sel : Bool → Bool → Bool = λ f b. f && (if set then b else not b) in
    let none : c.places.last ≡ 0 = omega (arith, c.places-test.false) in
    let stored = written c.places.rows.len words c.places.rows.items (sym c.places.rows.ok.0) (omega (arith, c.narrow.auto.chosen, ap length c.deref_mut-2.ensures.value, c.places.rows.ok.0)) in
    let rows_are : c.from_words.result.bits ≡ zip2 sel (bits_of n c.places.rows.items) (bits_at places 0) =
    c.from_words.ensures ∙ ap₂ bits_of c.len-len.ensures.len stored
    ∙ ap (λ m. bits_of m words) (sym long) ∙ c.narrow.ensures.chosen
    ∙ ap₂ (λ m items. zip2 sel (bits_of m items) cut) long c.deref_mut-2.ensures.value ∙ ap (zip2 sel (bits_of n c.places.rows.items)) cut_is in
    let flag = c.from-2.ensures ∙ byte_is set in
    let left = subst (λ (m : ℕ). IsRankedAbove m c.args.rank selection numbers (c.places.number * 2 + cond set 1 0) c.places.choice.rank (zip2 sel (bits_of n c.places.rows.items) (bits_at places m))) none
    (c.places.invariant.ranked numbers encoded below same) in
    let here = subst (λ (rs : List Bool). IsRankedAbove 0 c.args.rank selection numbers (c.places.number * 2 + cond set 1 0) c.places.choice.rank rs) (sym rows_are) left in
    ranked_extreme c.args.rank selection numbers (c.places.number * 2 + c.from-2.result) c.places.choice.rank c.from_words.result.bits
    (subst (λ (m : ℕ). IsRankedAbove 0 c.args.rank selection numbers (c.places.number * 2 + m) c.places.choice.rank c.from_words.result.bits) (sym flag) here)
