-- A text that is cut at the first byte of a kind.
use Rattle.std.proofs.Common.{◌≡◌, ℕ, ◌+◌, Bool, true, cond, not, List, [], ◌∷◌, ◌++◌, length, drop, ◌∙◌, ap, arith, sym, refl}
use Rattle.std.proofs.Math.ListN.{drop_of_length-le}
use Rattle.std.proofs.Math.Seq.{drop-append-add}
use Rattle.std.proofs.lemmas.Bool.{and_from, and_parts}
use Rattle.std.proofs.lemmas.List.{drop_at, take_all, take_at}
use Rattle.std.proofs.lemmas.List.Folds.{list_all-append}
use Rattle.std.specs.Char.{is_ascii_digit}
use Rattle.std.specs.List.{after_first, before_first, list_all, position_or_len}
use Rattle.bsi_kinds.specs.Times.{from_first}

-- no byte of a text is of the kind
abbrev pub Lacks : (ℕ → Bool) → List ℕ → Type 0
Lacks is xs = list_all (λ byte. not (is byte)) xs ≡ true

module _ (is : ℕ → Bool) where
  place : (xs rest : List ℕ) (y : ℕ) → Lacks is xs → is y ≡ true → position_or_len is (xs ++ y ∷ rest) ≡ length xs
  place [] rest y all here = ap (λ b. cond (not b) (1 + position_or_len is rest) 0) here
  place (x ∷ xs) rest y all here =
      let parts = and_parts (not (is x)) (list_all (λ byte. not (is byte)) xs) all in
      let more = place xs rest y parts.1 here in
      ap (λ b. cond b (1 + position_or_len is (xs ++ y ∷ rest)) 0) parts.0 ∙ omega (arith, more)

  nowhere : (xs : List ℕ) → Lacks is xs → position_or_len is xs ≡ length xs
  nowhere [] all = refl
  nowhere (x ∷ xs) all =
      let parts = and_parts (not (is x)) (list_all (λ byte. not (is byte)) xs) all in
      let more = nowhere xs parts.1 in
      ap (λ b. cond b (1 + position_or_len is xs) 0) parts.0 ∙ omega (arith, more)

  -- what stands before such a byte, from it on, and behind it
  pub before_is : (xs rest : List ℕ) (y : ℕ) → Lacks is xs → is y ≡ true → before_first is (xs ++ y ∷ rest) ≡ xs
  before_is xs rest y all here = take_at xs (y ∷ rest) (position_or_len is (xs ++ y ∷ rest)) (sym (place xs rest y all here))

  pub from_is : (xs rest : List ℕ) (y : ℕ) → Lacks is xs → is y ≡ true → from_first is (xs ++ y ∷ rest) ≡ y ∷ rest
  from_is xs rest y all here = drop_at xs (y ∷ rest) (position_or_len is (xs ++ y ∷ rest)) (sym (place xs rest y all here))

  pub after_is : (xs rest : List ℕ) (y : ℕ) → Lacks is xs → is y ≡ true → after_first is (xs ++ y ∷ rest) ≡ rest
  after_is xs rest y all here = ap (λ k. drop (k + 1) (xs ++ y ∷ rest)) (place xs rest y all here) ∙ drop-append-add xs (y ∷ rest) 1

  -- and if there is none
  pub before_none : (xs : List ℕ) → Lacks is xs → before_first is xs ≡ xs
  before_none xs all = take_all (position_or_len is xs) xs (let there = nowhere xs all in omega (arith, there))

  pub from_none : (xs : List ℕ) → Lacks is xs → from_first is xs ≡ []
  from_none xs all = drop_of_length-le xs (let there = nowhere xs all in omega (arith, there))

  pub after_none : (xs : List ℕ) → Lacks is xs → after_first is xs ≡ []
  after_none xs all = drop_of_length-le xs (let there = nowhere xs all in omega (arith, there))

  -- digits are of no such kind
  pub digits_lack : ((byte : ℕ) → is_ascii_digit byte ≡ true → not (is byte) ≡ true) → (ds : List ℕ) → list_all is_ascii_digit ds ≡ true → Lacks is ds
  digits_lack other [] all = refl
  digits_lack other (d ∷ ds) all =
      let parts = and_parts (is_ascii_digit d) (list_all is_ascii_digit ds) all in
      and_from _ _ (other d parts.0) (digits_lack other ds parts.1)

  pub both_lack : (xs ys : List ℕ) → Lacks is xs → Lacks is ys → Lacks is (xs ++ ys)
  both_lack xs ys one two = list_all-append (λ byte. not (is byte)) xs ys ∙ and_from _ _ one two
