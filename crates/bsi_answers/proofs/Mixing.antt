-- Two lists that have the same rows of each feeder: their rows, each with its feeder and its number, are the same in
-- another order.
use Rattle.std.proofs.Common.{◌≡◌, ◌≢◌, ℕ, suc, Bool, true, false, cond, List, [], ◌∷◌, length, Some, None, refl, ap, ap₂, sym, ◌∙◌, subst, arith}
use Rattle.std.specs.Prelude.{nat_eq, if◌then◌else◌}
use Rattle.std.specs.List.{cons_option}
use Rattle.std.proofs.lemmas.Bool.Decides.{nat_tests}
use Rattle.bsi_rows.specs.Runs.{rows_from}
use Rattle.bsi_rows.specs.Rows.{Entries, SourcedRow}
use Rattle.bsi_answers.specs.Mixes.{HaveSameFeederRows}
use Rattle.bsi_answers.proofs.Perms.{as_long, flipped, join, keep, stay, swap, Perm}

-- how many rows of each feeder stood before
abbrev pub RowCounts : Type 0
RowCounts = ℕ → ℕ

abbrev pub bump : RowCounts → ℕ → RowCounts
bump c f = λ g. if nat_eq f g then suc (c g) else c g

-- a row with its feeder and its number
abbrev pub Tag : Type 0
Tag = (ℕ × ℕ) × Entries

abbrev pub tags : RowCounts → List SourcedRow → List Tag
tags c [] = []
tags c (row ∷ rows) = ((row.0, c row.0), row.1) ∷ tags (bump c row.0) rows

-- ---- counts

eq_self : (f : ℕ) → nat_eq f f ≡ true
eq_self f = grind (arith, nat_tests)

eq_is : (f g : ℕ) → nat_eq f g ≡ true → f ≡ g
eq_is f g e = grind (arith, nat_tests)

ne_flip : (f g : ℕ) → nat_eq f g ≡ false → nat_eq g f ≡ false
ne_flip f g e = grind (arith, nat_tests)

bump_other : (c : RowCounts) (f g : ℕ) → nat_eq f g ≡ false → bump c f g ≡ c g
bump_other c f g e = ap (λ b. cond b (suc (c g)) (c g)) e

bumps : (c : RowCounts) (f g : ℕ) → bump (bump c f) g ≡ bump (bump c g) f
bumps c f g i = λ h. at h i
  where
    both : (a b : Bool) (n : ℕ) → cond a (suc (cond b (suc n) n)) (cond b (suc n) n) ≡ cond b (suc (cond a (suc n) n)) (cond a (suc n) n)
    both true true n = refl
    both true false n = refl
    both false true n = refl
    both false false n = refl

    at : (h : ℕ) → bump (bump c f) g h ≡ bump (bump c g) f h
    at h = both (nat_eq g h) (nat_eq f h) (c h)

-- ---- the rows of a feeder

pub rows_here : (f : ℕ) (row : SourcedRow) (rows : List SourcedRow) → nat_eq row.0 f ≡ true → rows_from f (row ∷ rows) ≡ row.1 ∷ rows_from f rows
rows_here f row rows e = ap (λ b. cons_option (if b then Some row.1 else None) (rows_from f rows)) e

pub rows_there : (f : ℕ) (row : SourcedRow) (rows : List SourcedRow) → nat_eq row.0 f ≡ false → rows_from f (row ∷ rows) ≡ rows_from f rows
rows_there f row rows e = ap (λ b. cons_option (if b then Some row.1 else None) (rows_from f rows)) e

-- the first row of a feeder can stand first
pub record IsPulled (c : RowCounts) (b : List SourcedRow) (f : ℕ) (x : Entries) (rest : List Entries) : Type 0 where
  pub others : List SourcedRow
  pub moved : Perm (tags c b) (((f, c f), x) ∷ tags (bump c f) others)
  pub own : rows_from f others ≡ rest
  pub same : (g : ℕ) → nat_eq f g ≡ false → rows_from g others ≡ rows_from g b

module _ (c : RowCounts) (row : SourcedRow) (b : List SourcedRow) (f : ℕ) (x : Entries) (rest : List Entries) (is : rows_from f (row ∷ b) ≡ x ∷ rest) where
  pull_here : nat_eq row.0 f ≡ true → IsPulled c (row ∷ b) f x rest
  pull_here e =
      let here : row.1 ∷ rows_from f b ≡ x ∷ rest = sym (rows_here f row b e) ∙ is in
      let entries : row.1 ≡ x = cc (here) in
      let feeder : row.0 ≡ f = eq_is row.0 f e in
      record {
        others = b;
        moved = subst (λ g. Perm (tags c (row ∷ b)) (((g, c g), x) ∷ tags (bump c g) b)) feeder
            (subst (λ y. Perm (tags c (row ∷ b)) (((row.0, c row.0), y) ∷ tags (bump c row.0) b)) entries (stay (tags c (row ∷ b))));
        own = cc (here);
        same = λ g other. sym (rows_there g row b (subst (λ h. nat_eq h g ≡ false) (sym feeder) other));
      }

  same_behind : (h : ℕ) (t : Bool) → nat_eq row.0 h ≡ t → (others : List SourcedRow) → rows_from h others ≡ rows_from h b
      → rows_from h (row ∷ others) ≡ rows_from h (row ∷ b)
  same_behind h true d others same = rows_here h row others d ∙ (ap (λ xs. row.1 ∷ xs) same ∙ sym (rows_here h row b d))
  same_behind h false d others same = rows_there h row others d ∙ (same ∙ sym (rows_there h row b d))

  pull_there : nat_eq row.0 f ≡ false → (rows_from f b ≡ x ∷ rest → IsPulled (bump c row.0) b f x rest) → IsPulled c (row ∷ b) f x rest
  pull_there e pull =
      let g : ℕ = row.0 in
      let one = pull (sym (rows_there f row b e) ∙ is) in
      let tag : Tag = ((g, c g), row.1) in
      let head : Tag = ((f, c f), x) in
      let n : bump c g f ≡ c f = bump_other c g f e in
      let m : bump c f g ≡ c g = bump_other c f g (ne_flip g f e) in
      let tail : List Tag = tags (bump (bump c g) f) one.others in
      let first : Perm (tags (bump c g) b) (head ∷ tail) = subst (λ k. Perm (tags (bump c g) b) (((f, k), x) ∷ tail)) n one.moved in
      let last : tag ∷ tail ≡ tags (bump c f) (row ∷ one.others) = ap₂ (λ k d. ((g, k), row.1) ∷ tags d one.others) (sym m) (bumps c g f) in
      record {
        others = row ∷ one.others;
        moved = subst (λ ts. Perm (tags c (row ∷ b)) (head ∷ ts)) last
            (join (tag ∷ tags (bump c g) b) (tag ∷ head ∷ tail) (head ∷ tag ∷ tail) (keep tag (tags (bump c g) b) (head ∷ tail) first) (swap tag head tail));
        own = rows_there f row one.others e ∙ one.own;
        same = λ h other. same_behind h (nat_eq row.0 h) refl one.others (one.same h other);
      }

  pull_by : (t : Bool) → nat_eq row.0 f ≡ t → (rows_from f b ≡ x ∷ rest → IsPulled (bump c row.0) b f x rest) → IsPulled c (row ∷ b) f x rest
  pull_by true e pull = pull_here e
  pull_by false e pull = pull_there e pull

pulled : (c : RowCounts) (b : List SourcedRow) (f : ℕ) (x : Entries) (rest : List Entries) → rows_from f b ≡ x ∷ rest → IsPulled c b f x rest
pulled c [] f x rest is = absurd (cc (is))
pulled c (row ∷ b) f x rest is = pull_by c row b f x rest is (nat_eq row.0 f) refl (λ there. pulled (bump c row.0) b f x rest there)

no_rows_left : (b : List SourcedRow) → ((f : ℕ) → [] ≡ rows_from f b) → b ≡ []
no_rows_left [] none = refl
no_rows_left (row ∷ b) none = (let no : [] ≡ row.1 ∷ rows_from row.0 b = none row.0 ∙ rows_here row.0 row b (eq_self row.0) in absurd (cc))

module _ (row : SourcedRow) (a b : List SourcedRow) (alike : HaveSameFeederRows (row ∷ a) b) (c : RowCounts) (one : IsPulled c b row.0 row.1 (rows_from row.0 a)) where
  alike_by : (g : ℕ) (t : Bool) → nat_eq row.0 g ≡ t → rows_from g a ≡ rows_from g one.others
  alike_by g true e = subst (λ h. rows_from h a ≡ rows_from h one.others) (eq_is row.0 g e) (sym one.own)
  alike_by g false e = sym (rows_there g row a e) ∙ (alike g ∙ sym (one.same g e))

  alike_behind : HaveSameFeederRows a one.others
  alike_behind g = alike_by g (nat_eq row.0 g) refl

  joined : Perm (tags (bump c row.0) a) (tags (bump c row.0) one.others) → Perm (tags c (row ∷ a)) (tags c b)
  joined more =
      let tag : Tag = ((row.0, c row.0), row.1) in
      join (tags c (row ∷ a)) (tag ∷ tags (bump c row.0) one.others) (tags c b) (keep tag (tags (bump c row.0) a) (tags (bump c row.0) one.others) more)
      (flipped (tags c b) (tag ∷ tags (bump c row.0) one.others) one.moved)

pub same_tags : (c : RowCounts) (a b : List SourcedRow) → HaveSameFeederRows a b → Perm (tags c a) (tags c b)
same_tags c [] b alike = subst (λ rows. Perm [] (tags c rows)) (sym (no_rows_left b alike)) (stay [])
same_tags c (row ∷ a) b alike =
    let one = pulled c b row.0 row.1 (rows_from row.0 a) (sym (alike row.0) ∙ rows_here row.0 row a (eq_self row.0)) in
    joined row a b alike c one (same_tags (bump c row.0) a one.others (alike_behind row a b alike c one))

-- they are equally long
tags_long : (c : RowCounts) (rows : List SourcedRow) → length (tags c rows) ≡ length rows
tags_long c [] = refl
tags_long c (row ∷ rows) = ap suc (tags_long (bump c row.0) rows)

pub same_length : (a b : List SourcedRow) → HaveSameFeederRows a b → length a ≡ length b
same_length a b alike =
    let none : RowCounts = λ f. 0 in
    sym (tags_long none a) ∙ (as_long (tags none a) (tags none b) (same_tags none a b alike) ∙ tags_long none b)
