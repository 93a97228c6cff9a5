-- Every text has a list of all its records.
use Rattle.std.proofs.Common.{◌≡◌, ℕ, zero, suc, ◌≤◌, Bool, true, false, if◌then◌else◌, List, [], ◌∷◌, ◌++◌, length, Option, Some, None, refl, sym, ap, ap₂, ◌∙◌, subst, arith}
use Rattle.csv.specs.Machine.{Read, ends_at_end, field_after, fields_after, is_end, next_record, step}
use Rattle.csv.specs.Reading.{AreRecords, Reached}
use Rattle.csv.specs.declared.parser.Config.{Config}
use Rattle.csv.specs.declared.parser.State.{State}
use Rattle.csv.specs.declared.parser.State.TheVariants as st

-- what an option that is there holds
held : {X : Type 0} (x y : X) → Some x ≡ Some y → x ≡ y
held x y is = cc

some_of : {X : Type 0} {P : Type 0} (x : X) → None ≡ Some x → P
some_of x is = cc

-- a record leaves no more bytes than there were
at_most : (cfg : Config) (s : State) (fields : List (List ℕ)) (field xs : List ℕ) (p : Read) → next_record cfg s fields field xs ≡ Some p → length p.2 ≤ length xs
unfolding next_record
at_most cfg s fields field [] p is = by (ends_at_end s) is
  where
    by : (b : Bool) → (if b then Some (fields ++ field ∷ [], st.StartRecord, []) else None) ≡ Some p → length p.2 ≤ 0
    by true is = let none : p.2 ≡ [] = ap (λ (q : Read). q.2) (sym (held _ p is)) in omega (arith, ap length none)
    by false is = some_of p is
at_most cfg s fields field (c ∷ rest) p is = by (is_end (step cfg s c).1) is (at_most cfg (step cfg s c).0 (fields_after (step cfg s c).1 fields field) (field_after (step cfg s c).1 c field) rest p)
  where
    by : (b : Bool)
        → (if b then Some (fields_after (step cfg s c).1 fields field, (step cfg s c).0, rest)
        else next_record cfg (step cfg s c).0 (fields_after (step cfg s c).1 fields field) (field_after (step cfg s c).1 c field) rest) ≡ Some p
        → (next_record cfg (step cfg s c).0 (fields_after (step cfg s c).1 fields field) (field_after (step cfg s c).1 c field) rest ≡ Some p → length p.2 ≤ length rest)
        → length p.2 ≤ suc (length rest)
    by true is more = let same : p.2 ≡ rest = ap (λ (q : Read). q.2) (sym (held _ p is)) in omega (arith, ap length same)
    by false is more = omega (arith, more is)

-- and fewer, where there are some
fewer : (cfg : Config) (s : State) (c : ℕ) (rest : List ℕ) (p : Read) → next_record cfg s [] [] (c ∷ rest) ≡ Some p → length p.2 ≤ length rest
unfolding next_record
fewer cfg s c rest p is = by (is_end (step cfg s c).1) is (at_most cfg (step cfg s c).0 (fields_after (step cfg s c).1 [] []) (field_after (step cfg s c).1 c []) rest p)
  where
    by : (b : Bool)
        → (if b then Some (fields_after (step cfg s c).1 [] [], (step cfg s c).0, rest)
        else next_record cfg (step cfg s c).0 (fields_after (step cfg s c).1 [] []) (field_after (step cfg s c).1 c []) rest) ≡ Some p
        → (next_record cfg (step cfg s c).0 (fields_after (step cfg s c).1 [] []) (field_after (step cfg s c).1 c []) rest ≡ Some p → length p.2 ≤ length rest)
        → length p.2 ≤ length rest
    by true is more = let same : p.2 ≡ rest = ap (λ (q : Read). q.2) (sym (held _ p is)) in omega (arith, ap length same)
    by false is more = more is

-- the records from a state
pub record All (cfg : Config) (s : State) (xs : List ℕ) : Type 0 where
  pub records : List (List (List ℕ))
  pub are : AreRecords cfg s xs records

none_left : (cfg : Config) (s : State) (xs : List ℕ) → next_record cfg s [] [] xs ≡ None → All cfg s xs
unfolding Reached
none_left cfg s xs none = record { records = []; are = (s, xs, (refl, refl), none) }

one_more : (cfg : Config) (s : State) (xs : List ℕ) (p : Read) → next_record cfg s [] [] xs ≡ Some p → All cfg p.1 p.2 → All cfg s xs
unfolding Reached
one_more cfg s xs p is more = record {
  records = p.0 ∷ more.records;
  are = (more.are.0, more.are.1, (p, is, refl, more.are.2), more.are.3);
}

-- no byte is left
at_end : (cfg : Config) (s : State) → All cfg s []
unfolding next_record
at_end cfg s = by (ends_at_end s) refl
  where
    start : All cfg st.StartRecord []
    start = none_left cfg st.StartRecord [] refl

    by : (b : Bool) → ends_at_end s ≡ b → All cfg s []
    by true is = one_more cfg s [] ([] ∷ [], st.StartRecord, []) (ap (λ b. if b then Some ([] ∷ [], st.StartRecord, []) else None) is) start
    by false is = none_left cfg s [] (ap (λ b. if b then Some ([] ∷ [], st.StartRecord, []) else None) is)

all_within : (cfg : Config) (n : ℕ) (s : State) (xs : List ℕ) → length xs ≤ n → All cfg s xs
all_within cfg n s [] small = at_end cfg s
all_within cfg zero s (c ∷ rest) small = absurd (omega (arith, small))
all_within cfg (suc n) s (c ∷ rest) small = by (next_record cfg s [] [] (c ∷ rest)) refl (λ s2 ys. all_within cfg n s2 ys)
  where
    by : (o : Option Read) → next_record cfg s [] [] (c ∷ rest) ≡ o → ((s2 : State) (ys : List ℕ) → length ys ≤ n → All cfg s2 ys) → All cfg s (c ∷ rest)
    by None is more = none_left cfg s (c ∷ rest) is
    by (Some p) is more = one_more cfg s (c ∷ rest) p is (more p.1 p.2 (omega (arith, fewer cfg s c rest p is, small)))

pub all_records : (cfg : Config) (s : State) (xs : List ℕ) → All cfg s xs
all_records cfg s xs = all_within cfg (length xs) s xs (omega arith)

-- all records from where the first ones lead to stand after these
pub records_behind : (cfg : Config) (s s2 : State) (xs ys : List ℕ) (first last : List (List (List ℕ)))
    → Reached cfg s xs first s2 ys → AreRecords cfg s2 ys last → AreRecords cfg s xs (first ++ last)
unfolding Reached
records_behind cfg s s2 xs ys [] last reached are = rw (reached.0, reached.1) are
records_behind cfg s s2 xs ys (r ∷ first) last reached are =
    let more = records_behind cfg reached.0.1 s2 reached.0.2 ys first last reached.3 are in
    (more.0, more.1, (reached.0, reached.1, reached.2, more.2), more.3)

-- the first ones, where no more follow
pub records_end : (cfg : Config) (s s2 : State) (xs ys : List ℕ) (first : List (List (List ℕ)))
    → Reached cfg s xs first s2 ys → next_record cfg s2 [] [] ys ≡ None → AreRecords cfg s xs first
records_end cfg s s2 xs ys first reached none = (s2, ys, reached, none)

-- ---- a text has one list of all its records

same_read : (p q : Read) → Some p ≡ Some q → p ≡ q
same_read p q is = cc is

pub one_reading : (cfg : Config) (s : State) (xs : List ℕ) (a b : List (List (List ℕ))) → AreRecords cfg s xs a → AreRecords cfg s xs b → a ≡ b
unfolding Reached
one_reading cfg s xs [] [] x y = refl
one_reading cfg s xs [] (r ∷ b) x y =
    let none : next_record cfg s [] [] xs ≡ None = rw (x.2.0, x.2.1) x.3 in
    some_of y.2.0 (sym none ∙ y.2.1)
one_reading cfg s xs (r ∷ a) [] x y =
    let none : next_record cfg s [] [] xs ≡ None = rw (y.2.0, y.2.1) y.3 in
    some_of x.2.0 (sym none ∙ x.2.1)
one_reading cfg s xs (r ∷ a) (t ∷ b) x y =
    let same : x.2.0 ≡ y.2.0 = same_read x.2.0 y.2.0 (sym x.2.1 ∙ y.2.1) in
    let others : AreRecords cfg x.2.0.1 x.2.0.2 b = subst (λ (p : Read). AreRecords cfg p.1 p.2 b) (sym same) (y.0, y.1, y.2.3, y.3) in
    ap₂ (λ first rest. first ∷ rest) (x.2.2 ∙ ap (λ (p : Read). p.0) same ∙ sym y.2.2) (one_reading cfg x.2.0.1 x.2.0.2 a b (x.0, x.1, x.2.3, x.3) others)
