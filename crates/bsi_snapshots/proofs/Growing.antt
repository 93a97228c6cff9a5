-- Lists that grow, and the step that adds one.
use Rattle.std.proofs.Common.{◌≡◌, ℕ, ◌<◌, ◌≤◌, ◌==◌, Bool, true, false, List, [], ◌∷◌, ◌++◌, length, None, refl, sym, ◌∙◌, subst, ap, arith, inl, append_assoc, length-append}
use Rattle.std.proofs.lemmas.List.{append-nil}
use Rattle.std.proofs.lemmas.Bool.Decides.{nat_tests}
use mathlib.Core.List.{IsPrefix}
use prog.Atomic.{either}
use Rattle.logbook.specs.Pages.{Cell, cell, keeps, no_nib, step, Goes, Moves}
use Rattle.bsi_snapshots.specs.History.{latest, Adds, AreGrowing, IsHistory, RowList}

-- ---- beginnings of a list

-- each list begins with itself
pub prefix_self : {A : Type 0} (xs : List A) → IsPrefix xs xs
prefix_self xs = ([], append-nil xs)

pub prefix_trans : {A : Type 0} (xs ys zs : List A) → IsPrefix xs ys → IsPrefix ys zs → IsPrefix xs zs
prefix_trans xs ys zs p q = (p.0 ++ q.0, sym (append_assoc xs p.0 q.0) ∙ (ap (λ w. w ++ q.0) p.1 ∙ q.1))

-- of two beginnings of one list the shorter begins the longer
pub prefix_shorter : {A : Type 0} (xs ys zs : List A) → IsPrefix xs zs → IsPrefix ys zs → length xs ≤ length ys → IsPrefix xs ys
prefix_shorter [] ys zs p q le = (ys, refl)
prefix_shorter (x ∷ xs) [] zs p q le = absurd (omega arith)
prefix_shorter (x ∷ xs) (y ∷ ys) [] p q le = absurd (cc (p.1))
prefix_shorter (x ∷ xs) (y ∷ ys) (z ∷ zs) p q le =
    let heads : x ≡ y = cc (p.1, q.1) in
    let rest = prefix_shorter xs ys zs (p.0, cc (p.1)) (q.0, cc (q.1)) (omega arith) in
    (rest.0, cc (heads, rest.1))

-- a beginning as long as the whole is the whole
pub prefix_whole : {A : Type 0} (xs ys : List A) → IsPrefix xs ys → length ys ≤ length xs → xs ≡ ys
prefix_whole [] [] p le = refl
prefix_whole [] (y ∷ ys) p le = absurd (omega arith)
prefix_whole (x ∷ xs) [] p le = absurd (cc (p.1))
prefix_whole (x ∷ xs) (y ∷ ys) p le =
    let rest = prefix_whole xs ys (p.0, cc (p.1)) (omega arith) in cc (p.1, rest)

-- ---- lists that grow

pub latest-push : (rows : RowList) (lists : List RowList) (list : RowList) → latest rows (lists ++ list ∷ []) ≡ list
latest-push rows [] list = refl
latest-push rows (p ∷ lists) list = latest-push p lists list

pub growing-push : (rows : RowList) (lists : List RowList) (list : RowList) → AreGrowing rows lists → IsPrefix (latest rows lists) list → AreGrowing rows (lists ++ list ∷ [])
growing-push rows [] list growing begins = (begins, tt)
growing-push rows (p ∷ lists) list growing begins = (growing.0, growing-push p lists list growing.1 begins)

-- the last list begins with the first
pub first-begins : (rows : RowList) (lists : List RowList) → AreGrowing rows lists → IsPrefix rows (latest rows lists)
first-begins rows [] growing = prefix_self rows
first-begins rows (p ∷ lists) growing = prefix_trans rows p (latest p lists) growing.0 (first-begins p lists growing.1)

-- what was the last list once begins each last list from then on
pub once-begins : (rows : RowList) (once lists : List RowList) → IsPrefix once lists → AreGrowing rows lists → IsPrefix (latest rows once) (latest rows lists)
once-begins rows [] lists p growing = first-begins rows lists growing
once-begins rows (x ∷ xs) [] p growing = absurd (cc (p.1))
once-begins rows (x ∷ xs) (y ∷ ys) p growing =
    let heads : x ≡ y = cc (p.1) in
    subst (λ z. IsPrefix (latest z xs) (latest y ys)) (sym heads) (once-begins y xs ys (p.0, cc (p.1)) growing.1)

-- of two lists that were published, each the last one once, the shorter begins the longer
pub once-meet : (once again both : List RowList) (a b : RowList) → latest [] once ≡ a → latest [] again ≡ b → IsPrefix once both → IsPrefix again both → AreGrowing [] both → length a ≤ length b → IsPrefix a b
once-meet once again both a b is are p q growing le =
    prefix_shorter a b (latest [] both)
    (subst (λ (rows : RowList). IsPrefix rows (latest [] both)) is (once-begins [] once both p growing))
    (subst (λ (rows : RowList). IsPrefix rows (latest [] both)) are (once-begins [] again both q growing)) le

-- ---- the step that adds a list

abbrev pub shown : List RowList → List RowList
shown lists = []

abbrev pub moved : List RowList → List RowList → ℕ → Type 0
moved xs ys n = Unit {0}

adds_goes : (lists once : List RowList) (list : RowList) (old new : ℕ) → length (latest [] once) ≡ old → IsPrefix (latest [] once) list → length list ≡ new → AreGrowing [] lists → IsPrefix once lists
    → (b : Bool) → (length (latest [] lists) == old) ≡ b
    → Goes IsHistory shown moved 0 (once, (no_nib, None)) (λ n. either (n == old) new n) (Adds (step 0 old new list) (once, (no_nib, None))) ((length (latest [] lists), true) ∷ (0, true) ∷ []) lists
adds_goes lists once list old new len begins long growing pre true is =
    let here : length (latest [] lists) ≡ old = grind (arith, nat_tests) in
    let same : latest [] once ≡ latest [] lists = prefix_whole (latest [] once) (latest [] lists) (once-begins [] once lists pre growing) (omega arith) in
    let last = latest-push [] lists list in
    let n : either (length (latest [] lists) == old) new (length (latest [] lists)) ≡ length (latest [] (lists ++ list ∷ [])) = rw is (sym long ∙ ap length (sym last)) in (
      keeps,
      list ∷ [],
      None,
      tt,
      record { words = ap (λ (k : ℕ). (k, true) ∷ (0, true) ∷ []) n; growing = growing-push [] lists list growing (subst (λ (rows : RowList). IsPrefix rows list) same begins) },
      inl (refl, refl),
      λ read_len. last,
    )
adds_goes lists once list old new len begins long growing pre false is =
    let all : lists ++ [] ≡ lists = append-nil lists in
    let n : either (length (latest [] lists) == old) new (length (latest [] lists)) ≡ length (latest [] (lists ++ [])) = rw is (ap (λ (ps : List RowList). length (latest [] ps)) (sym all)) in (
      keeps,
      [],
      None,
      tt,
      record { words = ap (λ (k : ℕ). (k, true) ∷ (0, true) ∷ []) n; growing = subst (AreGrowing []) (sym all) growing },
      inl (refl, refl),
      λ read_len. absurd (grind (arith, nat_tests)),
    )

-- whatever the history is, the step adds the list, or finds that the last one is of another length
pub adds_moves : (once : List RowList) (list : RowList) (old new : ℕ) → length (latest [] once) ≡ old → IsPrefix (latest [] once) list → length list ≡ new
    → Moves IsHistory shown moved 0 (once, (no_nib, None)) (λ n. either (n == old) new n) (Adds (step 0 old new list) (once, (no_nib, None)))
adds_moves once list old new len begins long cs lists unchanged pre away =
    let P : List Cell → Type 0 = λ c. (0 < length c) × ((cell c 0).1 ≡ true) × Goes IsHistory shown moved 0 (once, (no_nib, None)) (λ n. either (n == old) new n) (Adds (step 0 old new list) (once, (no_nib, None))) c lists in
    subst P (sym unchanged.words) (omega arith, refl, adds_goes lists once list old new len begins long unchanged.growing pre (length (latest [] lists) == old) refl)
