-- The titles of a header, one by one.
use Rattle.std.proofs.Common.{◌≡◌, ℕ, zero, suc, ◌<◌, List, [], ◌∷◌, ◌++◌, length, Bool, true, false, take, get_or, refl, sym, ap, ◌∙◌, arith, append_assoc}
use Rattle.std.specs.Str.{bytes_eq}
use Rattle.std.proofs.lemmas.List.{append_cancel_left}
use Rattle.std.proofs.lemmas.Slice.Eq.{bytes_eq-Decides}
use Rattle.bsi_rows.specs.Fields.{Field}
use Rattle.bsi_logical.specs.HeaderTitles.{number_behind, number_in, numbered, titles_behind, titles_of}

-- there are as many titles as fields
many_behind : (before fields : List Field) → length (titles_behind before fields) ≡ length fields
unfolding titles_behind
many_behind before [] = refl
many_behind before (field ∷ fields) = ap suc (many_behind (before ++ field ∷ []) fields)

pub length-titles_of : (header : List Field) → length (titles_of header) ≡ length header
length-titles_of header = many_behind [] header

-- the title of a field
title_behind : (before fields : List Field) (k : ℕ) → k < length fields
    → get_or (titles_behind before fields) k [] ≡ numbered (get_or fields k []) (number_behind (before ++ take k fields) (get_or fields k []))
unfolding titles_behind
title_behind before [] k within = absurd (omega (arith, within))
title_behind before (field ∷ fields) zero within = ap (λ (fs : List Field). numbered field (number_behind fs field)) (sym (no_more before))
  where
    no_more : (fs : List Field) → fs ++ [] ≡ fs
    no_more [] = refl
    no_more (f ∷ fs) = ap (λ (rest : List Field). f ∷ rest) (no_more fs)
title_behind before (field ∷ fields) (suc k) within =
    title_behind (before ++ field ∷ []) fields k (omega (arith, within))
    ∙ ap (λ (fs : List Field). numbered (get_or fields k []) (number_behind fs (get_or fields k []))) (append_assoc before (field ∷ []) (take k fields))

pub get_or-titles_of : (header : List Field) (k : ℕ) → k < length header → get_or (titles_of header) k [] ≡ numbered (get_or header k []) (number_in header k)
get_or-titles_of header k within = title_behind [] header k within

-- ---- a title that begins with a field

-- what stands behind the field decides
pub same_behind : (text mark rest title : Field) → title ≡ text ++ rest → bytes_eq mark rest ≡ bytes_eq (text ++ mark) title
same_behind text mark rest title begins = by (bytes_eq mark rest) (bytes_eq (text ++ mark) title) refl refl
  where
    by : (b d : Bool) → bytes_eq mark rest ≡ b → bytes_eq (text ++ mark) title ≡ d → b ≡ d
    by true true is whole = refl
    by false false is whole = refl
    by true false is whole =
        let same : mark ≡ rest = (bytes_eq-Decides mark rest).0 is in
        sym ((bytes_eq-Decides (text ++ mark) title).1 (ap (λ (m : Field). text ++ m) same ∙ sym begins)) ∙ whole
    by false true is whole =
        let same : mark ≡ rest = append_cancel_left text mark rest ((bytes_eq-Decides (text ++ mark) title).0 whole ∙ begins) in
        sym is ∙ (bytes_eq-Decides mark rest).1 same

-- a title that does not begin with the field is another one
pub not_begun : (text mark title : Field) → ((rest : Field) → title ≡ text ++ rest → ⊥) → false ≡ bytes_eq (text ++ mark) title
not_begun text mark title never = by (bytes_eq (text ++ mark) title) refl
  where
    by : (b : Bool) → bytes_eq (text ++ mark) title ≡ b → false ≡ b
    by false is = refl
    by true is = absurd (never mark (sym ((bytes_eq-Decides (text ++ mark) title).0 is)))
