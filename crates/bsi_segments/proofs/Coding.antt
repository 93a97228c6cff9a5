-- Words that begin with those of a schema begin with those of no other.
use Rattle.std.proofs.Common.{◌≡◌, ℕ, suc, ◌-◌, ◌<◌, ◌≤◌, Bool, true, false, List, [], ◌∷◌, ◌++◌, length, get_or, take, drop, ℤ, refl, sym, ap, ap₂, subst, ◌∙◌, arith, append_assoc, append-nil, drop-cons, inl, inr, length-append, length-drop}
use Rattle.std.specs.Prelude.{if◌then◌else◌}
use Rattle.std.specs.Int.{w64, cast_signed, cast_unsigned, div_ceil}
use Rattle.std.specs.Int.RustNames.{FitsSigned}
use Rattle.std.specs.List.{flat_map}
use Rattle.std.proofs.lemmas.Int.{ints, to_z-of_z}
use Rattle.std.proofs.Math.Seq.{get_or-append_seam}
use Rattle.std.proofs.lemmas.Bool.{cases_eq, cases_lt}
use Rattle.std.proofs.lemmas.Grind.{flat_map-append}
use Rattle.std.proofs.lemmas.List.{drop_all, drop_at, get_or_append_left, get_or_past, take_all, take_at}
use Rattle.std.proofs.lemmas.Nat.{pow_pos}
use Rattle.bsi_digits.proofs.CallerLemmas.{size_pos}
use Rattle.bsi_schema.specs.Columns.{column_at, no_column, size_in, Declared, IsDeclared, IsForm, MayFollow, NamedColumn}
use Rattle.bsi_schema.specs.declared.form.Form.{Form}
use Rattle.bsi_schema.specs.declared.form.Form.TheVariants.{Slices, Equality, Range}
use Rattle.bsi_schema.proofs.NoNames.{name_is_ascii}
use Rattle.bsi_segments.specs.Bytes.{packed_bytes, text_words, AreBytes}
use Rattle.bsi_segments.specs.Schemas.{column_words, encoded_schema, form_words, FitsWords}
use Rattle.bsi_segments.proofs.Eights.{length-words_of}
use Rattle.bsi_segments.proofs.Padding.{same_bytes}

-- a list from a place to its end
pub behind : (k : ℕ) (words : List ℕ) → take (length words - k) (drop k words) ≡ drop k words
behind k words = take_all (length words - k) (drop k words) (omega (arith, length-drop k words))

-- two lists that begin with as many words
split_same : (xs ys x y : List ℕ) → length xs ≡ length ys → xs ++ x ≡ ys ++ y → (xs ≡ ys) × (x ≡ y)
split_same xs ys x y long same = (
  sym (take_at xs x (length xs) refl) ∙ ap (take (length xs)) same ∙ take_at ys y (length xs) (sym long),
  sym (drop_at xs x (length xs) refl) ∙ ap (drop (length xs)) same ∙ drop_at ys y (length xs) (sym long),
)

-- one word in front
front_same : (a b : ℕ) (x y : List ℕ) → a ∷ x ≡ b ∷ y → (a ≡ b) × (x ≡ y)
front_same a b x y same = (ap (λ ws. get_or ws 0 0) same, ap (drop 1) same)

pub same_text : (a b x y : List ℕ) → AreBytes a → AreBytes b → text_words a ++ x ≡ text_words b ++ y → (a ≡ b) × (x ≡ y)
same_text a b x y a_are b_are same =
    let lens = front_same (length a) (length b) (packed_bytes a ++ x) (packed_bytes b ++ y) same in
    let few : length (packed_bytes a) ≡ length (packed_bytes b) = length-words_of (div_ceil (length a) 8) a ∙ ap (λ n. div_ceil n 8) lens.0 ∙ sym (length-words_of (div_ceil (length b) 8) b) in
    let parts = split_same (packed_bytes a) (packed_bytes b) x y few lens.1 in
    (same_bytes a b a_are b_are lens.0 parts.0, parts.1)

bases_same : (kind : ℕ) (a b x y : List ℕ) → kind ∷ length a ∷ (a ++ x) ≡ kind ∷ length b ∷ (b ++ y) → (a ≡ b) × (x ≡ y)
bases_same kind a b x y same =
    let lens = front_same (length a) (length b) (a ++ x) (b ++ y) (ap (drop 1) same) in
    split_same a b x y lens.0 lens.1

pub same_form : (f g : Form) (x y : List ℕ) → form_words f ++ x ≡ form_words g ++ y → (f ≡ g) × (x ≡ y)
same_form (Slices v) (Slices w) x y same =
    let widths = front_same v w x y (ap (drop 1) same) in (ap Slices widths.0, widths.1)
same_form (Slices v) (Equality b) x y same = absurd (omega (arith, ap (λ ws. get_or ws 0 0) same))
same_form (Slices v) (Range b) x y same = absurd (omega (arith, ap (λ ws. get_or ws 0 0) same))
same_form (Equality a) (Slices w) x y same = absurd (omega (arith, ap (λ ws. get_or ws 0 0) same))
same_form (Equality a) (Equality b) x y same = let parts = bases_same 1 a b x y same in (ap Equality parts.0, parts.1)
same_form (Equality a) (Range b) x y same = absurd (omega (arith, ap (λ ws. get_or ws 0 0) same))
same_form (Range a) (Slices w) x y same = absurd (omega (arith, ap (λ ws. get_or ws 0 0) same))
same_form (Range a) (Equality b) x y same = absurd (omega (arith, ap (λ ws. get_or ws 0 0) same))
same_form (Range a) (Range b) x y same = let parts = bases_same 2 a b x y same in (ap Range parts.0, parts.1)

offset_same : (a b : ℤ) → FitsSigned w64 a → FitsSigned w64 b → cast_unsigned w64 a ≡ cast_unsigned w64 b → a ≡ b
offset_same a b a_fits b_fits same = sym (to_z-of_z w64 a a_fits) ∙ ap (cast_signed w64) same ∙ to_z-of_z w64 b b_fits

-- the words of a column and those behind it
pub column_parts : (a : NamedColumn) (x : List ℕ) → column_words a ++ x ≡ text_words a.name ++ (form_words a.form ++ (cast_unsigned w64 a.offset ∷ x))
column_parts a x =
    append_assoc (text_words a.name) (form_words a.form ++ cast_unsigned w64 a.offset ∷ []) x
    ∙ ap (λ ws. text_words a.name ++ ws) (append_assoc (form_words a.form) (cast_unsigned w64 a.offset ∷ []) x)

pub same_column : (a b : NamedColumn) (x y : List ℕ) → FitsWords a → FitsWords b → column_words a ++ x ≡ column_words b ++ y → (a ≡ b) × (x ≡ y)
same_column a b x y a_is b_is same =
    let named = same_text a.name b.name (form_words a.form ++ (cast_unsigned w64 a.offset ∷ x)) (form_words b.form ++ (cast_unsigned w64 b.offset ∷ y)) a_is.name b_is.name (sym (column_parts a x) ∙ same ∙ column_parts b y) in
    let formed = same_form a.form b.form (cast_unsigned w64 a.offset ∷ x) (cast_unsigned w64 b.offset ∷ y) named.1 in
    let last = front_same (cast_unsigned w64 a.offset) (cast_unsigned w64 b.offset) x y formed.1 in
    let offset = offset_same a.offset b.offset a_is.offset b_is.offset last.0 in
    ((λ i. record { name = named.0 i; form = formed.0 i; offset = offset i }), last.1)

-- all of these are such
abbrev pub AllFit : List NamedColumn → Type 0
AllFit columns = (c : ℕ) → c < length columns → FitsWords (column_at columns c)

-- the columns in front, and the words behind them
pub same_columns : (cs ds : List NamedColumn) (x y : List ℕ) → AllFit cs → AllFit ds → length cs ≤ length ds → flat_map column_words cs ++ x ≡ flat_map column_words ds ++ y
    → (cs ≡ take (length cs) ds) × (x ≡ flat_map column_words (drop (length cs) ds) ++ y)
same_columns [] ds x y cs_are ds_are few same = (refl, same)
same_columns (c ∷ cs) [] x y cs_are ds_are few same = absurd (omega arith)
same_columns (c ∷ cs) (d ∷ ds) x y cs_are ds_are few same =
    let opened = sym (append_assoc (column_words c) (flat_map column_words cs) x) ∙ same ∙ append_assoc (column_words d) (flat_map column_words ds) y in
    let first = same_column c d (flat_map column_words cs ++ x) (flat_map column_words ds ++ y) (cs_are 0 (omega arith)) (ds_are 0 (omega arith)) opened in
    let rest = same_columns cs ds x y (λ k within. cs_are (suc k) (omega arith)) (λ k within. ds_are (suc k) (omega arith)) (omega arith) first.1 in
    (ap₂ ◌∷◌ first.0 rest.0, rest.1)

-- ---- the columns of a schema

-- a column that may be declared is told by its words
pub fits_words : (columns : List NamedColumn) (signed : Bool) (column : NamedColumn) → MayFollow columns signed column → FitsWords column
fits_words columns signed column may = record {
  name = record { each = λ i. byte i };
  offset = fits;
}
  where
    byte : (i : ℕ) → get_or column.name i 0 < 256
    byte i = elim (cases_lt i (length column.name)) [
      | inl within ↦ let small : get_or column.name i 0 < 128 = name_is_ascii column.name may.name i 0 within in omega (arith, small)
      | inr past ↦ omega (arith, get_or_past column.name i 0 past)
    ]

    some : (form : Form) → IsForm form → 1 ≤ size_in form
    some (Slices w) valid = pow_pos w
    some (Equality bases) valid = size_pos valid
    some (Range bases) valid = size_pos valid

    fits : FitsSigned w64 column.offset
    fits = let one = some column.form may.valid.form in let low = may.valid.low in let below = may.valid.below in search (arith, ints)

pub all_fit : (schema : Declared) → IsDeclared schema → AllFit schema.columns
all_fit schema declared = λ c within. fits_words (take c schema.columns) schema.signed (column_at schema.columns c) (declared.each c within)

-- behind the first columns stands the next one
pub next_column : (words rest more : List ℕ) (columns : List NamedColumn) (schema : Declared) → AllFit columns → IsDeclared schema → length columns < length schema.columns
    → words ≡ flat_map column_words columns ++ rest → words ≡ flat_map column_words schema.columns ++ more
    → (columns ≡ take (length columns) schema.columns) × (rest ≡ column_words (column_at schema.columns (length columns)) ++ (flat_map column_words (drop (suc (length columns)) schema.columns) ++ more))
next_column words rest more columns schema fit declared within consumed is =
    let same = same_columns columns schema.columns rest more fit (all_fit schema declared) (omega arith) (sym consumed ∙ is) in
    let k = length columns in (
      same.0,
      same.1 ∙ ap (λ cs. flat_map column_words cs ++ more) (drop-cons schema.columns k no_column within)
          ∙ append_assoc (column_words (column_at schema.columns k)) (flat_map column_words (drop (suc k) schema.columns)) more,
    )

-- one more column
pub split_more : (words rest behind : List ℕ) (columns new : List NamedColumn) (column : NamedColumn) → new ≡ columns ++ column ∷ [] → words ≡ flat_map column_words columns ++ rest → rest ≡ column_words column ++ behind
    → words ≡ flat_map column_words new ++ behind
split_more words rest behind columns new column is consumed next =
    consumed ∙ ap (λ ws. flat_map column_words columns ++ ws) next
    ∙ sym (append_assoc (flat_map column_words columns) (column_words column) behind)
    ∙ ap (λ ws. (flat_map column_words columns ++ ws) ++ behind) (sym (append-nil (column_words column)))
    ∙ ap (λ ws. ws ++ behind) (sym (flat_map-append column_words columns (column ∷ [])))
    ∙ ap (λ cs. flat_map column_words cs ++ behind) (sym is)

pub fit_more : (columns new : List NamedColumn) (column : NamedColumn) → new ≡ columns ++ column ∷ [] → AllFit columns → FitsWords column → AllFit new
fit_more columns new column is fit fits = λ c within. elim (cases_eq c (length columns)) [
  | inl last ↦ subst FitsWords (sym (ap (λ cs. column_at cs c) is ∙ ap (column_at (columns ++ column ∷ [])) last ∙ get_or-append_seam columns column [] no_column)) fits
  | inr other ↦
      let before : c < length columns = omega (arith, within, other, ap length is, length-append columns (column ∷ [])) in
      subst FitsWords (sym (ap (λ cs. column_at cs c) is ∙ get_or_append_left columns (column ∷ []) no_column c before)) (fit c before)
]

-- words that begin with those of two schemas
pub same_schema : (a b : Declared) (x y : List ℕ) → IsDeclared a → IsDeclared b → encoded_schema a ++ x ≡ encoded_schema b ++ y → (a ≡ b) × (x ≡ y)
same_schema a b x y a_is b_is same =
    let count : length a.columns ≡ length b.columns = ap (λ ws. get_or ws 0 0) same in
    let flag = flag_same a.signed b.signed (ap (λ ws. get_or ws 1 0) same) in
    let columns = same_columns a.columns b.columns x y (all_fit a a_is) (all_fit b b_is) (omega arith) (ap (drop 2) same) in
    let all = columns.0 ∙ ap (λ n. take n b.columns) count ∙ take_all (length b.columns) b.columns (omega arith) in
    let none : drop (length a.columns) b.columns ≡ [] = ap (λ n. drop n b.columns) count ∙ drop_all (length b.columns) b.columns (omega arith) in
    ((λ i. record { columns = all i; signed = flag i }), columns.1 ∙ ap (λ cs. flat_map column_words cs ++ y) none)
  where
    flag_same : (p q : Bool) → ◌≡◌ {A = ℕ} (if p then 1 else 0) (if q then 1 else 0) → p ≡ q
    flag_same true true same = refl
    flag_same true false same = absurd (omega (arith, same))
    flag_same false true same = absurd (omega (arith, same))
    flag_same false false same = refl
