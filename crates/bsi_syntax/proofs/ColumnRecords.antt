-- The records that declare a column.
use Rattle.std.proofs.Common.{◌≡◌, ◌^◌, ◌<◌, ◌≤◌, true, false, ◌&&◌, List, [], ◌∷◌, length, get_or, drop, Option, Some, None, is_none, is_some, unwrap_or, option_map, option_and_then, if◌then◌else◌, ℤ, pos, ◌+ℤ◌, refl, sym, ◌∙◌, ap, subst, arith}
use Rattle.std.specs.Prelude.{int_le, IsUtf8}
use Rattle.bsi_schema.specs.declared.form.ColumnSpec.{ColumnSpec}
use Rattle.bsi_schema.specs.declared.form.Form.{Form}
use Rattle.bsi_schema.specs.Columns.{Declared, named_column, size_in, with_column}
use Rattle.bsi_rows.specs.Fields.{Field}
use Rattle.bsi_syntax.specs.Numbers.{offset_of}
use Rattle.bsi_syntax.specs.Setups.{added_after, checked_form, column_after, form_in, given_offset, with_new_column}
use Rattle.bsi_syntax.proofs.Adding.{no_text}
use Rattle.bsi_syntax.proofs.Fields.{three_behind}

-- ---- what stands after the sizes

pub many_given : (fields : List Field) → 1 < length fields → given_offset fields ≡ None
many_given [] many = absurd (omega arith)
many_given (a ∷ []) many = absurd (omega arith)
many_given (a ∷ b ∷ fields) many = refl

-- ---- by the form and the offset that are read

abbrev by_parts : Declared → Field → Option Form → Option (Option ℤ) → Option Declared
by_parts schema name form given = option_and_then (λ o. option_and_then (λ f. with_new_column schema name (is_some o) f (unwrap_or o (pos 0))) form) given

column_by : (schema : Declared) (name form sizes : Field) (rest : List Field)
    → column_after schema (name ∷ form ∷ sizes ∷ rest) ≡ by_parts schema name (form_in form sizes) (given_offset rest)
column_by schema name form sizes [] = by_form (form_in form sizes)
  where
    by_form : (found : Option Form) → option_and_then (λ f. with_new_column schema name false f (pos 0)) found ≡ by_parts schema name found (Some None)
    by_form found = refl
column_by schema name form sizes (offset ∷ []) = by_both (form_in form sizes) (offset_of offset)
  where
    by_both : (found : Option Form) (given : Option ℤ)
        → option_and_then (λ f. option_and_then (λ o. with_new_column schema name true f o) given) found ≡ by_parts schema name found (option_map (λ x. Some x) given)
    by_both None None = refl
    by_both None (Some x) = refl
    by_both (Some f) None = refl
    by_both (Some f) (Some x) = refl
column_by schema name form sizes (offset ∷ another ∷ rest) = refl

pub too_few : (schema : Declared) (fields : List Field) → length fields < 4 → column_after schema (drop 1 fields) ≡ None
too_few schema [] few = refl
too_few schema (a ∷ []) few = refl
too_few schema (a ∷ b ∷ []) few = refl
too_few schema (a ∷ b ∷ c ∷ []) few = refl
too_few schema (a ∷ b ∷ c ∷ d ∷ fields) few = absurd (omega arith)

module _ (schema : Declared) (fields : List Field) (four : 4 ≤ length fields) where
  whole : column_after schema (drop 1 fields)
      ≡ by_parts schema (get_or fields 1 []) (form_in (get_or fields 2 []) (get_or fields 3 [])) (given_offset (drop 4 fields))
  whole = ap (column_after schema) (three_behind fields four) ∙ column_by schema (get_or fields 1 []) (get_or fields 2 []) (get_or fields 3 []) (drop 4 fields)

  -- neither an offset nor nothing
  pub unplaced : given_offset (drop 4 fields) ≡ None → column_after schema (drop 1 fields) ≡ None
  unplaced none = whole ∙ ap (by_parts schema (get_or fields 1 []) (form_in (get_or fields 2 []) (get_or fields 3 []))) none

  module _ (name : Field) (first : get_or fields 1 [] ≡ name) where
    -- no column has a name that is no text
    pub unnamed : (IsUtf8 name → ⊥) → column_after schema (drop 1 fields) ≡ None
    unnamed wrong = whole ∙ by (form_in (get_or fields 2 []) (get_or fields 3 [])) (given_offset (drop 4 fields))
      where
        by : (form : Option Form) (given : Option (Option ℤ)) → by_parts schema (get_or fields 1 []) form given ≡ None
        by form None = refl
        by None (Some offset) = refl
        by (Some f) (Some offset) =
            ap (λ o. if is_none o && int_le (unwrap_or offset (pos 0) +ℤ pos (size_in f)) (pos (2 ^ 63))
            then Some (with_column schema (named_column (get_or fields 1 []) f (unwrap_or offset (pos 0))) (is_some offset)) else None)
            (no_text schema (get_or fields 1 []) (λ text. wrong (subst IsUtf8 first text)))

    module _ (form sizes : Field) (second : get_or fields 2 [] ≡ form) (third : get_or fields 3 [] ≡ sizes) where
      parts : column_after schema (drop 1 fields) ≡ by_parts schema name (form_in form sizes) (given_offset (drop 4 fields))
      parts =
          whole ∙ ap (λ n. by_parts schema n (form_in (get_or fields 2 []) (get_or fields 3 [])) (given_offset (drop 4 fields))) first
          ∙ ap (λ w. by_parts schema name (form_in w (get_or fields 3 [])) (given_offset (drop 4 fields))) second
          ∙ ap (λ s. by_parts schema name (form_in form s) (given_offset (drop 4 fields))) third

      -- there is no such form
      pub formless : form_in form sizes ≡ None → column_after schema (drop 1 fields) ≡ None
      formless none = parts ∙ ap (λ f. by_parts schema name f (given_offset (drop 4 fields))) none ∙ by (given_offset (drop 4 fields))
        where
          by : (given : Option (Option ℤ)) → by_parts schema name None given ≡ None
          by None = refl
          by (Some offset) = refl

      pub column_is : (spec : ColumnSpec) (offset : Option ℤ) → checked_form spec ≡ form_in form sizes → given_offset (drop 4 fields) ≡ Some offset
          → column_after schema (drop 1 fields) ≡ added_after schema name spec offset
      column_is spec offset had given =
          parts ∙ ap (by_parts schema name (form_in form sizes)) given ∙ ap (λ f. by_parts schema name f (Some offset)) (sym had)
