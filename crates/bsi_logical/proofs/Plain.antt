-- The schema of kinds of plain columns is one.
use Rattle.std.proofs.Common.{◌≡◌, ℕ, ◌<◌, ◌≤◌, inl, inr, false, List, length, map, take, get_or, refl, sym, ap, ◌∙◌, subst, arith, All, zero, suc}
use Rattle.std.proofs.lemmas.Bool.{cases_order}
use Rattle.std.proofs.Math.ListN.{get_or-map}
use Rattle.std.proofs.lemmas.List.{get_or-map as mapped, get_or-take, length-map, length-take-le}
use Rattle.std.specs.Str.{bytes_eq}
use Rattle.bsi_schema.specs.Columns.{column_at, no_column, Declared, IsDeclared, NamedColumn}
use Rattle.bsi_kinds.specs.Kinds.{IsKind}
use Rattle.bsi_kinds.specs.declared.kind.Kind.TheVariants.{Decimal}
use Rattle.bsi_logical.specs.Logical.{plain_logical, title_of, IsLogical}
use Rattle.bsi_logical.proofs.Building.{none_passes, other_bytes}

module _ (schema : Declared) (declared : IsDeclared schema) where
  name_at : ℕ → List ℕ
  name_at c = (column_at schema.columns c).name

  -- a name is none of those before it
  apart : (a b : ℕ) → a < b → b < length schema.columns → (column_at schema.columns a).name ≡ (column_at schema.columns b).name → ⊥
  apart a b before within same =
      let fresh = (declared.each b within).fresh in
      let long : length (take b schema.columns) ≡ b = length-take-le b schema.columns (omega arith) in
      let there : a < length (take b schema.columns) = omega arith in
      let differs : bytes_eq (column_at schema.columns b).name (get_or (take b schema.columns) a no_column).name ≡ false =
      none_passes (λ (column : NamedColumn). bytes_eq (column_at schema.columns b).name column.name) (take b schema.columns) fresh a no_column there in
      other_bytes (column_at schema.columns b).name (column_at schema.columns a).name
      (ap (λ (column : NamedColumn). bytes_eq (column_at schema.columns b).name column.name) (sym (get_or-take b schema.columns a no_column before)) ∙ differs) same

  one_place : (a b : ℕ) → a < length schema.columns → b < length schema.columns → (column_at schema.columns a).name ≡ (column_at schema.columns b).name → a ≡ b
  one_place a b in_a in_b same = elim (cases_order a b) [
    | inl is ↦ is
    | inr (inl before) ↦ absurd (apart a b before in_b same)
    | inr (inr behind) ↦ absurd (apart b a behind in_a (sym same))
  ]

  few : (n : ℕ) → n ≡ length schema.columns → n ≤ 64
  few zero is = omega arith
  few (suc n) is = let last = (declared.each n (omega arith)).few in omega (arith, last, length-take-le n schema.columns (omega arith))

  whole : (columns : List NamedColumn) → All IsKind (map (λ (column : NamedColumn). Decimal 0) columns)
  whole columns = λ k d within.
      let inside : k < length columns = omega (arith, within, length-map columns (λ (column : NamedColumn). Decimal 0)) in
      let few : 0 ≤ 18 = omega arith in
      subst IsKind (sym (mapped (λ (column : NamedColumn). Decimal 0) columns k no_column d inside)) few

  titled : (c : ℕ) → title_of (plain_logical schema 0) c ≡ (column_at schema.columns c).name
  titled c = get_or-map (λ (column : NamedColumn). column.name) schema.columns c no_column

  count : length (map (λ (column : NamedColumn). column.name) schema.columns) ≡ length schema.columns
  count = length-map schema.columns (λ (column : NamedColumn). column.name)

  pub plain_is : (limit : ℕ) → IsLogical (plain_logical schema limit)
  plain_is limit = record {
    titled = count;
    few = omega (arith, count, few (length schema.columns) refl);
    kinded = length-map schema.columns (λ (column : NamedColumn). Decimal 0);
    kinds = whole schema.columns;
    titles = λ a b in_a in_b same. one_place a b (omega (arith, count, in_a)) (omega (arith, count, in_b)) (sym (titled a) ∙ same ∙ titled b);
    names = λ a b in_a in_b same. one_place a b (omega (arith, count, in_a)) (omega (arith, count, in_b)) (sym (titled a) ∙ same);
    dialect = refl;
  }
