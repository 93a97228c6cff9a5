use Rattle.std.proofs.Common.{◌≡◌, ℤ, List, inl, inr, subst}
use Rattle.std.specs.Int.{w64}
use Rattle.std.specs.Prelude.{OnOk}
use Rattle.std.proofs.lemmas.Int.{to_z-of_z}
use Rattle.std.proofs.lemmas.Result.{IfOk-weaker}
use Rattle.bsi_rows.specs.Fields.{Field}
use Rattle.bsi_kinds.specs.Kinds.{Writes}
use Rattle.bsi_kinds.specs.declared.kind.Kind.TheVariants.{Text}
use Rattle.bsi_logical.proofs.ValueTexts.{value_text}
use Rattle.bsi_logical.proofs.notation.write_value.Goals as goal

-- each other kind
pub returns-in-Decimal : goal.returns-in-Decimal
returns-in-Decimal c =
    let no_text : (texts : List Field) → c.args.kind.now ≡ Text texts → ⊥ = λ texts text. elim c.in-Decimal.is [
      | inl one ↦ cc (one.1, text)
      | inr others ↦ elim others [
        | inl one ↦ cc (one.1, text)
        | inr others ↦ elim others [
          | inl one ↦ cc (one.1, text)
          | inr others ↦ elim others [ inl one ↦ cc (one.1, text) | inr one ↦ cc (one.1, text) ]
        ]
      ]
    ] in
    let written : OnOk c.write.result (Writes c.args.kind.now c.args.number c.args.line.now.items c.write.new.line.items) =
    subst (λ (n : ℤ). OnOk c.write.result (Writes c.args.kind.now n c.args.line.now.items c.write.new.line.items)) (to_z-of_z w64 c.args.number c.ranges.number) c.write.ensures in
    IfOk-weaker c.write.result _ _ (λ done is. value_text c.args.kind.now c.args.number c.args.line.now.items c.write.new.line.items no_text is) written
