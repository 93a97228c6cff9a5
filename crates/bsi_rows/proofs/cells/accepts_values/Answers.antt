use Rattle.std.proofs.Common.{◌≡◌, Option, None, ℤ, true, true≢false, arith, rules, sym, subst, ◌∙◌}
use Rattle.std.proofs.lemmas.List.Elements.{All-get_or}
use Rattle.bsi_digits.specs.Blocks.{value_entries}
use Rattle.bsi_digits.proofs.BlockEntries.{get_or-value_entries, length-value_entries, All-value_entries}
use Rattle.bsi_schema.specs.Columns.{is_between}
use Rattle.bsi_rows.proofs.cells.accepts_values.Goals as goal

-- an entry that is not taken is one of them
pub returns-then-not-accepts : goal.returns-then-not-accepts
returns-then-not-accepts c =
    let values = c.args.values.now in
    let accepted = λ (entry : Option ℤ). is_between c.args.limits.least c.args.limits.size entry ≡ true in (
      λ no. absurd (true≢false (sym no)),
      λ all. absurd (true≢false (sym (subst accepted (sym c.value_at.ensures)
          (subst accepted (get_or-value_entries values c.args.not_null c.rows.r c.rows-test.true)
          (All-get_or accepted (value_entries values c.args.not_null) c.rows.r None (omega (arith, c.rows-test.true, length-value_entries values c.args.not_null)) all))) ∙ sym c.accepts.ensures ∙ c.if-not-accepts.true)),
    )

pub returns : goal.returns
returns c = (
  λ yes. All-value_entries c.args.values.now c.args.not_null (λ entry. is_between c.args.limits.least c.args.limits.size entry ≡ true)
      (λ r within. c.rows.invariant r (omega (arith, within, c.rows-test.false))),
  λ all. search rules,
)
