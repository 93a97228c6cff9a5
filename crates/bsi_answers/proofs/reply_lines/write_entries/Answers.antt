use Rattle.std.proofs.Common.{◌∙◌, ℕ, None, get_or, slice_index, ap, arith, subst}
use Rattle.std.proofs.lemmas.List.{take_all}
use Rattle.bsi_syntax.specs.Notations.{AppendsText}
use Rattle.bsi_answers.specs.ReplyLines.{IsEntryText}
use Rattle.bsi_answers.proofs.Entries.{entries_all, entries_none, first_entry, next_entry}
use Rattle.bsi_answers.proofs.reply_lines.write_entries.Goals as goal
use Rattle.bsi_answers.proofs.reply_lines.write_entries.Goals.{then-at-gt0+in_ok-extend_from_slice, else-at-gt0}

pub entries-init : goal.entries-init
entries-init g c = entries_none (g.N.Notation.number_texts c.args.notation.now) c.args.by.now c.args.line.now.items c.args.entries.now

pub entries-preserved : goal.entries-preserved
entries-preserved g c =
    let one : AppendsText (IsEntryText (g.N.Notation.number_texts c.args.notation.now (slice_index c.args.by.now c.entries.at)) (get_or c.args.entries.now c.entries.at None))
    c.if-at-gt0.line.items c.write_entry.new.line.items =
    subst (λ (column : ℕ). AppendsText (IsEntryText (g.N.Notation.number_texts c.args.notation.now column) (get_or c.args.entries.now c.entries.at None))
    c.if-at-gt0.line.items c.write_entry.new.line.items) c.find_column_at.ensures c.in_ok-write_entry.ensures in
    elim c.if-at-gt0.branch [
      | then-at-gt0+in_ok-extend_from_slice w ↦
          next_entry (g.N.Notation.number_texts c.args.notation.now) c.args.by.now c.args.line.now.items c.args.entries.now None c.entries.at c.entries.line.items
          c.if-at-gt0.line.items c.write_entry.new.line.items (omega (arith, c.entries-test.true)) c.entries.invariant one
          (omega (arith, w.if-at-gt0.true)) (ap (λ v. v.items) w.line-is ∙ w.in_ok-extend_from_slice.ensures.items)
      | else-at-gt0 w ↦
          first_entry (g.N.Notation.number_texts c.args.notation.now) c.args.by.now c.args.line.now.items c.args.entries.now None c.entries.at c.entries.line.items
          c.if-at-gt0.line.items c.write_entry.new.line.items (omega (arith, c.entries-test.true)) c.entries.invariant one
          (omega (arith, w.if-at-gt0.false)) (ap (λ v. v.items) w.line-is)
    ]

-- all entries are written
pub returns : goal.returns
returns g c =
    entries_all (g.N.Notation.number_texts c.args.notation.now) c.args.by.now c.args.line.now.items c.args.entries.now c.entries.at c.entries.line.items
    (take_all c.entries.at c.args.entries.now (omega (arith, c.entries-test.false))) c.entries.invariant
