use Rattle.std.proofs.Common.{◌∷◌, [], append-nil, inl, inr, sym, ◌∙◌}
use Rattle.bsi_pruning.proofs.Answered.{more_more}
use Rattle.bsi_pruning.proofs.choosing.choose_first.Goals as goal

pub columns-init : goal.columns-init
columns-init c = record { more = record { more = []; new_is = sym (append-nil c.args.chosen.now.items) } }

pub columns-preserved : goal.columns-preserved
columns-preserved c =
    let first = c.args.chosen.now.items in
    let old = c.columns.chosen.items in
    let new = c.choose_column.new.chosen.items in
    elim c.in_ok-choose_column.ensures.more [
      | inl same ↦ record { more = more_more first old new [] c.columns.invariant.more (same ∙ sym (append-nil old)) }
      | inr one ↦ record { more = more_more first old new (c.columns.c ∷ []) c.columns.invariant.more one }
    ]
