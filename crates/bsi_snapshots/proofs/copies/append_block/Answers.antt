use Rattle.std.proofs.Common.{◌++◌, ◌∷◌, [], drop, refl, ap, ◌∙◌}
use Rattle.std.proofs.lemmas.List.{append-nil}
use Rattle.bsi_snapshots.specs.Versions.{pending_rows}
use Rattle.bsi_snapshots.specs.declared.operation.Operation.TheVariants.{Block as block_operation}
use Rattle.bsi_snapshots.proofs.Writing.{known_after, pending_rows-append, staged_all}
use Rattle.bsi_snapshots.proofs.copies.append_block.Goals as goal

-- the block version_is last among the pending operations
pub returns-in-Ok-clause-staged : goal.returns-in-Ok-clause-staged
returns-in-Ok-clause-staged g c =
    let pending = drop c.args.copies.now.behind c.args.copies.now.log.items in
    let more = drop c.append.new.self.behind c.append.new.self.log.items in
    let buffer = c.args.block.now.rows in
    let rows = ap pending_rows c.in-Ok.ensures.pending ∙ pending_rows-append pending (block_operation c.replace.result ∷ [])
    ∙ ap (λ xs. pending_rows pending ++ xs) (append-nil c.replace.result.rows ∙ ap (λ b. b.rows) c.replace.ensures.value) in
    staged_all pending more buffer c.replace.new.dest.rows
    (λ e. known_after e pending more (block_operation c.replace.result) c.in-Ok.ensures.pending (λ d. refl)) rows (ap (λ b. b.rows) c.replace.ensures.after ∙ ap (λ b. b.rows) c.in_ok-next.ensures)
