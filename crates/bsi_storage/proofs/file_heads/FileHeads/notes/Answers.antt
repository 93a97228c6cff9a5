use Rattle.std.proofs.Common.{◌≡◌, ◌-◌, arith, ap, get_or, length, rules, sym, ◌∙◌}
use Rattle.bsi_storage.specs.ChosenFiles.{parts_in}
use Rattle.bsi_storage.specs.Saved.{Part}
use Rattle.bsi_storage.proofs.FileWalk.{head_is, last_part, some_head}
use Rattle.bsi_storage.proofs.file_heads.FileHeads.notes.Goals as goal

-- the last head is that of the last part
pub returns : goal.returns
returns c = λ known t notes kinds are.
    (let heads = c.args.self.now.heads.items in
    let long : c.len.result ≡ length heads = search rules in
    let some = some_head known heads t notes kinds are in
    let own = head_is known heads t notes kinds are (c.len.result - 1) c.index.result.now c.index.ensures (omega (arith, long, some)) in
    c.deref.ensures.value ∙ own.is.notes_are
    ∙ ap (λ k. (get_or (parts_in are.keeps) (k - 1) are.keeps.file.last).notes) long
    ∙ ap (λ (p : Part). p.notes) (last_part known heads t notes kinds are)
    ∙ sym are.keeps.file.notes_are)
