use Rattle.std.proofs.Common.{◌++◌, ◌∷◌, [], take, ap, sym, ◌∙◌, arith}
use Rattle.std.proofs.lemmas.List.{append_assoc, take_all}
use Rattle.bsi_digits.specs.Blocks.{block_entries}
use Rattle.bsi_digits.proofs.BlockEntries.{length-block_entries}
use Rattle.bsi_slices.proofs.BlockWords.{prefix_more}
use Rattle.bsi_slices.proofs.column.Column.push_block_reserved.Goals as goal

pub entries-preserved : goal.entries-preserved
entries-preserved g c =
    let before = g.Self.Column.entries c.args.self.now in
    let block = block_entries c.args.numbers.now c.args.not_null in
    let entry = c.then_some.result ∷ [] in
    record {
      entries = c.push_reserved.ensures.entries
          ∙ ap (λ es. es ++ entry) c.entries.invariant.entries
          ∙ append_assoc before (take c.entries.r block) entry
          ∙ ap (λ es. before ++ (take c.entries.r block ++ es)) (ap (λ e. e ∷ []) c.then_some.ensures)
          ∙ ap (λ es. before ++ es) (sym (prefix_more c.args.numbers.now c.args.not_null c.entries.r (omega (arith, c.entries-test.true))));
      form = c.push_reserved.ensures.form ∙ c.entries.invariant.form;
      room = omega (arith, c.push_reserved.ensures.room, c.entries.invariant.room);
    }

pub returns-clause-entries : goal.returns-clause-entries
returns-clause-entries g c =
    c.entries.invariant.entries
    ∙ ap (λ es. g.Self.Column.entries c.args.self.now ++ es)
    (take_all c.entries.r (block_entries c.args.numbers.now c.args.not_null)
    (omega (arith, c.entries-test.false, c.entries.auto.r-end, length-block_entries c.args.numbers.now c.args.not_null)))
