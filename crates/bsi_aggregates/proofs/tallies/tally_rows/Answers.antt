use Rattle.std.proofs.Common.{◌≡◌, ◌++◌, ℕ, List, take, drop, ◌+◌, ◌*◌, length, ap, sym, subst, ◌∙◌, arith}
use Rattle.std.proofs.Math.Seq.{take-append_seam}
use Rattle.std.specs.Option.{option_map}
use Rattle.bsi_shift.specs.Shifted.{shifted_entries}
use Rattle.bsi_aggregates.specs.Tallies.{entries_or_nulls, AreEntryTallies}
use Rattle.bsi_aggregates.proofs.Tallied.{read_long, all_rows, no_rows, none_found}
use Rattle.bsi_aggregates.proofs.tallies.tally_rows.Goals.{else-rows-ne0, then-rows-ne0}
use Rattle.bsi_aggregates.proofs.tallies.tally_rows.Goals as goal

written_back : {X : Type 0} (new old : List X) (n : ℕ) → n ≡ length new → take n (new ++ drop (length new) old) ≡ new
written_back new old n whole = ap (λ k. take k (new ++ drop (length new) old)) whole ∙ take-append_seam new (drop (length new) old)

pub words-preserved : goal.words-preserved
words-preserved c =
    let keys = c.args.keys.now in
    let selection = c.args.selection.now.bits in
    let entries = entries_or_nulls c.args.selection.now.bits (option_map (λ c. shifted_entries c.now) c.args.entries) in
    let long = read_long selection c.args.entries c.requires.entries in
    let words = c.words-rows-items.result.now in
    elim c.if-rows-ne0.branch [
      | then-rows-ne0 w ↦ subst (AreEntryTallies keys entries selection (64 * (c.words.at + 1))) (sym (ap (λ v. v.items) w.tallies-is ∙ written_back w.tally_block.new.tallies c.words.tallies.items c.words.tallies.len
          (omega (arith, c.words.invariant.long, w.tally_block.ensures.long, c.words.tallies.ok.0)))) w.tally_block.ensures
      | else-rows-ne0 w ↦
          let next : 64 * c.words.at + 64 ≡ 64 * (c.words.at + 1) = omega arith in
          subst (AreEntryTallies keys entries selection (64 * (c.words.at + 1))) (sym (ap (λ v. v.items) w.tallies-is))
          (subst (λ n. AreEntryTallies keys entries selection n c.words.tallies.items) next
          (no_rows keys entries selection c.requires.keys long 64 (64 * c.words.at) c.words.tallies.items c.words.invariant
          (none_found words selection c.words-rows-items.ensures.places c.words.at w.if-rows-ne0.false)))
    ]

pub returns : goal.returns
returns c =
    all_rows c.args.keys.now (entries_or_nulls c.args.selection.now.bits (option_map (λ c. shifted_entries c.now) c.args.entries)) c.args.selection.now.bits c.requires.keys (read_long c.args.selection.now.bits c.args.entries c.requires.entries) (64 * c.words.at) c.words.tallies.items c.words.invariant
    (omega (arith, c.words-rows-items.ensures.few, c.words-test.false))
