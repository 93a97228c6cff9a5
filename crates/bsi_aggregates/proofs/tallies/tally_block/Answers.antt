use Rattle.std.proofs.Common.{◌≡◌, ◌++◌, ◌∷◌, [], All, ◌+◌, ◌*◌, ℕ, ℤ, Option, None, SFits, w64, pos, get_or, ap, sym, subst, ◌∙◌, rules, arith, to_z, of_z, to_z-of_z}
use Rattle.std.specs.Prelude.{◌==◌}
use Rattle.std.specs.Option.{option_map}
use Rattle.bsi_digits.specs.Offsets.{IsInRange}
use Rattle.bsi_shift.specs.Shifted.{shifted_entries, shifted_size, OffsetColumn}
use Rattle.bsi_aggregates.specs.Tallies.{entries_or_nulls, AreEntryTallies, IsTally, IsTallyIndex}
use Rattle.bsi_aggregates.proofs.Tallied.{read_long, entry_placed, few_rows, found_bit, in_range, no_row, not_one, one_row, place_within}
use Rattle.bsi_aggregates.proofs.TopsPlaces.{set_within}
use Rattle.bsi_aggregates.proofs.tallies.tally_block.Goals.{else-rows-r-eq1, then-rows-r-eq1}
use Rattle.bsi_aggregates.proofs.tallies.tally_block.Goals as goal

module _ (keys : OffsetColumn) (offset : ℤ) (size : ℕ) (offset_is : offset ≡ keys.offset) (size_is : size ≡ shifted_size keys) where
  -- the entry of a row is in range
  range_of : (n : ℕ) (e : Option ℤ) → (e ≡ get_or (shifted_entries keys) n None) → All (IsInRange keys.offset (shifted_size keys)) (shifted_entries keys) → IsInRange offset size e
  range_of n e is all =
      subst (IsInRange offset size) (sym is) (subst (λ o. IsInRange o size (get_or (shifted_entries keys) n None)) (sym offset_is)
      (subst (λ s. IsInRange keys.offset s (get_or (shifted_entries keys) n None)) (sym size_is) (in_range (IsInRange keys.offset (shifted_size keys)) (shifted_entries keys) n all tt)))

  -- so is the place of its tally
  placed : (e : Option ℤ) (k : ℕ) → IsTallyIndex offset size e k → IsTallyIndex keys.offset (shifted_size keys) e k
  placed e k is = subst (λ o. IsTallyIndex o (shifted_size keys) e k) offset_is (subst (λ s. IsTallyIndex offset s e k) size_is is)

pub tally_index-index-requires-clause-range : goal.tally_index-index-requires-clause-range
tally_index-index-requires-clause-range c =
    let fits : SFits w64 c.offset-offset.result = search rules in
    range_of c.args.keys.now (to_z w64 (of_z w64 c.offset-offset.result)) c.size-size.result (to_z-of_z fits ∙ c.offset-offset.ensures) c.size-size.ensures.size
    (64 * c.args.at + c.rows.r) c.entry_in.result (c.entry_in.ensures ∙ c.read_block-keys_there.ensures.entries c.rows.r c.rows-test.true) c.size-size.ensures.range

pub with-requires-clause-few : goal.with-requires-clause-few
with-requires-clause-few c =
    let selection = c.args.selection.now.bits in
    let bit = sym (found_bit c.words.result.now selection c.words.ensures.places c.args.at c.rows.r c.rows-test.true) ∙ ap (λ b. b == 1) c.if-rows-r-eq1.true in
    let within = set_within selection (64 * c.args.at + c.rows.r) bit in
    let few = few_rows c.args.keys.now (entries_or_nulls c.args.selection.now.bits (option_map (λ c. shifted_entries c.now) c.args.entries)) selection c.requires.keys (read_long selection c.args.entries c.requires.entries) (64 * c.args.at + c.rows.r) c.rows.tallies c.rows.invariant
    c.tally_index-index.result (record { rows = 0; sum = pos 0; least = None; greatest = None }) (search rules) in
    omega (arith, few, within, c.len.ensures.len, c.len.ensures.within)

pub rows-preserved : goal.rows-preserved
rows-preserved c =
    let n = 64 * c.args.at + c.rows.r in
    let next : n + 1 ≡ 64 * c.args.at + (c.rows.r + 1) = omega arith in
    let keys = c.args.keys.now in
    let selection = c.args.selection.now.bits in
    let entries = entries_or_nulls c.args.selection.now.bits (option_map (λ c. shifted_entries c.now) c.args.entries) in
    let long = read_long selection c.args.entries c.requires.entries in
    let bit = found_bit c.words.result.now selection c.words.ensures.places c.args.at c.rows.r c.rows-test.true in
    let fits : SFits w64 c.offset-offset.result = search rules in
    subst (λ n. AreEntryTallies keys entries selection n c.if-rows-r-eq1.tallies) next (elim c.if-rows-r-eq1.branch [
      | then-rows-r-eq1 w ↦
          let key = w.entry_in.ensures ∙ c.read_block-keys_there.ensures.entries c.rows.r c.rows-test.true in
          let entry = w.entry_in-then-rows-r-eq1.ensures ∙ c.read_entries-entries_there.ensures selection c.rows.r c.rows-test.true in
          let is = placed keys (to_z w64 (of_z w64 c.offset-offset.result)) c.size-size.result (to_z-of_z fits ∙ c.offset-offset.ensures) c.size-size.ensures.size w.entry_in.result w.tally_index-index.result w.tally_index-index.ensures in
          subst (AreEntryTallies keys entries selection (n + 1)) (sym w.tallies-is)
          (one_row keys entries selection c.requires.keys long n c.rows.tallies c.rows.invariant w.tally_index-index.result w.with.result _
          (sym bit ∙ ap (λ b. b == 1) w.if-rows-r-eq1.true) (place_within keys.offset (shifted_size keys) w.entry_in.result w.tally_index-index.result is) (entry_placed keys.offset (shifted_size keys) w.entry_in.result w.tally_index-index.result is ∙ key)
          (λ es tally. subst (λ e. IsTally (es ++ e ∷ []) w.with.result) entry (w.with.ensures es tally)))
      | else-rows-r-eq1 w ↦
          subst (AreEntryTallies keys entries selection (n + 1)) (sym w.tallies-is)
          (no_row keys entries selection c.requires.keys long n c.rows.tallies c.rows.invariant (sym bit ∙ not_one w.if-rows-r-eq1.false))
    ])
