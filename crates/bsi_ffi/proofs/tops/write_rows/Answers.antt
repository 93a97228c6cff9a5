use Rattle.std.proofs.Common.{◌≡◌, ◌+◌, ◌<◌, [], ◌∷◌, ◌++◌, drop, get_or, length, pos, take, ap, subst, sym, ◌∙◌, rules, arith}
use Rattle.std.specs.Prelude.{slice_set}
use Rattle.std.specs.List.{AllZip}
use Rattle.std.proofs.lemmas.List.{drop-drop, drop-set-lt, take_more, take_more_set}
use Rattle.bsi_aggregates.specs.declared.tops.TopRow.{TopRow}
use Rattle.bsi_ffi.specs.Tops.{IsWrittenRow}
use Rattle.bsi_ffi.proofs.Zips.{zip_more}
use Rattle.bsi_ffi.proofs.tops.write_rows.Goals as goal

-- one more row is written
pub rows-preserved : goal.rows-preserved
rows-preserved c =
    let listed = c.args.listed.now in
    let rows = c.rows.rows in
    let at = c.rows.at in
    let none : TopRow = record { row = 0; number = pos 0 } in
    let row = get_or listed at none in
    let flat = c.flat_row.result in
    let within : at < length rows = omega (arith, c.rows-test.true, c.requires, c.rows.invariant.long) in
    let prefix : take (at + 1) listed ≡ take at listed ++ row ∷ [] = take_more listed at none c.rows-test.true in record {
      long = search rules;
      done = subst (λ xs. AllZip IsWrittenRow xs (take (at + 1) (slice_set rows at flat))) (sym prefix)
          (subst (AllZip IsWrittenRow (take at listed ++ row ∷ [])) (sym (take_more_set rows at flat within))
          (zip_more IsWrittenRow (take at listed) (take at rows) row flat c.rows.invariant.done c.flat_row.ensures));
      rest = drop-set-lt (at + 1) rows at flat (omega arith) ∙ sym (drop-drop 1 at rows) ∙ ap (drop 1) c.rows.invariant.rest ∙ drop-drop 1 at c.args.rows.now;
    }
