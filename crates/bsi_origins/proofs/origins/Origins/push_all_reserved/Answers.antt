use Rattle.std.proofs.Common.{◌≡◌, ℕ, ◌+◌, ◌-◌, ◌<◌, ◌≤◌, ◌++◌, List, length, take, drop, replicate, get_or, append_assoc, ap, sym, arith, ◌∙◌}
use Rattle.std.proofs.Math.Seq.{take-add}
use Rattle.std.proofs.lemmas.Grind.{get_or_default_zero}
use Rattle.std.proofs.lemmas.List.{get_or-drop, length-drop, take_all}
use Rattle.bsi_origins.proofs.origins.Origins.push_all_reserved.Goals as goal

-- a run of copies behind the first rows
run_appended : (xs rest : List ℕ) (at run x : ℕ) → at < length xs → rest ≡ drop at xs → take run rest ≡ replicate run (get_or rest 0 0) → x ≡ get_or xs at x
    → take at xs ++ replicate run x ≡ take (at + run) xs
run_appended xs rest at run x within is same read =
    let first : get_or rest 0 0 ≡ x = ap (λ ys. get_or ys 0 0) is ∙ get_or-drop at xs 0 0 ∙ ap (λ k. get_or xs k 0) (omega arith) ∙ sym (read ∙ get_or_default_zero xs at x within) in
    ap (λ ys. take at xs ++ ys) (ap (replicate run) (sym first) ∙ sym same ∙ ap (take run) is) ∙ sym (take-add at run xs)

pub runs-preserved : goal.runs-preserved
runs-preserved c =
    let at = c.runs.at in
    let run = c.run_len-run.result in
    let x = c.index.result.now in
    let xs = c.other.inside.row_feeders.items in
    let rows : xs ≡ c.args.other.now.rows = ap (λ o. o.rows) c.other.view_is in
    let value : c.deref.result.now ≡ xs = c.deref.ensures.value in
    let rest : take (length c.deref.result.now - at) (drop at c.deref.result.now) ≡ drop at xs =
    take_all (length c.deref.result.now - at) (drop at c.deref.result.now) (omega (arith, length-drop at c.deref.result.now)) ∙ ap (drop at) value in
    let within : at < length xs = omega (arith, c.runs-test.true, c.len.ensures, c.other.inside.row_feeders.ok.0) in
    let enough : run ≤ length xs - at = omega (arith, c.run_len-run.ensures.some.1, ap length rest, length-drop at xs) in
    record {
      within = omega (arith, within, enough, ap length rows);
      rows = c.push_many_reserved.ensures.rows ∙ ap (λ ys. ys ++ replicate run x) c.runs.invariant.rows
          ∙ append_assoc c.args.self.now.rows (take at c.args.other.now.rows) (replicate run x)
          ∙ ap (λ ys. c.args.self.now.rows ++ ys) (ap (λ ys. take at ys ++ replicate run x) (sym rows) ∙ run_appended xs _ at run x within rest c.run_len-run.ensures.same c.index.ensures ∙ ap (take (at + run)) rows);
      feeders = c.push_many_reserved.ensures.feeders ∙ c.runs.invariant.feeders;
      room = omega (arith, c.push_many_reserved.ensures.room, c.runs.invariant.room);
    }
