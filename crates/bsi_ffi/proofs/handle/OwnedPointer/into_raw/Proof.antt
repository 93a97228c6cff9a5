-- `into_raw` moves two fields, and what they own goes with them.
use mathlib.Core.Bool.{true}
use Rattle.std.specs.Prelude.{Option, Some, is_some}
use denote.Exit.{yes}
use Rattle.bsi_ffi.proofs.Steps.{◌≡◌, refl, sym, subst, List, [], ◌∷◌, ◌++◌, Val, SProp, ent, emp, id⊢, ftrue, fsep, WpFn, tables, ‵, raw, ◌⊛◌, ◌$◌, ◌∵◌, !, qed, by, move, keep, use0, use1, split, fsplit, fjoin, suffices, whole, sub, agg, stop, fld, no_more, and_then, of_opd, returns, enter, alloc_all, pass_all, free_all, look_at, get, get_in, sets, nothing, Stays, stay_dropped, walk_of, Goes-dropped, proved_at, leaves, heard, rewrite, type_at, D, B, word, box_typed, box_out, box_in, fact, fact_i}
use Rattle.bsi_ffi.proofs.AsBox.{some_of, E, FromPointer}
use Rattle.bsi_ffi.specs.contracts.handle.OwnedPointer as OwnedPointer
use Rattle.bsi_ffi.specs.contracts.state.HandleState as HandleState
use Rattle.bsi_ffi.specs.contracts.handle.OwnedPointer.into_raw as F
use Rattle.bsi_ffi.proofs.handle.OwnedPointer.into_raw.Statement.{statement}
use Rattle.bsi_ffi.proofs.handle.OwnedPointer.into_raw.Code as code

abbrev stayed : Stays F.ended.signature.params F.ended.kept
stayed = (stay_dropped FromPointer yes, tt)

pub into_raw_spec : {M : Type 1} → statement M
into_raw_spec 𝓤 𝓛 𝓜 𝓡 wired =
    let 𝓣 = tables 𝓤 𝓛.H 𝓜 𝓡 𝓡.env in let c = F.clauses 𝓛 𝓜.mem 𝓡.returns in
    proved_at 𝓛 F.ended stayed c 𝓜 𝓡 (Goes-dropped 𝓛 0 FromPointer yes (λ κs x f. refl), tt) F.Key.name code.function (code.unfolded 𝓤 𝓛.H 𝓜 𝓡 wired) (λ z are.
    let Run : List Val → SProp 𝓤 = λ ws. WpFn 𝓤 𝓛.H 𝓣.C 𝓣.Λ code.function (ws ++ []) ((walk_of 𝓛 F.ended stayed c).post z) in
    let pointer = z.0.3.0 in let To = type_at F.signature.result tt in
    qed 𝓛 ((‵ ftrue ⊛ ‵ (fsep (OwnedPointer.the_row.own_val pointer z.0.4.0) ftrue)) ∷ raw (fact 𝓤 (is_some pointer.value ≡ true)) ∷ []) ∵ move ! (1 ∷ []) $
    heard ! (is_some pointer.value ≡ true) (λ full. let there = some_of pointer.value full in
    let box : D E = record { ptr = pointer.ptr; alloc = pointer.alloc; value = there.0 } in
    let made : To.Denot = record { ptr = pointer.ptr; alloc = pointer.alloc; value = there.0 } in
    split ! $ move ! (1 ∷ []) $ fsplit ! $
    rewrite ! 0 (λ (value : Option HandleState.the_row.Denot). ‵ (OwnedPointer.the_row.own_val (record { ptr = pointer.ptr; alloc = pointer.alloc; value = value }) z.0.4.0)) there.1 refl $
    use1 𝓛 (‵ ((B E).own_val box z.0.4.0)) (id⊢ 𝓤 _) $
    box_out E ! box z.0.4.0 (λ b o hv at words fits. let w = word E hv b o in let typed = box_typed E hv b o fits in
    box_in E ! box b o box.value at refl $ use1 𝓛 (‵ (To.own_val made (w ∷ []))) (id⊢ 𝓤 _) $ keep ! (0 ∷ []) $
    suffices ! (Run (w ∷ [])) (subst (λ (ws : List Val). ent 𝓤 (Run (w ∷ [])) (Run ws)) (sym words) (id⊢ 𝓤 (Run (w ∷ [])))) $
    enter ! 𝓣.C 𝓣.Λ code.function (w ∷ []) _ $ alloc_all ! (λ l. pass_all ! refl (typed, tt) $
    sets ! (of_opd ! (get_in ! (fld ! refl (stop !)) (sub ! 0 refl (whole !)))) refl (tt, tt) $
    sets ! (of_opd ! (get_in ! (fld ! refl (stop !)) (sub ! 1 refl (whole !)))) refl fits $
    sets ! (of_opd ! (get ! refl)) refl (tt, tt) $
    sets ! (agg ! (and_then ! (get ! refl) (and_then ! (get ! refl) (no_more !)))) refl typed $
    returns ! (look_at ! 0 refl) $ free_all ! refl $
    use0 𝓛 (raw (fact 𝓤 (Some there.0 ≡ pointer.value))) (fact_i 𝓤 _ (emp 𝓤) (sym there.1)) $ nothing ! $ nothing ! $ fjoin ! $ nothing ! $
    keep ! (0 ∷ 1 ∷ 3 ∷ 2 ∷ []) $ by ! (leaves 𝓛 F.ended stayed c z w made (tt, tt) (tt, tt))))))
