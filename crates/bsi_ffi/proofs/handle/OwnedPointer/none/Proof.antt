-- `none` puts the two fields together, and owns nothing at null.
use Rattle.bsi_ffi.proofs.Steps.{◌≡◌, refl, sym, subst, List, [], ◌∷◌, ◌++◌, Val, vint, vstruct, vcons, vnil, SProp, ent, emp, id⊢, ftrue, WpFn, tables, ‵, raw, ◌⊛◌, ◌$◌, ◌∵◌, !, qed, by, move, keep, use0, split, fsplit, fjoin, suffices, agg, no_more, and_then, returns, enter, alloc_all, pass_all, free_all, look_at, get, sets, plain, nothing, Stays, stay_dropped, walk_of, Goes-dropped, proved_at, leaves, fact, fact_i}
use Rattle.std.proofs.Common.{lit<, w64}
use Rattle.std.proofs.ResultValues.{and_tt}
use Rattle.std.proofs.alloc.Calls.{handle_tells}
use Rattle.std.specs.Prelude.{None}
use types.Kit.{fpack, feq_i}
use types.Run.{lit}
use denote.Builtin.{RawPtr}
use denote.Exit.{yes}
use denote.RattleType.{Valss, owns}
use denote.RawPtr.{null_ptr}
use denote.Signature.{types_at}
use denote.Struct.Owning.{shape, to}
use denote.Struct.Struct.{within}
use Rattle.bsi_ffi.proofs.AsBox.{E}
use Rattle.std.specs.contracts.alloc.Global as Heap
use Rattle.bsi_ffi.specs.contracts.handle.OwnedPointer as OwnedPointer
use Rattle.bsi_ffi.specs.contracts.handle.OwnedPointer.none as F
use Rattle.bsi_ffi.proofs.handle.OwnedPointer.none.Statement.{statement}
use Rattle.bsi_ffi.proofs.handle.OwnedPointer.none.Code as code

abbrev stayed : Stays F.ended.signature.params F.ended.kept
stayed = (stay_dropped (plain (λ _. Heap.the_row)) yes, tt)

pub none_spec : {M : Type 1} → statement M
none_spec 𝓤 𝓛 𝓜 𝓡 wired =
    let 𝓣 = tables 𝓤 𝓛.H 𝓜 𝓡 𝓡.env in let c = F.clauses 𝓛 𝓜.mem 𝓡.returns in
    proved_at 𝓛 F.ended stayed c 𝓜 𝓡 (Goes-dropped 𝓛 0 (plain (λ _. Heap.the_row)) yes (λ κs x f. refl), tt) F.Key.name code.function (code.unfolded 𝓤 𝓛.H 𝓜 𝓡 wired) (λ z are.
    let Run : List Val → SProp 𝓤 = λ ws. WpFn 𝓤 𝓛.H 𝓣.C 𝓣.Λ code.function (ws ++ []) ((walk_of 𝓛 F.ended stayed c).post z) in
    let made : OwnedPointer.the_row.Denot = record { ptr = null_ptr; alloc = z.0.3.0; value = None } in
    qed 𝓛 ((‵ ftrue ⊛ ‵ (owns (types_at F.signature.params tt) z.0.3 z.0.4)) ∷ raw (emp 𝓤) ∷ []) ∵ split ! $ move ! (1 ∷ []) $ fsplit ! $
    handle_tells E.al ! z.0.3.0 z.0.4.0 (λ hv words fits. let w : Val = vstruct (vcons (vint w64 0) (vcons hv vnil)) in
    keep ! (0 ∷ []) $ suffices ! (Run (hv ∷ [])) (subst (λ (ws : List Val). ent 𝓤 (Run (hv ∷ [])) (Run ws)) (sym words) (id⊢ 𝓤 (Run (hv ∷ [])))) $
    enter ! 𝓣.C 𝓣.Λ code.function (hv ∷ []) _ $ alloc_all ! (λ l. pass_all ! refl (fits, tt) $
    sets ! (agg ! (and_then ! (lit ! tt) (and_then ! (get ! refl) (no_more !)))) refl (and_tt _ fits.0, (record { fits = lit< tt }, (fits.1, tt))) $
    returns ! (look_at ! 0 refl) $ free_all ! refl $
    -- [the allocator]: the two fields, and then nothing, which null owns
    nothing ! $ move ! (1 ∷ 0 ∷ []) $ fjoin ! $ feq_i ! (List Val) (vint w64 0 ∷ []) (vint w64 0 ∷ []) refl $ fjoin ! $ feq_i ! (List Val) (w ∷ []) (w ∷ []) refl $ fjoin ! $
    fpack ! (Valss (RawPtr ∷ Heap.the_row ∷ [])) (within (shape OwnedPointer.the_type) (to OwnedPointer.the_type made) (w ∷ [])) (vint w64 0 ∷ [], (hv ∷ [], tt)) $ nothing ! $ move ! (1 ∷ 0 ∷ []) $ fjoin ! $
    use0 𝓛 (raw (fact 𝓤 (made.value ≡ None))) (fact_i 𝓤 _ (emp 𝓤) refl) $ nothing ! $ nothing ! $ fjoin ! $ nothing ! $
    keep ! (0 ∷ 1 ∷ 3 ∷ 2 ∷ []) $ by ! (leaves 𝓛 F.ended stayed c z w made (tt, tt) (tt, tt)))))
