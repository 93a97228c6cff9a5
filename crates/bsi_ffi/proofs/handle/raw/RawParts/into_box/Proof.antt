-- `into_box` hands what the parts own to `from_raw`.
use Rattle.bsi_ffi.proofs.Steps.{◌≡◌, refl, sym, ap, subst, List, [], ◌∷◌, ◌++◌, Val, vptr, SProp, ent, emp, id⊢, ftrue, fsep, flft, WpFn, tables, Item, ‵, raw, ◌⊛◌, some, later, ◌$◌, ◌∵◌, !, qed, by, move, keep, drop, use0, use1, split, split3, join, pick, await, rewrite, fsplit, fjoin, suffices, whole, sub, stop, fld, no_more, and_then, of_opd, returns, enter, alloc_all, pass_all, free_all, look_at, get, get_in, sets, RattleType, plain, heard, nothing, only, Stays, stay_dropped, walk_of, proved_at, leaves, D, B, word, box_typed, box_out, box_in, fact, fact_i}
use mir.Syntax.{Body, place, copy, assign, rv_opd, seq, return}
use mir.MapTy.{inst_fn}
use contract.BorrowLft.{◌⊑◌}
use lib.Dec.{T}
use mir.Val.{has_ty, WT}
use types.Kit.{at_ret, feq_i}
use types.Run.{first, blocks, exec}
use types.ByLocal.{lands_last, env}
use denote.Exit.{no}
use denote.RawPtr.{Ptr, block_ptr}
use denote.Triple.Call.{calls_at_last}
use denote.Triple.Clauses.{Lasts, lasts}
use denote.Triple.Spec.{triple_of}
use denote.Triple.Table.{framed}
use Rattle.std.proofs.alloc.Calls.{Goes-blank}
use Rattle.std.proofs.BoxSteps.Form.{Bx, args, box_ty, R, P}
use Rattle.std_alloc.specs.contracts.boxed.Box.from_raw as closing
use Rattle.std_alloc.proofs.boxed.Box.from_raw.Met as closing_met
use Rattle.bsi_ffi.specs.contracts.handle.raw.RawParts as RawParts
use Rattle.bsi_ffi.specs.contracts.handle.raw.RawParts.into_box as F
use Rattle.bsi_ffi.proofs.handle.raw.RawParts.into_box.Statement.{statement}
use Rattle.bsi_ffi.proofs.handle.raw.RawParts.into_box.Code as code

abbrev after_call : Body
after_call = seq (assign (place 0 []) (rv_opd (copy (place 4 [])))) return

pub into_box_spec : {M : Type 1} → statement M
into_box_spec 𝓤 𝓛 𝓜 𝓡 wired X Z LX LZ g d dd allocator md =
    let E : Bx = record { row = X; laws = LX; al = record { row = Z; laws = LZ; g = g; d = d; drops = dd } } in let fn = inst_fn (args E) code.function in
    let 𝓣 = tables 𝓤 𝓛.H 𝓜 𝓡 𝓡.env in let ended = F.ended X Z g d dd in let c = F.clauses X Z g d dd 𝓛 𝓜.mem 𝓡.returns in
    let From : RattleType = RawParts.the_row (R E) (P E) g in let stayed : Stays ended.signature.params ended.kept = (stay_dropped (plain (λ _. From)) no, tt) in
    let Closes = triple_of 𝓛 (closing.signature X Z g d dd) (closing.spec X Z g d dd 𝓛 𝓜.mem 𝓡.returns) in
    let closes = closing_met.met 𝓤 𝓛 𝓜 𝓡 (code.calls-std_alloc::boxed::Box::from_raw 𝓡.env wired) X Z LX LZ g d dd allocator md in
    proved_at 𝓛 ended stayed c 𝓜 𝓡 (Goes-blank 𝓛 2 (plain (λ _. From)) no (λ κs x f. tt), tt) (F.Key.name (args E)) fn (code.unfolded 𝓤 𝓛.H 𝓜 𝓡 wired (X, (Z, tt)) d dd) (λ z are.
    let κs = z.0.0 in let qs = z.0.1 in let a = z.0.3.0.alloc in let x = z.0.3.0.value in let box : D E = record { ptr = z.0.3.0.ptr; alloc = a; value = x } in
    let Post = (walk_of 𝓛 ended stayed c).post z in let Run : List Val → SProp 𝓤 = λ ws. WpFn 𝓤 𝓛.H 𝓣.C 𝓣.Λ fn (ws ++ []) Post in
    let tokens : Item 𝓤 = ‵ (flft κs.0 qs.0) ⊛ ‵ (flft κs.1.0 qs.1.0) ⊛ ‵ ftrue in
    let outlive : Item 𝓤 = raw (fact 𝓤 (κs.0 ⊑ X.lives)) ⊛ raw (fact 𝓤 (κs.1.0 ⊑ Z.lives)) ⊛ ‵ ftrue in
    qed 𝓛 ((tokens ⊛ ‵ (fsep ((B E).own_val box z.0.4.0) ftrue)) ∷ outlive ∷ []) ∵ split ! $ move ! (1 ∷ []) $ fsplit ! $
    box_out E ! box z.0.4.0 (λ b o hv at words fits.
    let w = word E hv b o in let given : Z.Denot × (Ptr × Unit {0}) = (a, (block_ptr b o, tt)) in let y : Closes.Ghost = ((κs, qs, tt, given, (hv ∷ [], (vptr b o ∷ [], tt))), x) in
    suffices ! (Run (w ∷ [])) (subst (λ (ws : List Val). ent 𝓤 (Run (w ∷ [])) (Run ws)) (sym words) (id⊢ 𝓤 (Run (w ∷ [])))) $
    -- [the value; the right to free it; the handle; true; the tokens; the bounds]
    fjoin ! $ move ! (4 ∷ []) $ split3 ! $ move ! (2 ∷ []) $ drop ! $ move ! (1 ∷ 2 ∷ []) $ join ! $ move ! (1 ∷ 0 ∷ []) $ join ! $
    -- [what `from_raw` asks; the handle; true; the tokens]
    move ! (2 ∷ []) $ feq_i ! (List Val) (vptr b o ∷ []) (vptr b o ∷ []) refl $ fjoin ! $ move ! (2 ∷ 0 ∷ []) $ fjoin ! $ move ! (2 ∷ 0 ∷ []) $ join ! $ join ! $ use1 𝓛 (raw (Closes.pre y)) (id⊢ 𝓤 _) $
    enter ! 𝓣.C 𝓣.Λ fn (w ∷ []) _ $ alloc_all ! (λ l. pass_all ! refl (box_typed E hv b o fits, tt) $
    sets ! (of_opd ! (get_in ! (fld ! refl (stop !)) (sub ! 0 refl (whole !)))) refl (tt, tt) $
    sets ! (of_opd ! (get_in ! (fld ! refl (stop !)) (sub ! 1 refl (whole !)))) refl fits $
    first ! $ blocks ! $ sets ! (of_opd ! (get ! refl)) refl fits $
    calls_at_last ! (framed 𝓤 𝓛.H 𝓜 𝓣) Closes closes y (and_then ! (get ! refl) (and_then ! (get ! refl) (no_more !))) (λ u.
    use1 𝓛 (later (some (λ (r : D E). (tokens ⊛ ‵ ((B E).own_val r (u ∷ []))) ⊛ some (λ (ls : Lasts (closing.ended X Z g d dd) κs given).
    ‵ (lasts (closing.ended X Z g d dd) κs given ls) ⊛ (raw (fact 𝓤 (r.value ≡ x)) ⊛ raw (fact 𝓤 (r.alloc ≡ a))))))) (id⊢ 𝓤 _) $
    await ! tt $ pick ! (λ r. split ! $ move ! (1 ∷ []) $ pick ! (λ _. split3 ! $ drop ! $ heard ! (r.value ≡ x) (λ same. drop ! $ split ! $ move ! (1 ∷ []) $
    box_out E ! r (u ∷ []) (λ b' o' hv' at' word' fits'. box_in E ! r b' o' r.value at' refl $ rewrite ! 0 (λ (us : List Val). ‵ ((B E).own_val r us)) (sym word') refl $
    let typed : T (has_ty (box_ty E) u) × WT u = subst (λ (v : Val). T (has_ty (box_ty E) v) × WT v) (sym (ap only word')) (box_typed E hv' b' o' fits') in
    lands_last ! refl typed $ exec ! 𝓣.C 𝓣.Λ (env fn.locals l) after_call (at_ret (env fn.locals l) Post) $ sets ! (of_opd ! (get ! refl)) refl typed $ returns ! (look_at ! 0 refl) $ free_all ! refl $
    -- [the box; the tokens]
    use0 𝓛 (raw (fact 𝓤 (r.value ≡ x))) (fact_i 𝓤 _ (emp 𝓤) same) $ nothing ! $ nothing ! $ fjoin ! $
    keep ! (3 ∷ 0 ∷ 2 ∷ 1 ∷ []) $ by ! (leaves 𝓛 ended stayed c z u r ((tt, (tt, tt)), tt) (tt, tt))))))))))
