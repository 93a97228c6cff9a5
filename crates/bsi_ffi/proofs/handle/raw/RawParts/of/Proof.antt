-- `of` takes the box apart, and the parts own what it owned.
use Rattle.bsi_ffi.proofs.Steps.{◌≡◌, refl, sym, ap, ◌∙◌, subst, List, [], ◌∷◌, ◌++◌, Val, vstruct, of_list, SProp, ent, emp, id⊢, ftrue, fsep, flft, WpFn, tables, Item, ‵, raw, ◌⊛◌, some, later, ◌$◌, ◌∵◌, !, qed, by, move, keep, drop, use0, use1, split, split3, join, pick, await, rewrite, fsplit, fjoin, suffices, whole, sub, agg, stop, fld, no_more, and_then, of_opd, returns, enter, alloc_all, pass_all, free_all, look_at, get, get_in, sets, RattleType, plain, heard, nothing, only, Stays, stay_dropped, walk_of, proved_at, leaves, D, B, word, box_typed, box_out, box_in, fact, fact_i}
use mir.Syntax.{a_type, dcons, dnil}
use mir.MapTy.{inst_fn}
use base.Logic.{never, fst∗}
use contract.BorrowLft.{◌⊑◌}
use mir.Raw.{raw as bare}
use types.Logic.{sem}
use types.Kit.{fpick, feq_l}
use types.ByLocal.{lands_as}
use denote.Exit.{no}
use denote.Param.{bounded}
use denote.RawPtr.{Ptr, RawPtr, block_ptr, null_ptr, ptr_val, in_a_block}
use denote.Struct.Tuple.{Tuple}
use denote.Triple.Call.{calls_at}
use denote.Triple.Clauses.{Lasts, lasts}
use denote.Triple.Spec.{triple_of}
use denote.Triple.Table.{framed}
use Rattle.std.specs.Box.Ownership.{box_owns}
use Rattle.std.proofs.alloc.Calls.{handle_tells, token, Goes-blank}
use Rattle.std.proofs.BoxSteps.Form.{Bx, τ, R, P}
use Rattle.std_alloc.specs.contracts.boxed.Box.into_raw_with_allocator as opening
use Rattle.std_alloc.proofs.boxed.Box.into_raw_with_allocator.Met as opening_met
use Rattle.bsi_ffi.specs.contracts.handle.raw.RawParts as RawParts
use Rattle.bsi_ffi.specs.contracts.handle.raw.RawParts.of as F
use Rattle.bsi_ffi.proofs.handle.raw.RawParts.of.Statement.{statement}
use Rattle.bsi_ffi.proofs.handle.raw.RawParts.of.Code as code

pub of_spec : {M : Type 1} → statement M
of_spec 𝓤 𝓛 𝓜 𝓡 wired X Z LX LZ g d dd dx allocator md glue =
    let E : Bx = record { row = X; laws = LX; al = record { row = Z; laws = LZ; g = g; d = d; drops = dd } } in
    let args = bounded (a_type ∷ a_type ∷ []) (X, (Z, tt)) (dcons d (dcons dd (dcons dx dnil))) in let fn = inst_fn args code.function in
    let 𝓣 = tables 𝓤 𝓛.H 𝓜 𝓡 𝓡.env in let ended = F.ended X Z g d dd dx in let c = F.clauses X Z g d dd dx 𝓛 𝓜.mem 𝓡.returns in
    let stayed : Stays ended.signature.params ended.kept = (stay_dropped (plain (λ _. B E)) no, tt) in let To : RattleType = RawParts.the_row (R E) (P E) g in
    let Opens = triple_of 𝓛 (opening.signature X Z g d dd dx) (opening.spec X Z g d dd dx 𝓛 𝓜.mem 𝓡.returns) in
    let opens = opening_met.met 𝓤 𝓛 𝓜 𝓡 (code.calls-std_alloc::boxed::Box::into_raw_with_allocator 𝓡.env wired) X Z LX LZ g d dd dx allocator md glue in
    proved_at 𝓛 ended stayed c 𝓜 𝓡 (Goes-blank 𝓛 2 (plain (λ _. B E)) no (λ κs x f. tt), tt) (F.Key.name args) fn (code.unfolded 𝓤 𝓛.H 𝓜 𝓡 wired (X, (Z, tt)) d dd dx) (λ z are.
    let κs = z.0.0 in let qs = z.0.1 in let box = z.0.3.0 in let frees = token E.al box.alloc in
    let Run : List Val → SProp 𝓤 = λ ws. WpFn 𝓤 𝓛.H 𝓣.C 𝓣.Λ fn (ws ++ []) ((walk_of 𝓛 ended stayed c).post z) in
    let tokens : Item 𝓤 = ‵ (flft κs.0 qs.0) ⊛ ‵ (flft κs.1.0 qs.1.0) ⊛ ‵ ftrue in
    let outlive : Item 𝓤 = raw (fact 𝓤 (κs.0 ⊑ X.lives)) ⊛ raw (fact 𝓤 (κs.1.0 ⊑ Z.lives)) ⊛ ‵ ftrue in
    qed 𝓛 ((tokens ⊛ ‵ (fsep ((B E).own_val box z.0.4.0) ftrue)) ∷ outlive ∷ []) ∵ split ! $ move ! (1 ∷ []) $ fsplit ! $
    box_out E ! box z.0.4.0 (λ b o hv at words fits. box_in E ! box b o box.value at refl $
    let w = word E hv b o in let typed = box_typed E hv b o fits in let y : Opens.Ghost = ((κs, qs, tt, (box, tt), (w ∷ [], tt)), tt) in
    suffices ! (Run (w ∷ [])) (subst (λ (ws : List Val). ent 𝓤 (Run (w ∷ [])) (Run ws)) (sym words) (id⊢ 𝓤 (Run (w ∷ [])))) $
    -- [the box; true; the tokens; the bounds]
    fjoin ! $ move ! (1 ∷ 0 ∷ []) $ join ! $ join ! $ use1 𝓛 (raw (Opens.pre y)) (id⊢ 𝓤 _) $
    enter ! 𝓣.C 𝓣.Λ fn (w ∷ []) _ $ alloc_all ! (λ l. pass_all ! refl (typed, tt) $ sets ! (of_opd ! (get ! refl)) refl typed $
    calls_at ! (framed 𝓤 𝓛.H 𝓜 𝓣) Opens opens y (and_then ! (get ! refl) (no_more !)) (λ u.
    use1 𝓛 (later (some (λ (r : Ptr × Z.Denot). (tokens ⊛ ‵ ((Tuple (RawPtr ∷ P E ∷ [])).own_val r (u ∷ []))) ⊛ some (λ (ls : Lasts (opening.ended X Z g d dd dx) κs (box, tt)).
    ‵ (lasts (opening.ended X Z g d dd dx) κs (box, tt) ls) ⊛ (raw (fact 𝓤 (r.1 ≡ box.alloc)) ⊛ ‵ (box_owns frees (R E) r.0 box.value)))))) (id⊢ 𝓤 _) $
    await ! tt $ pick ! (λ r. split ! $ move ! (1 ∷ []) $ pick ! (λ _. split3 ! $ drop ! $ heard ! (r.1 ≡ box.alloc) (λ same.
    in_a_block ! r.0 (λ p. box_owns frees (R E) p box.value) (fst∗ 𝓤 (never 𝓤) (sem 𝓛 (frees (bare (τ E)) null_ptr))) (λ b' o' there.
    -- [what the box owned; the tokens with the pair]
    move ! (1 ∷ []) $ split ! $ move ! (1 ∷ []) $ fpick ! (λ uss. fsplit ! $ feq_l ! (λ pair. fsplit ! $ feq_l ! (λ pointer. fsplit ! $
    rewrite ! 0 (λ (a : Z.Denot). ‵ (Z.own_val a uss.1.0)) same refl $ handle_tells E.al ! box.alloc uss.1.0 (λ hv' handle fits'.
    let w' = word E hv' b' o' in let typed' = box_typed E hv' b' o' fits' in let moved : D E = record { ptr = block_ptr b' o'; alloc = box.alloc; value = box.value } in
    let made : To.Denot = record { ptr = moved.ptr; alloc = moved.alloc; value = moved.value } in
    lands_as ! (ap only (pair ∙ (λ i. vstruct (of_list ((pointer ∙ ap (λ (p : Ptr). ptr_val p ∷ []) there) i ++ (handle i ++ []))) ∷ []))) refl typed' $
    sets ! (of_opd ! (get_in ! (fld ! refl (stop !)) (sub ! 0 refl (whole !)))) refl (tt, tt) $
    sets ! (of_opd ! (get_in ! (fld ! refl (stop !)) (sub ! 1 refl (whole !)))) refl fits' $
    sets ! (of_opd ! (get ! refl)) refl fits' $ sets ! (agg ! (and_then ! (get ! refl) (and_then ! (get ! refl) (no_more !)))) refl typed' $ returns ! (look_at ! 0 refl) $ free_all ! refl $
    -- [the handle; true; the tokens; what the box owned]
    move ! (3 ∷ []) $ fsplit ! $ box_in E ! moved b' o' box.value refl refl $ use1 𝓛 (‵ (To.own_val made (w' ∷ []))) (id⊢ 𝓤 _) $
    use0 𝓛 (raw (fact 𝓤 (made.value ≡ box.value))) (fact_i 𝓤 _ (emp 𝓤) refl) $ nothing ! $ nothing ! $ fjoin ! $
    keep ! (4 ∷ 0 ∷ 2 ∷ 1 ∷ []) $ by ! (leaves 𝓛 ended stayed c z w' made ((tt, (tt, tt)), tt) (tt, tt))))))))))))))
