use Rattle.std.proofs.Common.{◌≡◌, ◌+◌, ◌++◌, ◌∷◌, [], ℕ, Option, None, Some, length, IfOk, IfSome, arith, refl, rules, ap, subst, sym, ◌∙◌}
use Rattle.std.specs.Option.{ok_or}
use Rattle.std.proofs.lemmas.Iterator.Adapters.{YieldsList-from_vec}
use Rattle.std.proofs.lemmas.Iterator.Consumers.{YieldsList-end, YieldsList-turn}
use Rattle.std.proofs.lemmas.List.{length-append}
use Rattle.bsi_store.specs.Surveyed.{AreSurveyed}
use Rattle.bsi_store.proofs.Seen.{looks_all, surveyed_joined}
use Rattle.bsi_store.proofs.surveying.join_surveys.Goals as goal
use Rattle.bsi_store.proofs.surveying.join_surveys.Goals.{in-None-joined, in-Some-joined+in-Ok-join}
use Rattle.bsi_survey.specs.declared.survey.Survey.{Survey}

ok_or_if : {X E : Type 0} (P : X → Type 0) (o : Option X) (e : E) → IfSome o P → IfOk (ok_or o e) P
ok_or_if P None e none = tt
ok_or_if P (Some x) e is = is

pub files-init : goal.files-init
files-init g c = record { k = refl; first = λ _. refl; joined = tt }

pub join-requires : goal.join-requires
join-requires g c =
    let rem = g.S.Read.remaining in
    let options = c.args.options.now in
    let turn = YieldsList-turn (YieldsList-from_vec {s = c.into_iter-next-iterator.result} c.args.surveys.items (search rules) (search rules))
    c.files.yielded c.files.next-iterator c.files.yielded_by c.next.result c.next.new.self c.in-Some.next c.in-Some.is c.next.ensures.steps in
    let count = length c.files.yielded in
    let is : AreSurveyed rem options 1 c.in-Ok.next =
    subst (λ r. IfOk r (AreSurveyed rem options 1)) (sym turn.1 ∙ c.in-Ok.is) (c.requires.each count c.in-Some.next turn.0) in
    let were : AreSurveyed rem options count c.in-Some-joined.survey =
    subst (λ (o : Option Survey). IfSome o (AreSurveyed rem options count)) c.in-Some-joined.is c.files.invariant.joined in
    record {
      point = options.dialect.point;
      first = looks_all rem options count c.in-Some-joined.survey c.requires.starts were;
      second = looks_all rem options 1 c.in-Ok.next c.requires.starts is;
    }

pub files-preserved : goal.files-preserved
files-preserved g c =
    let rem = g.S.Read.remaining in
    let options = c.args.options.now in
    let turn = YieldsList-turn (YieldsList-from_vec {s = c.into_iter-next-iterator.result} c.args.surveys.items (search rules) (search rules))
    c.files.yielded c.files.next-iterator c.files.yielded_by c.next.result c.next.new.self c.in-Some.next c.in-Some.is c.next.ensures.steps in
    let count = length c.files.yielded in
    let more = c.files.yielded ++ c.in-Some.next ∷ [] in
    let next : count + 1 ≡ length more = sym (length-append c.files.yielded (c.in-Some.next ∷ [])) in
    let is : AreSurveyed rem options 1 c.in-Ok.next =
    subst (λ r. IfOk r (AreSurveyed rem options 1)) (sym turn.1 ∙ c.in-Ok.is) (c.requires.each count c.in-Some.next turn.0) in
    record {
      k = ap (λ n. n + 1) c.files.invariant.k ∙ next;
      first = λ none. elim c.match-joined-3.branch [ in-None-joined w ↦ absurd (cc (none, w.joined-is)) | in-Some-joined+in-Ok-join w ↦ absurd (cc (none, w.joined-is)) ];
      joined = elim c.match-joined-3.branch [
        | in-None-joined w ↦
            let none : 1 ≡ length more = omega (arith, next, c.files.invariant.first w.in-None-joined.is) in
            subst (λ (o : Option Survey). IfSome o (AreSurveyed rem options (length more))) (sym w.joined-is)
            (subst (λ (n : ℕ). AreSurveyed rem options n c.in-Ok.next) none is)
        | in-Some-joined+in-Ok-join w ↦
            let were : AreSurveyed rem options count w.in-Some-joined.survey =
            subst (λ (o : Option Survey). IfSome o (AreSurveyed rem options count)) w.in-Some-joined.is c.files.invariant.joined in
            subst (λ (o : Option Survey). IfSome o (AreSurveyed rem options (length more))) (sym w.joined-is)
            (subst (λ (n : ℕ). AreSurveyed rem options n w.join.new.self) next
            (surveyed_joined rem options count w.in-Some-joined.survey c.in-Ok.next w.join.new.self c.requires.starts were is w.join.ensures.dialect
            w.in-Ok-join.ensures.still w.in-Ok-join.ensures.sees w.join.ensures.looked))
      ];
    }

pub returns : goal.returns
returns g c =
    let P = AreSurveyed g.S.Read.remaining c.args.options.now (length c.args.paths.now) in
    let end = YieldsList-end (YieldsList-from_vec {s = c.into_iter-next-iterator.result} c.args.surveys.items (search rules) (search rules))
    c.files.yielded c.files.next-iterator c.files.yielded_by c.next.result c.next.new.self c.in-None.is c.next.ensures.steps in
    subst (λ r. IfOk r P) (sym c.ok_or.ensures.value) (ok_or_if P c.files.joined _
    (subst (λ (n : ℕ). IfSome c.files.joined (AreSurveyed g.S.Read.remaining c.args.options.now n)) (end.1 ∙ c.requires.many) c.files.invariant.joined))
