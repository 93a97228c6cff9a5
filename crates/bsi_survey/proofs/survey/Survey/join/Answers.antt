use Rattle.std.proofs.Common.{◌≡◌, ◌++◌, ℕ, List, length, take, drop, ap, arith, refl, rules, subst, sym, ◌∙◌}
use Rattle.std.proofs.lemmas.List.{length-map}
use Rattle.bsi_inference.specs.declared.candidates.Candidates.{Candidates}
use Rattle.bsi_survey.specs.Looking.{AcceptMore, AreGrown, HaveJoined}
use Rattle.bsi_survey.specs.Surveys.{header_of}
use Rattle.bsi_survey.proofs.Growing.{grown_more, kinds_looked}
use Rattle.bsi_survey.proofs.Lists.{written}
use Rattle.bsi_survey.proofs.Seeing.{sees_joined, sees_still}
use Rattle.bsi_survey.proofs.survey.Survey.join.Goals as goal

-- the columns that were lent are written back
back : (old lent new : List Candidates) (n : ℕ) → n ≡ length old → lent ≡ old → AreGrown lent new → AreGrown old (take n (new ++ drop (length new) old))
back old lent new n many value grown =
    let own : AreGrown old new = subst (λ (cs : List Candidates). AreGrown cs new) value grown in
    subst (AreGrown old) (sym (written old new n many own.len)) own

back_more : (old lent others new : List Candidates) (n : ℕ) → n ≡ length old → lent ≡ old → AreGrown lent new → AcceptMore others new
    → AcceptMore others (take n (new ++ drop (length new) old))
back_more old lent others new n many value grown more =
    let own : AreGrown old new = subst (λ (cs : List Candidates). AreGrown cs new) value grown in
    subst (AcceptMore others) (sym (written old new n many own.len)) more

back_joined : (old lent others new : List Candidates) (n : ℕ) → n ≡ length old → lent ≡ old → HaveJoined lent others new
    → HaveJoined old others (take n (new ++ drop (length new) old))
back_joined old lent others new n many value joined =
    let own : HaveJoined old others new = subst (λ (cs : List Candidates). HaveJoined cs others new) value joined in
    subst (HaveJoined old others) (sym (written old new n many own.len)) own

pub returns-in_err-join_each-clause-preserved : goal.returns-in_err-join_each-clause-preserved
returns-in_err-join_each-clause-preserved c =
    grown_more _ _ (back c.args.self.now.columns.items c.deref_mut.result.now c.join_each.new.columns c.args.self.now.columns.len (omega (arith, c.args.self.now.columns.ok.0)) c.deref_mut.ensures.value c.join_each.ensures.grown)

pub returns-in_err-join_each-clause-looked : goal.returns-in_err-join_each-clause-looked
returns-in_err-join_each-clause-looked c = λ point looks. kinds_looked point _ _
    (back c.args.self.now.columns.items c.deref_mut.result.now c.join_each.new.columns c.args.self.now.columns.len (omega (arith, c.args.self.now.columns.ok.0)) c.deref_mut.ensures.value c.join_each.ensures.grown) looks

pub returns-clause-preserved : goal.returns-clause-preserved
returns-clause-preserved c =
    grown_more _ _ (back c.args.self.now.columns.items c.deref_mut.result.now c.join_each.new.columns c.args.self.now.columns.len (omega (arith, c.args.self.now.columns.ok.0)) c.deref_mut.ensures.value c.join_each.ensures.grown)

pub returns-clause-looked : goal.returns-clause-looked
returns-clause-looked c = λ point looks. kinds_looked point _ _
    (back c.args.self.now.columns.items c.deref_mut.result.now c.join_each.new.columns c.args.self.now.columns.len (omega (arith, c.args.self.now.columns.ok.0)) c.deref_mut.ensures.value c.join_each.ensures.grown) looks

pub returns-clause-kinds : goal.returns-clause-kinds
returns-clause-kinds c =
    back_joined c.args.self.now.columns.items c.deref_mut.result.now c.args.other.columns.items c.join_each.new.columns c.args.self.now.columns.len
    (omega (arith, c.args.self.now.columns.ok.0)) c.deref_mut.ensures.value c.in_ok-join_each.ensures.kinds

-- what was seen, and what the other survey saw
pub returns-clause-still : goal.returns-clause-still
returns-clause-still c = λ bytes sees. sees_still c.args.self.now _ bytes refl refl refl
    (back c.args.self.now.columns.items c.deref_mut.result.now c.join_each.new.columns c.args.self.now.columns.len (omega (arith, c.args.self.now.columns.ok.0)) c.deref_mut.ensures.value c.join_each.ensures.grown) sees

pub returns-clause-sees : goal.returns-clause-sees
returns-clause-sees c = λ same bytes sees.
    let own = c.args.self.now in
    let other = c.args.other in
    let headers : header_of other ≡ header_of own = search rules in
    let indexes : other.choice.indexes.items ≡ own.choice.indexes.items = search rules in
    let lengths : length other.header.items ≡ length own.header.items =
    sym (length-map other.header.items (λ field. field.items)) ∙ (ap length headers ∙ length-map own.header.items (λ field. field.items)) in
    sees_joined other _ bytes (sym same) (sym headers) indexes (other.many ∙ (lengths ∙ sym own.many))
    (back_more own.columns.items c.deref_mut.result.now other.columns.items c.join_each.new.columns own.columns.len (omega (arith, own.columns.ok.0)) c.deref_mut.ensures.value
    c.join_each.ensures.grown c.in_ok-join_each.ensures.joined) sees
