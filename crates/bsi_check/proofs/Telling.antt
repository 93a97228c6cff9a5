-- Reasons that are added one after another.
use Rattle.std.proofs.Common.{◌≡◌, ℕ, zero, suc, ◌+◌, ◌-◌, ◌<◌, ◌≤◌, Bool, true, false, ◌&&◌, List, [], ◌∷◌, ◌++◌, length, map, nat_eq, nat_le, refl, sym, ap, subst, ◌∙◌, arith, append_assoc, get_or, length-append, codes, Option, None, Some, Result, Ok, Err}
use Rattle.std.specs.Prelude.{All, IfOk, OnOk}
use Rattle.std.specs.Bool.{if◌then◌else◌}
use Rattle.std.specs.List.{concat}
use Rattle.std.proofs.lemmas.Bool.{le-leb, leb-true, lt-leb}
use Rattle.std.proofs.lemmas.Bool.Decides.{Decides-eqb}
use Rattle.std.proofs.lemmas.List.{append-nil, map-append}
use Rattle.std.proofs.lemmas.List.Elements.{All-append, All-map, All-push}
use Rattle.std.proofs.lemmas.List.Folds.{concat-append}
use Rattle.bsi_input.specs.declared.rows.SourceFault.{SourceFault}
use Rattle.bsi_input.specs.declared.rows.SourceFault.TheVariants as source
use Rattle.bsi_check.specs.declared.finding.AsksFinding.{AsksFinding}
use Rattle.bsi_check.specs.declared.finding.AsksFinding.TheVariants as asks
use Rattle.bsi_check.specs.declared.finding.FileFinding.{FileFinding}
use Rattle.bsi_check.specs.declared.finding.FileFinding.TheVariants.{Counted, NoHeader, Unread}
use Rattle.bsi_rows.specs.Fields.{Field}
use Rattle.bsi_logical.specs.declared.table_schema.TableSchema.{TableSchema}
use Rattle.bsi_input.specs.Formats.{Format}
use Rattle.bsi_check.specs.Judges.{Judge}
use Rattle.bsi_check.specs.Reports.{AreAsksChecked}
use Rattle.bsi_check.specs.declared.named.NamedFile.{NamedFile}
use Rattle.bsi_check.specs.Checks.{has_good_asks, is_clean}
use Rattle.bsi_check.specs.Reasons.{fault_why, line_why, reason_count, is_line_end, max_reasons, more_why, more_whys, one_line, reason_line, AddsAsksReasons, AddsBadRecordReasons, AddsFileReasons, AddsFirstReasons, AddsOneReason, AddsOneReasonUnless, AddsReasons, AddsReasonsUnless, AddsRecordReason, AddsSomeReasons, AddsUnreadReason, IsOneLine}
use Rattle.bsi_syntax.specs.Bytes.{KnownBytes}

-- ---- of one file

abbrev lines_of : List ℕ → List (List ℕ) → List ℕ
lines_of path whys = concat (map (reason_line path) whys)

lines_both : (path : List ℕ) (whys more : List (List ℕ)) → lines_of path (whys ++ more) ≡ lines_of path whys ++ lines_of path more
lines_both path whys more = ap concat (map-append (reason_line path) whys more) ∙ concat-append (map (reason_line path) whys) (map (reason_line path) more)

-- a text on one line has no line end
one_line_is : (text : List ℕ) → IsOneLine (one_line text)
one_line_is text = All-map (λ byte. is_line_end byte ≡ false) (λ byte. if is_line_end byte then 32 else byte) text (λ k d lt. by (get_or text k d))
  where
    by : (byte : ℕ) → is_line_end (if is_line_end byte then 32 else byte) ≡ false
    by byte = cases (is_line_end byte) refl
      where
        cases : (b : Bool) → is_line_end byte ≡ b → is_line_end (if is_line_end byte then 32 else byte) ≡ false
        cases true e = ap (λ b. is_line_end (if b then 32 else byte)) e
        cases false e = ap (λ b. is_line_end (if b then 32 else byte)) e ∙ e

-- one reason is one of one line
all_one : (why : List ℕ) → IsOneLine why → All IsOneLine (why ∷ [])
all_one why is = All-push IsOneLine [] why (λ k d lt. absurd (omega arith)) is

-- its line was added
pub reported_one : {T E : Type 0} (r : Result T E) (path why a b : List ℕ) → OnOk r (b ≡ a ++ reason_line path (one_line why)) → OnOk r (AddsReasons path (one_line why ∷ []) a b)
reported_one (Ok x) path why a b is =
    (all_one (one_line why) (one_line_is why), is ∙ ap (λ xs. a ++ xs) (sym (append-nil (reason_line path (one_line why)))))
reported_one (Err e) path why a b is = tt

-- a reason of a record is one reason
pub one_told : {format : Format} {judge : Judge} {header fields : List Field} {path a b : List ℕ} → AddsRecordReason format judge header fields path a b → AddsOneReason path a b
one_told told = (one_line (line_why told.line told.text), told.added)

pub reported_none : (path bytes : List ℕ) → AddsReasons path [] bytes bytes
reported_none path bytes = ((λ k d lt. absurd (omega arith)), sym (append-nil bytes))

pub reported_more : (path : List ℕ) (whys more : List (List ℕ)) (a b c : List ℕ) → AddsReasons path whys a b → AddsReasons path more b c → AddsReasons path (whys ++ more) a c
reported_more path whys more a b c one two = (
  All-append IsOneLine whys more one.0 two.0,
  two.1 ∙ (ap (λ xs. xs ++ lines_of path more) one.1
      ∙ (append_assoc a (lines_of path whys) (lines_of path more) ∙ ap (λ xs. a ++ xs) (sym (lines_both path whys more)))),
)

one_long : (path why : List ℕ) → 0 < length (reason_line path why)
one_long path why = omega (arith, length-append (path ++ codes ":" ++ why) (codes "\n"))

lines_long : (path : List ℕ) (whys : List (List ℕ)) → length whys ≤ length (lines_of path whys)
lines_long path [] = omega arith
lines_long path (why ∷ whys) =
    omega (arith, one_long path why, lines_long path whys, length-append (reason_line path why) (lines_of path whys))

-- each reason takes a byte at least
pub reported_long : (path : List ℕ) (whys : List (List ℕ)) (a b : List ℕ) → AddsReasons path whys a b → length a + length whys ≤ length b
reported_long path whys a b reported = omega (arith, ap length reported.1, length-append a (lines_of path whys), lines_long path whys)

-- ---- of bad records

first_in : (bad : ℕ) → bad ≤ max_reasons → reason_count bad ≡ bad
first_in bad few = ap (λ b. if b then bad else max_reasons) (le-leb bad max_reasons few)

first_full : (bad : ℕ) → max_reasons ≤ bad → reason_count bad ≡ max_reasons
first_full bad many = by (nat_le bad max_reasons) refl
  where
    by : (b : Bool) → nat_le bad max_reasons ≡ b → reason_count bad ≡ max_reasons
    by true e = ap (λ b. if b then bad else max_reasons) e ∙ omega (arith, leb-true bad max_reasons e, many)
    by false e = ap (λ b. if b then bad else max_reasons) e

pub first_none : (path bytes : List ℕ) → AddsFirstReasons path 0 bytes bytes
first_none path bytes = ([], refl, reported_none path bytes)

pub first_more : (path : List ℕ) (bad : ℕ) (a b c : List ℕ) → bad + 1 ≤ max_reasons → AddsFirstReasons path bad a b → AddsOneReason path b c → AddsFirstReasons path (bad + 1) a c
first_more path bad a b c few reported more = (
  reported.0 ++ more.0 ∷ [],
  omega (arith, length-append reported.0 (more.0 ∷ []), reported.1, first_in bad (omega (arith, few)), first_in (bad + 1) few),
  reported_more path reported.0 (more.0 ∷ []) a b c reported.2 more.1,
)

pub first_past : (path : List ℕ) (bad : ℕ) (a b : List ℕ) → max_reasons ≤ bad → AddsFirstReasons path bad a b → AddsFirstReasons path (bad + 1) a b
first_past path bad a b many reported =
    (reported.0, reported.1 ∙ (first_full bad many ∙ sym (first_full (bad + 1) (omega (arith, many)))), reported.2)

pub bad_many : (path : List ℕ) (bad : ℕ) (a b c : List ℕ) → max_reasons < bad → AddsFirstReasons path bad a b
    → AddsReasons path (more_why (bad - max_reasons) ∷ []) b c → AddsBadRecordReasons path bad a c
bad_many path bad a b c many reported more =
    let one : more_whys bad ≡ more_why (bad - max_reasons) ∷ [] = ap (λ b. if b then [] else more_why (bad - max_reasons) ∷ []) (lt-leb bad max_reasons many) in (
      reported.0,
      reported.1,
      subst (λ whys. AddsReasons path (reported.0 ++ whys) a c) (sym one) (reported_more path reported.0 (more_why (bad - max_reasons) ∷ []) a b c reported.2 more),
    )

-- a file that was not read to its end, after some of its reasons
pub reported_unread : (path : List ℕ) (fault : SourceFault) (a b c : List ℕ) → (fault ≡ source.NoMemory → ⊥) → AddsSomeReasons path a b → AddsReasons path (fault_why fault ∷ []) b c
    → AddsUnreadReason path fault a c
reported_unread path fault a b c not some reported = (not, some.0, reported_more path some.0 (fault_why fault ∷ []) a b c some.1 reported)

pub unread_reported : {E : Type 0} (path : List ℕ) (fault : SourceFault) (a b c : List ℕ) (r : Result FileFinding E) → IfOk r (λ finding. finding ≡ Unread fault)
    → OnOk r (fault ≡ source.NoMemory → ⊥) → ((fault ≡ source.NoMemory → ⊥) → AddsSomeReasons path a b) → OnOk r (AddsReasons path (fault_why fault ∷ []) b c)
    → IfOk r (λ finding. AddsFileReasons path finding a c)
unread_reported path fault a b c (Err e) finding not some reported = tt
unread_reported path fault a b c (Ok file) finding not some reported =
    subst (λ (f : FileFinding). AddsFileReasons path f a c) (sym finding) (reported_unread path fault a b c not (some not) reported)

-- ---- reasons are written just where a file is not good

some_first : (bad : ℕ) → 0 < bad → 0 < reason_count bad
some_first bad some = by (nat_le bad max_reasons) refl
  where
    by : (b : Bool) → nat_le bad max_reasons ≡ b → 0 < reason_count bad
    by true e = omega (arith, some, ap (λ b. if b then bad else max_reasons) e)
    by false e = omega (arith, ap (λ b. if b then bad else max_reasons) e)

one_more : (path : List ℕ) (a b : List ℕ) → AddsOneReason path a b → length a < length b
one_more path a b reported = omega (arith, reported_long path (reported.0 ∷ []) a b reported.1)

bad_more : (path : List ℕ) (bad : ℕ) (a b : List ℕ) → AddsBadRecordReasons path bad a b → AddsReasonsUnless (nat_eq bad 0) a b
bad_more path bad a b reported = by (nat_eq bad 0) refl
  where
    by : (r : Bool) → nat_eq bad 0 ≡ r → AddsReasonsUnless r a b
    by true e = none bad ((Decides-eqb bad 0).0 e) reported
      where
        empty : (whys : List (List ℕ)) → length whys ≡ 0 → AddsReasons path (whys ++ more_whys 0) a b → b ≡ a
        empty [] few is = is.1 ∙ append-nil a
        empty (why ∷ whys) few is = absurd (omega arith)

        none : (n : ℕ) → n ≡ 0 → AddsBadRecordReasons path n a b → b ≡ a
        none zero is has = empty has.0 has.1 has.2
        none (suc n) is has = absurd (omega arith)
    by false e =
        omega (arith, reported_long path (reported.0 ++ more_whys bad) a b reported.2, length-append reported.0 (more_whys bad), reported.1, some_first bad (positive bad e))
      where
        positive : (n : ℕ) → nat_eq n 0 ≡ false → 0 < n
        positive zero p = cc (p)
        positive (suc n) p = omega arith

unread_more : (path : List ℕ) (fault : SourceFault) (a b : List ℕ) → AddsUnreadReason path fault a b → length a < length b
unread_more path fault a b reported =
    omega (arith, reported_long path (reported.1 ++ fault_why fault ∷ []) a b reported.2, length-append reported.1 (fault_why fault ∷ []))

pub file_reported : (path : List ℕ) (file : FileFinding) (a b : List ℕ) → AddsFileReasons path file a b → AddsReasonsUnless (is_clean file) a b
file_reported path (Counted counts) a b reported = bad_more path counts.bad a b reported
file_reported path NoHeader a b reported = one_more path a b reported
file_reported path (Unread fault) a b reported = unread_more path fault a b reported

asks_reported : (path : List ℕ) (finding : AsksFinding) (a b : List ℕ) → AddsAsksReasons path finding a b → AddsReasonsUnless (has_good_asks finding) a b
asks_reported path (asks.Counted bad) a b reported = bad_more path bad a b reported
asks_reported path (asks.Unread fault) a b reported = unread_more path fault a b reported

pub unless_reported : (path : List ℕ) (good : Bool) (a b : List ℕ) → AddsOneReasonUnless good path a b → AddsReasonsUnless good a b
unless_reported path true a b reported = reported
unless_reported path false a b reported = one_more path a b reported

pub given_reported : {S : Type 0} (rem : S → KnownBytes) (schema : TableSchema) (asked : Option (NamedFile S)) (finding : AsksFinding) (a b : List ℕ)
    → AreAsksChecked rem schema asked finding a b → AddsReasonsUnless (has_good_asks finding) a b
given_reported rem schema None finding a b are = subst (λ (f : AsksFinding). AddsReasonsUnless (has_good_asks f) a b) (sym are.0) are.1
given_reported rem schema (Some file) finding a b are = asks_reported file.path.now finding a b are.1

-- reasons only grow
grows : (good : Bool) (before after : List ℕ) → AddsReasonsUnless good before after → length before ≤ length after
grows true before after same = omega (arith, ap length same)
grows false before after more = omega (arith, more)

pub tells_both : (a b : Bool) (before middle after : List ℕ) → AddsReasonsUnless a before middle → AddsReasonsUnless b middle after → AddsReasonsUnless (a && b) before after
tells_both true true before middle after one two = two ∙ one
tells_both true false before middle after one two = omega (arith, ap length one, two)
tells_both false b before middle after one two = omega (arith, one, grows b middle after two)
