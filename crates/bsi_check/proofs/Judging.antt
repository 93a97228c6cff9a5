-- Texts that tell why records are bad, and go on.
use Rattle.std.proofs.Common.{◌≡◌, ℕ, List, [], ◌∷◌, ◌++◌, length, Option, Some, None, sym, ap, ◌∙◌, append_assoc, codes, decimal}
use Rattle.std.specs.Prelude.{MatchOption}
use Rattle.std.proofs.lemmas.List.{append-nil}
use Rattle.bsi_rows.specs.Fields.{Field}
use Rattle.bsi_input.specs.Formats.{Format}
use Rattle.bsi_check.specs.Judges.{first_refusing, Begins, IsAbout, IsReason, Judge}

pub begins_same : (text : List ℕ) → Begins text text
begins_same text = ([], sym (append-nil text))

pub begins_more : (prefix text new : List ℕ) → Begins prefix text → Begins text new → Begins prefix new
begins_more prefix text new begins more =
    (begins.0 ++ more.0, more.1 ∙ ap (λ t. t ++ more.0) begins.1 ∙ append_assoc prefix begins.0 more.0)

about_more : (format : Format) (judge : Judge) (c : ℕ) (text new : List ℕ) → IsAbout format judge c text → Begins text new → IsAbout format judge c new
about_more format judge c text new about more = record {
  called = about.called;
  is = about.is;
  why = about.why ++ more.0;
  said = more.1 ∙ ap (λ t. t ++ more.0) about.said ∙ append_assoc about.called (codes ": " ++ about.why) more.0;
}

-- a reason may be longer
pub reason_more : (format : Format) (judge : Judge) (header fields : List Field) (text new : List ℕ) → IsReason format judge header fields text → Begins text new
    → IsReason format judge header fields new
reason_more format judge header fields text new reason more = record {
  other_length = λ other. begins_more (codes "has " ++ decimal (length fields)) text new (reason.other_length other) more;
  column = λ same. by (first_refusing judge header fields) (reason.column same);
}
  where
    by : (o : Option ℕ) → MatchOption o (Begins (codes "is no row") text) (λ c. IsAbout format judge c text)
        → MatchOption o (Begins (codes "is no row") new) (λ c. IsAbout format judge c new)
    by None begins = begins_more (codes "is no row") text new begins more
    by (Some c) about = about_more format judge c text new about more
