-- Texts of numbers, appended to a line.
use Rattle.std.proofs.Common.{◌≡◌, ℕ, ℤ, ◌+◌, ◌<◌, ◌≤◌, List, [], ◌++◌, length, get_or, drop, refl, ap, sym, ◌∙◌}
use Rattle.std.specs.List.{flat_map}
use Rattle.std.proofs.lemmas.List.{at_drop_more, at_drop_all, append_assoc, append-nil}
use Rattle.std.proofs.lemmas.List.Concat.{flat_map-cons}
use Rattle.bsi_rows.specs.Fields.{Field}
use Rattle.bsi_kinds.specs.Kinds.{Writes}
use Rattle.bsi_kinds.specs.declared.kind.Kind.{Kind}
use Rattle.bsi_kinds.specs.declared.kind.Kind.TheVariants.{Boolean, Date, Decimal, Rounded, Text, Time}
use Rattle.bsi_syntax.specs.Notations.{AppendsText}
use Rattle.bsi_logical.specs.AnswerTexts.{IsValueText}

-- what was written is a text of its own
pub written_text : (kind : Kind) (n : ℤ) (old new : Field) → Writes kind n old new → AppendsText (λ text. Writes kind n [] text) old new
written_text (Decimal places) n old new is = record { text = _; is = refl; written = is }
written_text (Rounded places) n old new is = record { text = _; is = refl; written = is }
written_text (Date form) n old new is = record { text = _; is = record { date = is.date; is = is.is; written = refl }; written = is.written }
written_text (Time form) n old new is = record {
  text = _;
  is = record { date = is.date; time = is.time; subsecond = is.subsecond; small = is.small; is = is.is; written = refl };
  written = is.written;
}
written_text (Boolean form) n old new is = record { text = _; is = refl; written = is }
written_text (Text texts) n old new is = record { text = _; is = refl; written = is }

-- that of a value that is no text of a list
pub value_text : (kind : Kind) (n : ℤ) (old new : Field) → ((texts : List Field) → kind ≡ Text texts → ⊥) → Writes kind n old new → AppendsText (IsValueText kind n) old new
value_text (Decimal places) n old new other is = written_text (Decimal places) n old new is
value_text (Rounded places) n old new other is = written_text (Rounded places) n old new is
value_text (Date form) n old new other is = written_text (Date form) n old new is
value_text (Time form) n old new other is = written_text (Time form) n old new is
value_text (Boolean form) n old new other is = written_text (Boolean form) n old new is
value_text (Text texts) n old new other is = absurd (other texts refl)

-- ---- a text that is written byte by byte

pub parts_more : (text : ℕ → Field) (xs : Field) (i : ℕ) (d : ℕ) (before line next : Field) → i < length xs
    → next ≡ line ++ text (get_or xs i d)
    → line ++ flat_map text (drop i xs) ≡ before ++ flat_map text xs → next ++ flat_map text (drop (i + 1) xs) ≡ before ++ flat_map text xs
parts_more text xs i d before line next within written so_far =
    let part = text (get_or xs i d) in
    ap (λ ys. ys ++ flat_map text (drop (i + 1) xs)) written ∙ append_assoc line part (flat_map text (drop (i + 1) xs))
    ∙ ap (λ ys. line ++ ys) (sym (at_drop_more (flat_map text) xs i d within ∙ flat_map-cons text (get_or xs i d) (drop (i + 1) xs))) ∙ so_far

pub parts_all : (text : ℕ → Field) (xs : Field) (i : ℕ) (before line : Field) → length xs ≤ i
    → line ++ flat_map text (drop i xs) ≡ before ++ flat_map text xs → line ≡ before ++ flat_map text xs
parts_all text xs i before line all so_far =
    sym (append-nil line) ∙ ap (λ ys. line ++ ys) (sym (at_drop_all (flat_map text) xs i all)) ∙ so_far
