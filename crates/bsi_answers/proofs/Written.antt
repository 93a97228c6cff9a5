-- Lines that are written one part behind the other.
use Rattle.std.proofs.Common.{◌≡◌, ℕ, ℤ, List, ◌++◌, if◌then◌else◌, Result, Ok, Err, ap, refl, sym, ◌∙◌, append_assoc}
use Rattle.std.specs.Prelude.{codes, OnOk}
use Rattle.std.specs.Result.{is_ok}
use Rattle.bsi_aggregates.specs.Groups.{Grouped}
use Rattle.bsi_aggregates.specs.declared.tops.TopRow.{TopRow}
use Rattle.bsi_syntax.specs.Bytes.{Bytes}
use Rattle.bsi_syntax.specs.Notations.{AppendsText, NumberTexts}
use Rattle.bsi_answers.specs.ReplyLines.{AreEntries, AreTexts, IsGroupText, IsListLine, IsNumberLine, IsRowText, IsValueText}

-- a text was appended
pub extended : {E : Type 0} (r : Result (Unit {0}) E) (old text new : Bytes) → new ≡ (if is_ok r then old ++ text else old) → OnOk r (new ≡ old ++ text)
extended (Ok done) old text new is = is
extended (Err e) old text new is = tt

three : (before a b c : Bytes) → ((before ++ a) ++ b) ++ c ≡ before ++ ((a ++ b) ++ c)
three before a b c = append_assoc (before ++ a) b c ∙ append_assoc before a (b ++ c) ∙ ap (λ t. before ++ t) (sym (append_assoc a b c))

-- a word, a text and a line feed
module _ (before one two third : Bytes) (word end : Bytes) (begun : one ≡ before ++ word) (ended : third ≡ two ++ end) where
  whole : (text : Bytes) → two ≡ one ++ text → third ≡ before ++ (word ++ text ++ end)
  whole text written = ended ∙ ap (λ l. l ++ end) (written ∙ ap (λ l. l ++ text) begun) ∙ three before word text end

pub number_line : (Is : ℤ → Bytes → Type 0) (word : Bytes) (number : ℤ) (before one two after : Bytes) → one ≡ before ++ word
    → AppendsText (Is number) one two → after ≡ two ++ codes "\n" → AppendsText (IsNumberLine Is word number) before after
number_line Is word number before one two after begun it ended = record {
  text = word ++ it.text ++ codes "\n";
  is = record { text = it.text; text_is = it.is; line_is = refl };
  written = whole before one two after word (codes "\n") begun ended it.text it.written;
}

pub list_line : {X : Type 0} (Is : X → Bytes → Type 0) (word : Bytes) (items : List X) (before one two after : Bytes) → one ≡ before ++ word
    → AppendsText (AreTexts Is items) one two → after ≡ two ++ codes "\n" → AppendsText (IsListLine Is word items) before after
list_line Is word items before one two after begun it ended = record {
  text = word ++ it.text ++ codes "\n";
  is = record { text = it.text; texts_are = it.is; line_is = refl };
  written = whole before one two after word (codes "\n") begun ended it.text it.written;
}

-- a group: its entries and its answer
pub group_written : (Of : NumberTexts) (by : List ℕ) (c : ℕ) (group : Grouped) (before one two third after : Bytes) → one ≡ before ++ codes " "
    → AppendsText (AreEntries Of by group.entries) one two → third ≡ two ++ codes "=" → AppendsText (IsValueText (Of c) group.answer) third after
    → AppendsText (IsGroupText Of by c group) before after
group_written Of by c group before one two third after begun entries equals answer = record {
  text = codes " " ++ entries.text ++ codes "=" ++ answer.text;
  is = record {
    entries = entries.text;
    answer = answer.text;
    entries_are = entries.is;
    answer_is = answer.is;
    text_is = refl;
  };
  written = answer.written ∙ ap (λ l. l ++ answer.text) (whole before one two third (codes " ") (codes "=") begun equals entries.text entries.written)
      ∙ append_assoc before (codes " " ++ entries.text ++ codes "=") answer.text;
}

-- a row: what stands before its number, and that
pub row_written : (Is : ℤ → Bytes → Type 0) (feeders : List ℕ) (row : TopRow) (front before middle after : Bytes)
    → ((number : Bytes) → Is row.number number → IsRowText Is feeders row (front ++ number))
    → middle ≡ before ++ front → AppendsText (Is row.number) middle after → AppendsText (IsRowText Is feeders row) before after
row_written Is feeders row front before middle after so begun it = record {
  text = front ++ it.text;
  is = so it.text it.is;
  written = it.written ∙ ap (λ l. l ++ it.text) begun ∙ append_assoc before front it.text;
}
