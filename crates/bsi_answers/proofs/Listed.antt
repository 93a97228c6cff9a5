-- A text that is written item by item.
use Rattle.std.proofs.Common.{ℕ, ◌+◌, ◌<◌, ◌≤◌, List, [], ◌∷◌, ◌++◌, length, get_or, take, refl, sym, subst, ◌∙◌, ap}
use Rattle.std.specs.List.{AllZip}
use Rattle.std.proofs.lemmas.List.{append_assoc, append-nil, take_all, take_more}
use Rattle.bsi_syntax.specs.Bytes.{Bytes}
use Rattle.bsi_syntax.specs.Notations.{AppendsText}
use Rattle.bsi_answers.specs.ReplyLines.{AreTexts}
use Rattle.bsi_answers.proofs.Asking.{concat_more, matched_push}

module _ {X : Type 0} (Is : X → Bytes → Type 0) (before : Bytes) (xs : List X) where
  -- nothing was written yet
  pub texts_none : AppendsText (AreTexts Is (take 0 xs)) before before
  texts_none = record { text = []; is = record { texts = []; each = none xs; text_is = refl }; written = sym (append-nil before) }
    where
      none : (ys : List X) → AllZip Is (take 0 ys) []
      none [] = tt
      none (y ∷ ys) = tt

  -- one item more
  pub texts_more : (i : ℕ) (d : X) (line next : Bytes) → i < length xs → AppendsText (AreTexts Is (take i xs)) before line
      → AppendsText (Is (get_or xs i d)) line next → AppendsText (AreTexts Is (take (i + 1) xs)) before next
  texts_more i d line next within so_far one = record {
    text = so_far.text ++ one.text;
    is = record {
      texts = so_far.is.texts ++ one.text ∷ [];
      each = subst (λ ys. AllZip Is ys (so_far.is.texts ++ one.text ∷ [])) (sym (take_more xs i d within))
          (matched_push Is (take i xs) so_far.is.texts (get_or xs i d) one.text so_far.is.each one.is);
      text_is = ap (λ t. t ++ one.text) so_far.is.text_is ∙ sym (concat_more so_far.is.texts one.text);
    };
    written = one.written ∙ ap (λ l. l ++ one.text) so_far.written ∙ append_assoc before so_far.text one.text;
  }

  -- all items were written
  pub texts_all : (i : ℕ) (line : Bytes) → length xs ≤ i → AppendsText (AreTexts Is (take i xs)) before line → AppendsText (AreTexts Is xs) before line
  texts_all i line all so_far = subst (λ ys. AppendsText (AreTexts Is ys) before line) (take_all i xs all) so_far
