-- The texts of the entries of a group, entry by entry.
use Rattle.std.proofs.Common.{◌≡◌, ◌<◌, ◌≤◌, ◌+◌, ℕ, ℤ, zero, suc, List, [], ◌∷◌, ◌++◌, Option, length, take, get_or, slice_index, refl, ap, sym, subst, ◌∙◌, arith, append_assoc}
use Rattle.std.specs.Prelude.{codes, drop}
use Rattle.std.proofs.lemmas.List.{append-nil, take_more}
use Rattle.bsi_syntax.specs.Bytes.{Bytes}
use Rattle.bsi_syntax.specs.Notations.{AppendsText, NumberTexts}
use Rattle.bsi_answers.specs.ReplyLines.{joined, AreEntries, AreEntryTexts, IsEntryText}

-- ---- texts with colons

alone : (texts : List Bytes) (text : Bytes) → texts ≡ [] → joined texts ++ text ≡ joined (texts ++ text ∷ [])
unfolding joined
alone [] text none = refl
alone (t ∷ texts) text none = absurd (cc (none))

behind : (first : Bytes) (texts : List Bytes) (text : Bytes) → joined (first ∷ texts) ++ (codes ":" ++ text) ≡ joined (first ∷ (texts ++ text ∷ []))
unfolding joined
behind first [] text = sym (append_assoc first (codes ":") text)
behind first (t ∷ texts) text =
    append_assoc (first ++ codes ":") (joined (t ∷ texts)) (codes ":" ++ text)
    ∙ ap (λ rest. first ++ codes ":" ++ rest) (behind t texts text)

after_some : (texts : List Bytes) (text : Bytes) → 0 < length texts → joined texts ++ (codes ":" ++ text) ≡ joined (texts ++ text ∷ [])
after_some [] text some = absurd (omega (arith, some))
after_some (t ∷ texts) text some = behind t texts text

-- ---- entries and their texts

next_column : (by : List ℕ) (k : ℕ) → slice_index by (suc k) ≡ slice_index (drop 1 by) k
next_column [] k = refl
next_column (c ∷ []) k = refl
next_column (c ∷ d ∷ by) k = refl

taken : {X : Type 0} (xs : List X) (k : ℕ) → k ≤ length xs → length (take k xs) ≡ k
taken [] zero within = refl
taken [] (suc k) within = absurd (omega (arith, within))
taken (x ∷ xs) zero within = refl
taken (x ∷ xs) (suc k) within = ap suc (taken xs k (omega (arith, within)))

module _ (Of : NumberTexts) where
  as_long : (by : List ℕ) (entries : List (Option ℤ)) (texts : List Bytes) → AreEntryTexts Of by entries texts → length texts ≡ length entries
  unfolding AreEntryTexts
  as_long by [] [] each = refl
  as_long by [] (text ∷ texts) each = absurd each
  as_long by (entry ∷ entries) [] each = absurd each
  as_long by (entry ∷ entries) (text ∷ texts) each = ap suc (as_long (drop 1 by) entries texts each.1)

  push : (by : List ℕ) (entries : List (Option ℤ)) (texts : List Bytes) (entry : Option ℤ) (text : Bytes) → AreEntryTexts Of by entries texts
      → IsEntryText (Of (slice_index by (length entries))) entry text → AreEntryTexts Of by (entries ++ entry ∷ []) (texts ++ text ∷ [])
  unfolding AreEntryTexts
  push by [] [] entry text each one = (one, tt)
  push by [] (t ∷ texts) entry text each one = absurd each
  push by (e ∷ entries) [] entry text each one = absurd each
  push by (e ∷ entries) (t ∷ texts) entry text each one =
      (each.0, push (drop 1 by) entries texts entry text each.1 (subst (λ c. IsEntryText (Of c) entry text) (next_column by (length entries)) one))

  module _ (by : List ℕ) (before : Bytes) (entries : List (Option ℤ)) where
    -- nothing was written yet
    pub entries_none : AppendsText (AreEntries Of by (take 0 entries)) before before
    unfolding AreEntryTexts joined
    entries_none = record { text = []; is = record { texts = []; each = none entries; text_is = refl }; written = sym (append-nil before) }
      where
        none : (es : List (Option ℤ)) → AreEntryTexts Of by (take 0 es) []
        none [] = tt
        none (e ∷ es) = tt

    -- all entries were written
    pub entries_all : (at : ℕ) (line : Bytes) → take at entries ≡ entries → AppendsText (AreEntries Of by (take at entries)) before line
        → AppendsText (AreEntries Of by entries) before line
    entries_all at line all so_far = subst (λ es. AppendsText (AreEntries Of by es) before line) all so_far

    module _ (d : Option ℤ) (at : ℕ) (line middle next : Bytes) (within : at < length entries)
        (so_far : AppendsText (AreEntries Of by (take at entries)) before line)
        (one : AppendsText (IsEntryText (Of (slice_index by at)) (get_or entries at d)) middle next) where
      long : length (take at entries) ≡ at
      long = taken entries at (omega (arith, within))

      each_more : AreEntryTexts Of by (take (at + 1) entries) (so_far.is.texts ++ one.text ∷ [])
      each_more = subst (λ es. AreEntryTexts Of by es (so_far.is.texts ++ one.text ∷ [])) (sym (take_more entries at d within))
          (push by (take at entries) so_far.is.texts (get_or entries at d) one.text so_far.is.each
          (subst (λ k. IsEntryText (Of (slice_index by k)) (get_or entries at d) one.text) (sym long) one.is))

      -- the first entry is written
      pub first_entry : at ≡ 0 → middle ≡ line → AppendsText (AreEntries Of by (take (at + 1) entries)) before next
      first_entry first same =
          let many = as_long by (take at entries) so_far.is.texts so_far.is.each in
          record {
            text = so_far.text ++ one.text;
            is = record {
              texts = so_far.is.texts ++ one.text ∷ [];
              each = each_more;
              text_is = ap (λ t. t ++ one.text) so_far.is.text_is ∙ alone so_far.is.texts one.text (empty so_far.is.texts (omega (arith, many, long, first)));
            };
            written = one.written ∙ ap (λ l. l ++ one.text) (same ∙ so_far.written) ∙ append_assoc before so_far.text one.text;
          }
        where
          empty : (texts : List Bytes) → length texts ≡ 0 → texts ≡ []
          empty [] none = refl
          empty (t ∷ texts) none = absurd (omega (arith, none))

      -- and one more
      pub next_entry : 0 < at → middle ≡ line ++ codes ":" → AppendsText (AreEntries Of by (take (at + 1) entries)) before next
      next_entry some colon =
          let many = as_long by (take at entries) so_far.is.texts so_far.is.each in
          record {
            text = so_far.text ++ (codes ":" ++ one.text);
            is = record {
              texts = so_far.is.texts ++ one.text ∷ [];
              each = each_more;
              text_is = ap (λ t. t ++ (codes ":" ++ one.text)) so_far.is.text_is
                  ∙ after_some so_far.is.texts one.text (omega (arith, many, long, some));
            };
            written = one.written ∙ ap (λ l. l ++ one.text) colon ∙ append_assoc line (codes ":") one.text
                ∙ ap (λ l. l ++ (codes ":" ++ one.text)) so_far.written ∙ append_assoc before so_far.text (codes ":" ++ one.text);
          }
