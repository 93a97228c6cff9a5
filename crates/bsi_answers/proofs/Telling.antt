-- The lines of the first feeders.
use Rattle.std.proofs.Common.{◌≡◌, ℕ, suc, zero, ◌+◌, ◌<◌, ◌≤◌, false, None, List, [], ◌∷◌, ◌++◌, length, map, take, drop, refl, ap, sym, ◌∙◌, subst, arith, slice_index_or, add-zero, add-one}
use Rattle.std.specs.Io.KnownBytes.{Appends}
use Rattle.std.specs.List.{concat}
use Rattle.std.proofs.lemmas.List.{append-nil, take_all}
use Rattle.std.proofs.lemmas.List.Folds.{concat-append}
use Rattle.csv.proofs.WriteFacts.{appends-more, appends-none}
use Rattle.bsi_syntax.specs.Bytes.{KnownBytes}
use Rattle.bsi_syntax.specs.Lines.{fed_line}
use Rattle.bsi_input.specs.BufferedOutput.{AppendsPrefix}
use Rattle.bsi_answers.specs.RowFiles.{fed_counts, FedCounts}
use Rattle.bsi_answers.specs.Runs.{fed_lines}
use Rattle.bsi_answers.specs.declared.fed.Fed.{Fed}
use Rattle.bsi_answers.specs.Writing.{AreWrittenBefore}
use Rattle.bsi_answers.specs.declared.faults.FilesFault.{FilesFault}
use Rattle.bsi_answers.specs.declared.faults.FilesFault.TheVariants.{NoMemory, Write}
use Rattle.bsi_input.proofs.Waiting.{cut_front, cut_whole}

fed_append : (n : ℕ) (first bs : List FedCounts) → fed_lines n (first ++ bs) ≡ fed_lines n first ++ fed_lines (n + length first) bs
fed_append n [] bs = ap (λ m. fed_lines m bs) (sym (add-zero n))
fed_append n (a ∷ first) bs =
    let at : suc n + length first ≡ n + length (a ∷ first) = omega arith in
    ap (λ lines. fed_line n a.accepted a.bad ∷ lines) (fed_append (suc n) first bs ∙ ap (λ m. fed_lines (suc n) first ++ fed_lines m bs) at)

map_append : {X Y : Type 0} (f : X → Y) (xs ys : List X) → map f (xs ++ ys) ≡ map f xs ++ map f ys
map_append f [] ys = refl
map_append f (x ∷ xs) ys = ap (λ zs. f x ∷ zs) (map_append f xs ys)

take_map : {X Y : Type 0} (f : X → Y) (k : ℕ) (xs : List X) → take k (map f xs) ≡ map f (take k xs)
take_map f zero [] = refl
take_map f zero (x ∷ xs) = refl
take_map f (suc k) [] = refl
take_map f (suc k) (x ∷ xs) = ap (λ ys. f x ∷ ys) (take_map f k xs)

take_fed : (k n : ℕ) (counts : List FedCounts) → take k (fed_lines n counts) ≡ fed_lines n (take k counts)
take_fed zero n [] = refl
take_fed zero n (c ∷ counts) = refl
take_fed (suc k) n [] = refl
take_fed (suc k) n (c ∷ counts) = ap (λ lines. fed_line n c.accepted c.bad ∷ lines) (take_fed k (suc n) counts)

map_long : {X Y : Type 0} (f : X → Y) (xs : List X) → length (map f xs) ≡ length xs
map_long f [] = refl
map_long f (x ∷ xs) = ap suc (map_long f xs)

take_push : {X : Type 0} (xs : List X) (k : ℕ) (x : X) → k < length xs → x ≡ slice_index_or xs k x → take (suc k) xs ≡ take k xs ++ x ∷ []
take_push [] k x lt is = absurd (omega arith)
take_push (y ∷ xs) zero x lt is = ap (λ z. z ∷ []) (sym is)
take_push (y ∷ xs) (suc k) x lt is = ap (λ zs. y ∷ zs) (take_push xs k x (omega arith) is)

split : {X : Type 0} (xs : List X) (k : ℕ) → take k xs ++ drop k xs ≡ xs
split [] zero = refl
split [] (suc k) = refl
split (x ∷ xs) zero = refl
split (x ∷ xs) (suc k) = ap (λ zs. x ∷ zs) (split xs k)

take_long : {X : Type 0} (xs : List X) (k : ℕ) → k ≤ length xs → length (take k xs) ≡ k
take_long xs zero le = refl
take_long [] (suc k) le = absurd (omega arith)
take_long (x ∷ xs) (suc k) le = ap suc (take_long xs k (omega arith))

abbrev pub told_text : List Fed → List ℕ
told_text feds = concat (fed_lines 0 (map fed_counts feds))

told_push : (feds : List Fed) (fed : Fed) → told_text (feds ++ fed ∷ []) ≡ told_text feds ++ fed_line (length feds) fed.accepted fed.bad
told_push feds fed =
    let n : 0 + length (map fed_counts feds) ≡ length feds = omega (arith, map_long fed_counts feds) in
    ap (λ cs. concat (fed_lines 0 cs)) (map_append fed_counts feds (fed ∷ []))
    ∙ (ap concat (fed_append 0 (map fed_counts feds) (fed_counts fed ∷ []))
    ∙ (ap (λ m. concat (fed_lines 0 (map fed_counts feds) ++ fed_line m fed.accepted fed.bad ∷ [])) n
    ∙ (concat-append (fed_lines 0 (map fed_counts feds)) (fed_line (length feds) fed.accepted fed.bad ∷ [])
    ∙ ap (λ last. told_text feds ++ last) (append-nil (fed_line (length feds) fed.accepted fed.bad)))))

told_parts : (first bs : List Fed) → (rest : List ℕ) × (told_text (first ++ bs) ≡ told_text first ++ rest)
told_parts first bs = (
  concat (fed_lines (0 + length (map fed_counts first)) (map fed_counts bs)),
  ap (λ cs. concat (fed_lines 0 cs)) (map_append fed_counts first bs)
      ∙ (ap concat (fed_append 0 (map fed_counts first) (map fed_counts bs))
      ∙ concat-append (fed_lines 0 (map fed_counts first)) (fed_lines (0 + length (map fed_counts first)) (map fed_counts bs))),
)

pub any_default : {X : Type 0} (xs : List X) (k : ℕ) (d e : X) → k < length xs → slice_index_or xs k d ≡ slice_index_or xs k e
any_default [] k d e lt = absurd (omega arith)
any_default (x ∷ xs) zero d e lt = refl
any_default (x ∷ xs) (suc k) d e lt = any_default xs k d e (omega arith)

abbrev pub no_fed : Fed
no_fed = record { accepted = 0; bad = 0; stopped = false; fault = None; closed = false }

pub line_is : (line : List ℕ) (n k : ℕ) (fed : Fed) → line ≡ fed_line n fed.accepted fed.bad → n ≡ k → line ≡ fed_line k fed.accepted fed.bad
line_is line n k fed is number = is ∙ ap (λ m. fed_line m fed.accepted fed.bad) number

-- the lines of the first k feeders were written
pub record HasTold (feds : List Fed) (k : ℕ) (before now : KnownBytes) : Type 0 where
  pub within : k ≤ length feds
  pub written : Appends before now (told_text (take k feds))

module _ (feds : List Fed) (k : ℕ) (before now after : KnownBytes) (told : HasTold feds k before now) where
  module _ (fed : Fed) (line : List ℕ) (lt : k < length feds) (at : fed ≡ slice_index_or feds k fed) (is : line ≡ fed_line k fed.accepted fed.bad) where
    next_text : told_text (take (suc k) feds) ≡ told_text (take k feds) ++ line
    next_text =
        let n : length (take k feds) ≡ k = take_long feds k (omega arith) in
        ap told_text (take_push feds k fed lt at)
        ∙ (told_push (take k feds) fed
        ∙ (ap (λ m. told_text (take k feds) ++ fed_line m fed.accepted fed.bad) n ∙ ap (λ l. told_text (take k feds) ++ l) (sym is)))

    pub told_more : Appends now after line → HasTold feds (k + 1) before after
    told_more written =
        let text : told_text (take (k + 1) feds) ≡ told_text (take k feds) ++ line = ap (λ m. told_text (take m feds)) (add-one k) ∙ next_text in
        record {
          within = omega arith;
          written = subst (Appends before after) (sym text) (appends-more before now after (told_text (take k feds)) line told.written written);
        }

    -- a first part of the next line was written
    pub told_cut : AppendsPrefix now after line → (fault : FilesFault) → fault ≡ Write → AreWrittenBefore fault (fed_lines 0 (map fed_counts feds)) before after
    told_cut cut fault failed =
        let whole : AppendsPrefix before after (told_text (take (suc k) feds)) =
        subst (AppendsPrefix before after) (sym next_text) (cut_whole before now after (told_text (take k feds)) line told.written cut) in
        let parts = told_parts (take (suc k) feds) (drop (suc k) feds) in
        let out : AppendsPrefix before after (told_text feds) = subst (λ xs. AppendsPrefix before after (told_text xs)) (split feds (suc k))
        (subst (AppendsPrefix before after) (sym parts.1) (cut_front before after (told_text (take (suc k) feds)) parts.0 whole)) in
        subst (λ f. AreWrittenBefore f (fed_lines 0 (map fed_counts feds)) before after) (sym failed) out

  -- the lines of the first feeders are the first lines, and all of them in the end
  first_lines : concat (take k (fed_lines 0 (map fed_counts feds))) ≡ told_text (take k feds)
  first_lines = ap concat (take_fed k 0 (map fed_counts feds)) ∙ ap (λ cs. concat (fed_lines 0 cs)) (take_map fed_counts k feds)

  pub told_part : (fault : FilesFault) → fault ≡ NoMemory → AreWrittenBefore fault (fed_lines 0 (map fed_counts feds)) before now
  told_part fault is =
      subst (λ f. AreWrittenBefore f (fed_lines 0 (map fed_counts feds)) before now) (sym is) (k, subst (Appends before now) (sym first_lines) told.written)
