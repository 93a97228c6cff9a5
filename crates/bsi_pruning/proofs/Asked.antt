-- What fields ask by the words of one vocabulary, and by those of another that names the same columns by other numbers.
use Rattle.std.proofs.Common.{◌≡◌, ◌||◌, ℕ, Bool, true, false, List, [], ◌∷◌, ◌++◌, Option, Some, None, ℤ, length, map, refl, sym, ap, ap₂, subst, ◌∙◌, arith, Global, Vec}
use Rattle.std.specs.Prelude.{if◌then◌else◌, codes, option_map, option_and_then, All, Contains, MatchOption}
use Rattle.std.specs.Str.{bytes_eq}
use Rattle.std.proofs.lemmas.List.{length-map}
use Rattle.std.proofs.lemmas.List.Elements.{All-append, All-cons, All-nil, Contains-append_left, Contains-append_right}
use Rattle.bsi_digits.specs.declared.op.Op.{Op}
use Rattle.bsi_rows.specs.Answers.{columns_of_pred, columns_of_total}
use Rattle.bsi_rows.specs.Fields.{Field}
use Rattle.bsi_rows.specs.declared.query.Pred.{Pred, All as every_row, Compare, Columns, Null, Both', Either', Not'}
use Rattle.bsi_rows.specs.declared.query.Query.{Query}
use Rattle.bsi_rows.specs.declared.query.Total.{Total}
use Rattle.bsi_rows.specs.declared.query.Total.TheVariants.{Count, Sum, Least, Greatest, Median, Rank, Rows}
use Rattle.bsi_rows.specs.declared.question.Question.{Question}
use Rattle.bsi_rows.specs.declared.question.Question.TheVariants as question
use Rattle.bsi_syntax.specs.Events.{checked_total, column_total, named_total, total_of, total_of_column}
use Rattle.bsi_syntax.specs.Numbers.{spelled_number}
use Rattle.bsi_syntax.specs.Predicates.{compares_columns, sign_of, IsPredicate, Spells}
use Rattle.bsi_syntax.specs.Questions.{extreme_word, rank_total, total_in, AreByColumns, IsPredicateIn, IsQuestion, IsQueryIn}
use Rattle.bsi_syntax.specs.Reading.{first_as}
use Rattle.bsi_syntax.specs.Vocabularies.{Words}
use Rattle.bsi_syntax.specs.declared.grammar.Grammar.{Grammar}
use Rattle.bsi_syntax.specs.declared.grammar.Grammar.TheVariants.{Script, Index}
use Rattle.bsi_projection.specs.Chosen.{renumbered, renumbered_query, renumbered_total}

-- ---- questions by other numbers

-- a vector of other numbers, as many
abbrev pub renumbered_vec : (ℕ → ℕ) → Vec ℕ Global → Vec ℕ Global
renumbered_vec by v = record {
  ptr = v.ptr;
  len = v.len;
  cap = v.cap;
  alloc = v.alloc;
  items = map by v.items;
  ok = (v.ok.0 ∙ sym (length-map v.items by), v.ok.1);
  small = v.small;
}

-- the question that asks of column `by c` what this one asks of column c
abbrev pub renumbered_question : (ℕ → ℕ) → Question → Question
renumbered_question by (question.Total query) = question.Total (renumbered_query by query)
renumbered_question by (question.Groups query cs) = question.Groups (renumbered_query by query) (renumbered_vec by cs)
renumbered_question by (question.Top extreme c most pred) = question.Top extreme (by c) most (renumbered by pred)
renumbered_question by (question.Distinct c pred) = question.Distinct (by c) (renumbered by pred)
renumbered_question by (question.Quantile share c pred) = question.Quantile share (by c) (renumbered by pred)

-- the columns that a question reads
abbrev pub columns_of_query : Query → List ℕ
columns_of_query query = columns_of_total query.total ++ columns_of_pred query.pred

abbrev pub columns_of_question : Question → List ℕ
columns_of_question (question.Total query) = columns_of_query query
columns_of_question (question.Groups query cs) = columns_of_query query ++ cs.items
columns_of_question (question.Top extreme c most pred) = c ∷ columns_of_pred pred
columns_of_question (question.Distinct c pred) = c ∷ columns_of_pred pred
columns_of_question (question.Quantile share c pred) = c ∷ columns_of_pred pred

-- ---- names

-- a field is the name of column c
abbrev pub IsNamed : Words → List Field → ℕ → Type 0
IsNamed words fields c = (name : Field) × Contains fields name × (words.column name ≡ Some c)

-- the columns that fields name stand in a second vocabulary at the numbers that `by` tells
pub record StandIn (by : ℕ → ℕ) (fields : List Field) (first second : Words) : Type 0 where
  pub named : (name : Field) → Contains fields name → (c : ℕ) → first.column name ≡ Some c → second.column name ≡ Some (by c)
  pub compared : (c : ℕ) → IsNamed first fields c → second.comparison (by c) ≡ first.comparison c
  pub summed : (c : ℕ) → IsNamed first fields c → second.sums (by c) ≡ first.sums c
  pub alike : (c d : ℕ) → IsNamed first fields c → IsNamed first fields d → second.alike (by c) (by d) ≡ first.alike c d

-- ---- values that may be there

some-of : {X : Type 0} (x y : X) → Some x ≡ Some y → x ≡ y
some-of x y same = cc

not-some : {X : Type 0} (x : X) → ◌≡◌ {A = Option X} None (Some x) → ⊥
not-some x same = cc

module _ (by : ℕ → ℕ) (first second : Words) (fields : List Field) (stand : StandIn by fields first second) where
  -- these are some of the fields
  abbrev Among : List Field → Type 0
  Among part = (name : Field) → Contains part name → Contains fields name

  abbrev AreNamed : List ℕ → Type 0
  AreNamed cs = All (IsNamed first fields) cs

  head : (word : Field) (rest part : List Field) → part ≡ word ∷ rest → Among part → Contains fields word
  head word rest part is among = among word (subst (λ (fs : List Field). Contains fs word) (sym is) (0, omega arith, refl))

  third : (one two word : Field) (rest part : List Field) → part ≡ one ∷ two ∷ word ∷ rest → Among part → Contains fields word
  third one two word rest part is among = among word (subst (λ (fs : List Field). Contains fs word) (sym is) (2, omega arith, refl))

  left : (one more part : List Field) → part ≡ one ++ more → Among part → Among one
  left one more part is among = λ name has. among name (subst (λ (fs : List Field). Contains fs name) (sym is) (Contains-append_left one more name has))

  right : (one more part : List Field) → part ≡ one ++ more → Among part → Among more
  right one more part is among = λ name has. among name (subst (λ (fs : List Field). Contains fs name) (sym is) (Contains-append_right one more name has))

  one-named : (c : ℕ) → IsNamed first fields c → AreNamed (c ∷ [])
  one-named c is = All-cons (IsNamed first fields) c [] is (All-nil (IsNamed first fields))

  -- ---- predicates

  spelled-by : (part : List Field) (pred : Pred) → Among part → Spells first part pred → Spells second part (renumbered by pred)
  unfolding Spells
  spelled-by part every_row among s = s
  spelled-by part (Compare c op n) among s =
      let there = head s.0 (sign_of s.2 ∷ s.1 ∷ []) part s.3 among in (
        s.0,
        s.1,
        s.2,
        s.3,
        stand.named s.0 there c s.4,
        ap (λ (f : Op → Field → Option (Op × ℤ)). f s.2 s.1) (stand.compared c (s.0, there, s.4)) ∙ s.5,
      )
  spelled-by part (Columns a op b) among s =
      let there = head s.0 (sign_of op ∷ s.1 ∷ []) part s.2 among in
      let also = third s.0 (sign_of op) s.1 [] part s.2 among in (
        s.0,
        s.1,
        s.2,
        stand.named s.0 there a s.3,
        ap (λ (f : Op → Field → Option (Op × ℤ)). f op s.1) (stand.compared a (s.0, there, s.3)) ∙ s.4,
        stand.named s.1 also b s.5,
        stand.alike a b (s.0, there, s.3) (s.1, also, s.5) ∙ s.6,
      )
  spelled-by part (Null c) among s = (s.0, s.1, stand.named s.0 (head s.0 (codes "null" ∷ []) part s.1 among) c s.2)
  spelled-by part (Both' p one q two) among s =
      let both = left (s.0 ++ s.1) (codes "and" ∷ []) part s.2 among in (
        s.0,
        s.1,
        s.2,
        spelled-by s.0 one (left s.0 s.1 (s.0 ++ s.1) refl both) s.3,
        spelled-by s.1 two (right s.0 s.1 (s.0 ++ s.1) refl both) s.4,
      )
  spelled-by part (Either' p one q two) among s =
      let both = left (s.0 ++ s.1) (codes "or" ∷ []) part s.2 among in (
        s.0,
        s.1,
        s.2,
        spelled-by s.0 one (left s.0 s.1 (s.0 ++ s.1) refl both) s.3,
        spelled-by s.1 two (right s.0 s.1 (s.0 ++ s.1) refl both) s.4,
      )
  spelled-by part (Not' p pred) among s = (s.0, s.1, spelled-by s.0 pred (left s.0 (codes "not" ∷ []) part s.1 among) s.2)

  spelled-named : (part : List Field) (pred : Pred) → Among part → Spells first part pred → AreNamed (columns_of_pred pred)
  unfolding Spells
  spelled-named part every_row among s = All-nil (IsNamed first fields)
  spelled-named part (Compare c op n) among s = one-named c (s.0, head s.0 (sign_of s.2 ∷ s.1 ∷ []) part s.3 among, s.4)
  spelled-named part (Columns a op b) among s =
      All-cons (IsNamed first fields) a (b ∷ []) (s.0, head s.0 (sign_of op ∷ s.1 ∷ []) part s.2 among, s.3)
      (one-named b (s.1, third s.0 (sign_of op) s.1 [] part s.2 among, s.5))
  spelled-named part (Null c) among s = one-named c (s.0, head s.0 (codes "null" ∷ []) part s.1 among, s.2)
  spelled-named part (Both' p one q two) among s =
      let both = left (s.0 ++ s.1) (codes "and" ∷ []) part s.2 among in
      All-append (IsNamed first fields) (columns_of_pred one) (columns_of_pred two)
      (spelled-named s.0 one (left s.0 s.1 (s.0 ++ s.1) refl both) s.3)
      (spelled-named s.1 two (right s.0 s.1 (s.0 ++ s.1) refl both) s.4)
  spelled-named part (Either' p one q two) among s =
      let both = left (s.0 ++ s.1) (codes "or" ∷ []) part s.2 among in
      All-append (IsNamed first fields) (columns_of_pred one) (columns_of_pred two)
      (spelled-named s.0 one (left s.0 s.1 (s.0 ++ s.1) refl both) s.3)
      (spelled-named s.1 two (right s.0 s.1 (s.0 ++ s.1) refl both) s.4)
  spelled-named part (Not' p pred) among s = spelled-named s.0 pred (left s.0 (codes "not" ∷ []) part s.1 among) s.2

  predicate-by : (part : List Field) (pred : Pred) → Among part → IsPredicate first part pred → IsPredicate second part (renumbered by pred)
  predicate-by part pred among is = (is.0, spelled-by part pred among is.1)

  compares-same : (pred : Pred) → compares_columns (renumbered by pred) ≡ compares_columns pred
  compares-same every_row = refl
  compares-same (Compare c op n) = refl
  compares-same (Columns a op b) = refl
  compares-same (Null c) = refl
  compares-same (Both' p one q two) = ap₂ (λ a b. a || b) (compares-same one) (compares-same two)
  compares-same (Either' p one q two) = ap₂ (λ a b. a || b) (compares-same one) (compares-same two)
  compares-same (Not' p pred) = compares-same pred

  predicate-in : (grammar : Grammar) (part : List Field) (pred : Pred) → Among part → IsPredicateIn grammar first part pred
      → IsPredicateIn grammar second part (renumbered by pred) × AreNamed (columns_of_pred pred)
  predicate-in Script part pred among is = ((predicate-by part pred among is.0, compares-same pred ∙ is.1), spelled-named part pred among is.0.1)
  predicate-in Index part pred among is = (predicate-by part pred among is, spelled-named part pred among is.1)

  -- ---- totals

  -- a total and the fields behind it, renumbered
  abbrev moved : Total × List Field → Total × List Field
  moved found = (renumbered_total by found.0, found.1)

  -- what is found by the first words is found by the second; fields name its columns, and it leaves some of the fields
  abbrev Finds : Total × List Field → Option (Total × List Field) → Type 0
  Finds found other = (other ≡ Some (moved found)) × AreNamed (columns_of_total found.0) × Among found.1

  -- the totals of a column
  abbrev OfColumn : (ℕ → Total) → Type 0
  OfColumn t =
      (c : ℕ) → (found : Total) → IsNamed first fields c → checked_total first (t c) ≡ Some found
      → (checked_total second (t (by c)) ≡ Some (renumbered_total by found)) × AreNamed (columns_of_total found)

  plain-column : (total : Total) (c : ℕ) (found : Total) → IsNamed first fields c → columns_of_total total ≡ c ∷ [] → Some total ≡ Some found
      → (Some (renumbered_total by total) ≡ Some (renumbered_total by found)) × AreNamed (columns_of_total found)
  plain-column total c found is at same =
      let e : total ≡ found = some-of total found same in
      (ap (λ (t : Total). Some (renumbered_total by t)) e, subst AreNamed (sym at ∙ ap columns_of_total e) (one-named c is))

  sum-column : OfColumn Sum
  sum-column c found is = go (first.sums c) (second.sums (by c)) (stand.summed c is)
    where
      go : (b d : Bool) → d ≡ b → (if b then Some (Sum c) else None) ≡ Some found
          → ((if d then Some (Sum (by c)) else None) ≡ Some (renumbered_total by found)) × AreNamed (columns_of_total found)
      go true d e same =
          let one = plain-column (Sum c) c found is refl same in (ap (λ (b : Bool). if b then Some (Sum (by c)) else None) e ∙ one.0, one.1)
      go false d e same = absurd (not-some found same)

  column-word : (a b c d : Bool) (t : ℕ → Total)
      → (if a then Some Sum else (if b then Some Least else (if c then Some Greatest else (if d then Some Median else None)))) ≡ Some t
      → OfColumn t
  column-word true b c d t is = subst OfColumn (some-of Sum t is) sum-column
  column-word false true c d t is = subst OfColumn (some-of Least t is) (λ c found is. plain-column (Least c) c found is refl)
  column-word false false true d t is = subst OfColumn (some-of Greatest t is) (λ c found is. plain-column (Greatest c) c found is refl)
  column-word false false false true t is = subst OfColumn (some-of Median t is) (λ c found is. plain-column (Median c) c found is refl)
  column-word false false false false t is = absurd (not-some t is)

  -- a total of the column that a field names
  total-named : (o : Option (ℕ → Total)) (p q : Option ℕ) (found : Total)
      → ((t : ℕ → Total) → o ≡ Some t → OfColumn t)
      → ((c : ℕ) → p ≡ Some c → (q ≡ Some (by c)) × IsNamed first fields c)
      → option_and_then (λ total. option_and_then (λ c. checked_total first (total c)) p) o ≡ Some found
      → (option_and_then (λ total. option_and_then (λ c. checked_total second (total c)) q) o ≡ Some (renumbered_total by found)) × AreNamed (columns_of_total found)
  total-named None p q found turns goes is = absurd (not-some found is)
  total-named (Some t) None q found turns goes is = absurd (not-some found is)
  total-named (Some t) (Some c) q found turns goes is =
      let there = goes c refl in
      let both = turns t refl c found there.1 is in
      (ap (λ (o : Option ℕ). option_and_then (λ k. checked_total second (t k)) o) there.0 ∙ both.0, both.1)

  -- with the fields behind it
  with-rest : (o o' : Option Total) (rest : List Field) (found : Total × List Field) → Among rest
      → ((total : Total) → o ≡ Some total → (o' ≡ Some (renumbered_total by total)) × AreNamed (columns_of_total total))
      → option_map (λ total. (total, rest)) o ≡ Some found → Finds found (option_map (λ total. (total, rest)) o')
  with-rest None o' rest found among goes is = absurd (not-some found is)
  with-rest (Some total) o' rest found among goes is =
      let both = goes total refl in
      let e : (total, rest) ≡ found = some-of (total, rest) found is in
      subst (λ (f : Total × List Field). Finds f (option_map (λ t. (t, rest)) o')) e (ap (λ (o : Option Total). option_map (λ t. (t, rest)) o) both.0, both.1, among)

  column-by : (word : Field) (rest : List Field) (found : Total × List Field) → Among rest
      → column_total first word rest ≡ Some found → Finds found (column_total second word rest)
  column-by word [] found among is = absurd (not-some found is)
  column-by word (name ∷ rest) found among is =
      with-rest (named_total first word name) (named_total second word name) rest found (right (name ∷ []) rest (name ∷ rest) refl among)
      (λ total at. total-named (total_of_column word) (first.column name) (second.column name) total
      (λ t e. column-word (bytes_eq word (codes "sum")) (bytes_eq word (codes "least")) (bytes_eq word (codes "greatest")) (bytes_eq word (codes "median")) t e)
      (λ c index. let there = head name rest (name ∷ rest) refl among in (stand.named name there c index, (name, there, index))) at) is

  -- a rank of a column, and the fields behind it
  abbrev rank-with : List Field → ℕ → ℕ → Total × List Field
  rank-with rest c rank = (Rank c rank, rest)

  abbrev rank-before : ℕ → ℕ × List Field → Total × List Field
  rank-before c found = (Rank c found.0, found.1)

  abbrev before : {X : Type 0} → List Field → X → X × List Field
  before rest x = (x, rest)

  ranked : (p q : Option ℕ) (n : Option ℕ) (rest : List Field) (found : Total × List Field) → Among rest
      → ((c : ℕ) → p ≡ Some c → (q ≡ Some (by c)) × IsNamed first fields c)
      → option_and_then (λ c. option_map (rank-with rest c) n) p ≡ Some found
      → Finds found (option_and_then (λ c. option_map (rank-with rest c) n) q)
  ranked None q n rest found among goes is = absurd (not-some found is)
  ranked (Some c) q None rest found among goes is = absurd (not-some found is)
  ranked (Some c) q (Some rank) rest found among goes is =
      let there = goes c refl in
      let e : rank-with rest c rank ≡ found = some-of (rank-with rest c rank) found is in
      subst (λ (f : Total × List Field). Finds f (option_and_then (λ k. option_map (rank-with rest k) (Some rank)) q)) e (
        ap (λ (o : Option ℕ). option_and_then (λ k. option_map (rank-with rest k) (Some rank)) o) there.0,
        one-named c there.1,
        among,
      )

  -- the same, read field by field
  abbrev rank-of : Option (ℕ × List Field) → Option (Total × List Field)
  rank-of found = option_and_then (λ (index : ℕ × List Field). option_map (rank-before index.0) (first_as spelled_number index.1)) found

  rank-plain : (p : Option ℕ) (number : Field) (rest : List Field)
      → rank-of (option_map (before (number ∷ rest)) p) ≡ option_and_then (λ c. option_map (rank-with rest c) (spelled_number number)) p
  rank-plain None number rest = refl
  rank-plain (Some c) number rest = go (spelled_number number)
    where
      go : (o : Option ℕ) → option_map (rank-before c) (option_map (before rest) o) ≡ option_map (rank-with rest c) o
      go None = refl
      go (Some rank) = refl

  rank-alone : (p : Option ℕ) (found : Total × List Field) → rank-of (option_map (before []) p) ≡ Some found → ⊥
  rank-alone None found is = not-some found is
  rank-alone (Some c) found is = not-some found is

  rank-by : (rest : List Field) (found : Total × List Field) → Among rest → rank_total first rest ≡ Some found → Finds found (rank_total second rest)
  rank-by [] found among is = absurd (not-some found is)
  rank-by (name ∷ []) found among is = absurd (rank-alone (first.column name) found is)
  rank-by (name ∷ number ∷ rest) found among is =
      let there = head name (number ∷ rest) (name ∷ number ∷ rest) refl among in
      let both = ranked (first.column name) (second.column name) (spelled_number number) rest found
      (right (name ∷ number ∷ []) rest (name ∷ number ∷ rest) refl among)
      (λ c index. (stand.named name there c index, (name, there, index))) (sym (rank-plain (first.column name) number rest) ∙ is) in
      (rank-plain (second.column name) number rest ∙ both.0, both.1, both.2)

  -- ---- words for totals

  plain-found : (a b : Bool) (x y : Option (Total × List Field)) (rest : List Field) (found : Total × List Field) → Among rest
      → (x ≡ Some found → Finds found y)
      → (if a then Some (Count, rest) else (if b then Some (Rows, rest) else x)) ≡ Some found
      → Finds found (if a then Some (Count, rest) else (if b then Some (Rows, rest) else y))
  plain-found true b x y rest found among other is =
      let e : (Count, rest) ≡ found = some-of (Count, rest) found is in
      subst (λ (f : Total × List Field). Finds f (Some (Count, rest))) e (refl, All-nil (IsNamed first fields), among)
  plain-found false true x y rest found among other is =
      let e : (Rows, rest) ≡ found = some-of (Rows, rest) found is in
      subst (λ (f : Total × List Field). Finds f (Some (Rows, rest))) e (refl, All-nil (IsNamed first fields), among)
  plain-found false false x y rest found among other is = other is

  either-found : (a : Bool) (x y v w : Option (Total × List Field)) (found : Total × List Field)
      → (x ≡ Some found → Finds found v) → (y ≡ Some found → Finds found w)
      → (if a then x else y) ≡ Some found → Finds found (if a then v else w)
  either-found true x y v w found one other is = one is
  either-found false x y v w found one other is = other is

  total-by : (word : Field) (rest : List Field) (found : Total × List Field) → Among rest
      → total_of first (word ∷ rest) ≡ Some found → Finds found (total_of second (word ∷ rest))
  total-by word rest found among is =
      plain-found (bytes_eq word (codes "count")) (bytes_eq word (codes "list")) (column_total first word rest) (column_total second word rest) rest found among
      (column-by word rest found among) is

  total-in-by : (grammar : Grammar) (part : List Field) (found : Total × List Field) → Among part
      → total_in grammar first part ≡ Some found → Finds found (total_in grammar second part)
  total-in-by Script [] found among is = absurd (not-some found is)
  total-in-by Index [] found among is = absurd (not-some found is)
  total-in-by Script (word ∷ rest) found among is = total-by word rest found (right (word ∷ []) rest (word ∷ rest) refl among) is
  total-in-by Index (word ∷ rest) found among is =
      let behind = right (word ∷ []) rest (word ∷ rest) refl among in
      either-found (bytes_eq word (codes "rank")) (rank_total first rest) (total_of first (word ∷ rest)) (rank_total second rest) (total_of second (word ∷ rest)) found
      (rank-by rest found behind) (total-by word rest found behind) is

  -- ---- queries

  abbrev HasQuery : Grammar → List Field → Query → Type 0
  HasQuery grammar part query = IsQueryIn grammar second part (renumbered_query by query) × AreNamed (columns_of_query query)

  query-of : (grammar : Grammar) (part : List Field) (query : Query) (o : Option (Total × List Field)) → total_in grammar first part ≡ o → Among part
      → MatchOption o ⊥ (λ (total, rest). (query.total ≡ total) × IsPredicateIn grammar first rest query.pred) → HasQuery grammar part query
  query-of grammar part query None found among asked = absurd asked
  query-of grammar part query (Some (total, rest)) found among asked =
      let there = total-in-by grammar part (total, rest) among found in
      let pred = predicate-in grammar rest query.pred there.2 asked.1 in (
        subst (λ (o : Option (Total × List Field)). MatchOption o ⊥ (λ (t, behind). (renumbered_total by query.total ≡ t) × IsPredicateIn grammar second behind (renumbered by query.pred)))
            (sym there.0) (ap (renumbered_total by) asked.0, pred.0),
        All-append (IsNamed first fields) (columns_of_total query.total) (columns_of_pred query.pred)
            (subst (λ (t : Total). AreNamed (columns_of_total t)) (sym asked.0) there.1) pred.1,
      )

  query-by : (grammar : Grammar) (part : List Field) (query : Query) → Among part → IsQueryIn grammar first part query → HasQuery grammar part query
  query-by grammar part query among asked = query-of grammar part query (total_in grammar first part) refl among asked

  -- ---- questions

  by-columns : (cs : List ℕ) (part others : List Field) → Among part → AreByColumns first part cs others
      → AreByColumns second part (map by cs) others × AreNamed cs × Among others
  by-columns [] part others among is = (is, All-nil (IsNamed first fields), subst Among is among)
  by-columns (c ∷ cs) part others among is =
      let behind = right (codes "by" ∷ []) (is.0 ∷ is.1) part is.2 among in
      let there = head is.0 is.1 (is.0 ∷ is.1) refl behind in
      let rest = by-columns cs is.1 others (right (is.0 ∷ []) is.1 (is.0 ∷ is.1) refl behind) is.4 in (
        (is.0, is.1, is.2, stand.named is.0 there c is.3, rest.0),
        All-cons (IsNamed first fields) c cs (is.0, there, is.3) rest.1,
        rest.2,
      )

  lists : (total : Total) → renumbered_total by total ≡ Rows → total ≡ Rows
  lists Count is = cc
  lists (Sum c) is = cc
  lists (Least c) is = cc
  lists (Greatest c) is = cc
  lists (Median c) is = cc
  lists (Rank c rank) is = cc
  lists Rows is = refl

  abbrev Asks : Grammar → Question → Type 0
  Asks grammar asked = IsQuestion grammar second fields (renumbered_question by asked) × AreNamed (columns_of_question asked)

  all-among : Among fields
  all-among = λ name has. has

  -- a column that a field names, and a predicate
  column-and-pred : (c : ℕ) (pred : Pred) (rest : List Field) → IsNamed first fields c → Among rest → IsPredicate first rest pred → AreNamed (c ∷ columns_of_pred pred)
  column-and-pred c pred rest is among asked = All-cons (IsNamed first fields) c (columns_of_pred pred) is (spelled-named rest pred among asked.1)

  -- fields that ask a question by the first words ask the renumbered one by the second, and name its columns
  pub asked-by : (grammar : Grammar) (asked : Question) → IsQuestion grammar first fields asked → Asks grammar asked
  asked-by grammar (question.Total query) is = query-by grammar fields query all-among is
  asked-by Script (question.Groups query cs) is = absurd is
  asked-by Script (question.Top extreme c most pred) is = absurd is
  asked-by Script (question.Distinct c pred) is = absurd is
  asked-by Script (question.Quantile share c pred) is = absurd is
  asked-by Index (question.Groups query cs) is =
      let columns = by-columns cs.items fields is.0 all-among is.1 in
      let behind = query-by Index is.0 query columns.2 is.4 in
      let long : length (map by cs.items) ≡ length cs.items = length-map cs.items by in (
        (is.0, columns.0, omega (arith, long, is.2), omega (arith, long, is.3), behind.0, λ rows. is.5 (lists query.total rows)),
        All-append (IsNamed first fields) (columns_of_query query) cs.items behind.1 columns.1,
      )
  asked-by Index (question.Top extreme c most pred) is =
      let behind = right (extreme_word extreme ∷ []) (is.0 ∷ is.1 ∷ is.2) fields is.3 all-among in
      let there = head is.0 (is.1 ∷ is.2) (is.0 ∷ is.1 ∷ is.2) refl behind in
      let rest = right (is.0 ∷ is.1 ∷ []) is.2 (is.0 ∷ is.1 ∷ is.2) refl behind in (
        (is.0, is.1, is.2, is.3, stand.named is.0 there c is.4, is.5, predicate-by is.2 pred rest is.6),
        column-and-pred c pred is.2 (is.0, there, is.4) rest is.6,
      )
  asked-by Index (question.Distinct c pred) is =
      let behind = right (codes "distinct" ∷ []) (is.0 ∷ is.1) fields is.2 all-among in
      let there = head is.0 is.1 (is.0 ∷ is.1) refl behind in
      let rest = right (is.0 ∷ []) is.1 (is.0 ∷ is.1) refl behind in (
        (is.0, is.1, is.2, stand.named is.0 there c is.3, predicate-by is.1 pred rest is.4),
        column-and-pred c pred is.1 (is.0, there, is.3) rest is.4,
      )
  asked-by Index (question.Quantile share c pred) is =
      let behind = right (codes "quantile" ∷ []) (is.0 ∷ is.1 ∷ is.2 ∷ is.3) fields is.4 all-among in
      let there = head is.0 (is.1 ∷ is.2 ∷ is.3) (is.0 ∷ is.1 ∷ is.2 ∷ is.3) refl behind in
      let rest = right (is.0 ∷ is.1 ∷ is.2 ∷ []) is.3 (is.0 ∷ is.1 ∷ is.2 ∷ is.3) refl behind in (
        (is.0, is.1, is.2, is.3, is.4, stand.named is.0 there c is.5, is.6, predicate-by is.3 pred rest is.7),
        column-and-pred c pred is.3 (is.0, there, is.5) rest is.7,
      )
