-- Which questions fields ask.
use Rattle.std.proofs.Common.{◌≡◌, ◌≢◌, ℕ, Global, Result, Ok, Err, false, ◌+◌, ◌<◌, ◌≤◌, List, [], ◌∷◌, ◌++◌, length, get_or, drop, Option, Some, None, option_and_then, codes, arith, ap, subst, sym, ◌∙◌, refl, append_assoc}
use Rattle.std.proofs.lemmas.List.{append-nil}
use Rattle.std.proofs.lemmas.Option.{none-some}
use Rattle.std.proofs.lemmas.Slice.Eq.{bytes_eq-Decides}
use Rattle.std.specs.Borrow.{Bor}
use Rattle.std.specs.Prelude.{IsErr, IsErrAnd}
use Rattle.std.specs.Str.{bytes_eq}
use Rattle.std.specs.declared.vec.Vec.{Vec}
use Rattle.bsi_rows.specs.Shares.{share_of, Share}
use Rattle.bsi_rows.specs.declared.query.Pred.{Pred}
use Rattle.bsi_rows.specs.declared.query.Query.{Query}
use Rattle.bsi_rows.specs.declared.query.Total.TheVariants.{Rows}
use Rattle.bsi_digits.specs.declared.extreme.Extreme.{Extreme}
use Rattle.bsi_digits.specs.declared.extreme.Extreme.TheVariants.{Greatest, Least}
use Rattle.bsi_rows.specs.declared.question.Question.{Question}
use Rattle.bsi_rows.specs.declared.question.Question.TheVariants as question
use Rattle.bsi_rows.specs.Fields.{Field}
use Rattle.bsi_syntax.specs.Numbers.{spelled_number}
use Rattle.bsi_syntax.specs.Predicates.{IsPredicate}
use Rattle.bsi_syntax.specs.Questions.{extreme_word, max_group_columns, spelled_share, AreByColumns, AreColumns, AreFurther, IsQueryIn, IsQuestion}
use Rattle.bsi_syntax.specs.Reading.{first_as, texts, IsParsedAs, Lent}
use Rattle.bsi_syntax.specs.Vocabularies.{Words}
use Rattle.bsi_syntax.specs.declared.grammar.Grammar.TheVariants.{Index}
use Rattle.bsi_syntax.specs.declared.grammar.QuestionError.{QuestionError}
use Rattle.bsi_syntax.specs.declared.grammar.QuestionError.TheVariants.{NoMemory, Stopped}
use Rattle.bsi_syntax.specs.declared.grammar.Stop.{Stop}
use Rattle.bsi_syntax.proofs.Firsts.{first_is, first_none, refused_on, some_first, stopped_on}

-- ---- lists that are one

first_same : (a b : Field) (xs ys : List Field) → a ∷ xs ≡ b ∷ ys → a ≡ b
first_same a b xs ys is = ap (λ fs. get_or fs 0 []) is

rest_same : (a b : Field) (xs ys : List Field) → a ∷ xs ≡ b ∷ ys → xs ≡ ys
rest_same a b xs ys is = ap (drop 1) is

-- ---- words

-- a query begins with no word of a report
by_asks : (words : Words) (rest : List Field) (query : Query) → IsQueryIn Index words (codes "by" ∷ rest) query → ⊥
by_asks words [] query is = is
by_asks words (name ∷ rest) query is = is

end_asks : (words : Words) (end : Extreme) (rest : List Field) (query : Query) → IsQueryIn Index words (extreme_word end ∷ rest) query → ⊥
end_asks words Greatest [] query is = is
end_asks words Greatest (name ∷ rest) query is = is
end_asks words Least [] query is = is
end_asks words Least (name ∷ rest) query is = is

distinct_asks : (words : Words) (rest : List Field) (query : Query) → IsQueryIn Index words (codes "distinct" ∷ rest) query → ⊥
distinct_asks words [] query is = is
distinct_asks words (name ∷ rest) query is = is

quantile_asks : (words : Words) (rest : List Field) (query : Query) → IsQueryIn Index words (codes "quantile" ∷ rest) query → ⊥
quantile_asks words [] query is = is
quantile_asks words (name ∷ rest) query is = is

end_not_by : (end : Extreme) → extreme_word end ≢ codes "by"
end_not_by Greatest is = cc (is)
end_not_by Least is = cc (is)

end_not_distinct : (end : Extreme) → extreme_word end ≢ codes "distinct"
end_not_distinct Greatest is = cc (is)
end_not_distinct Least is = cc (is)

end_not_quantile : (end : Extreme) → extreme_word end ≢ codes "quantile"
end_not_quantile Greatest is = cc (is)
end_not_quantile Least is = cc (is)

distinct_not_by : codes "distinct" ≢ codes "by"
distinct_not_by is = cc (is)

quantile_not_by : codes "quantile" ≢ codes "by"
quantile_not_by is = cc (is)

distinct_not_quantile : codes "distinct" ≢ codes "quantile"
distinct_not_quantile is = let first : 100 ≡ 113 = ap (λ t. get_or t 0 0) is in omega (arith, first)

-- fields that begin with another word name no column
named_by : (words : Words) (word : Field) (fields : List Field) (by : List ℕ) (rest : List Field) → 0 < length by → AreByColumns words (word ∷ fields) by rest → word ≡ codes "by"
named_by words word fields [] rest some is = absurd (omega (arith, some))
named_by words word fields (c ∷ by) rest some is = first_same word (codes "by") fields (is.0 ∷ is.1) is.2

-- no field asks nothing
pub nothing_asked : (words : Words) (asked : Question) → IsQuestion Index words [] asked → ⊥
nothing_asked words (question.Total query) is = is
nothing_asked words (question.Groups query by) is = none by.items is.2 is.1
  where
    none : (by : List ℕ) → 0 < length by → AreByColumns words [] by is.0 → ⊥
    none [] some named = omega (arith, some)
    none (c ∷ by) some named = cc (named.2)
nothing_asked words (question.Top end c most pred) is = cc (is.3)
nothing_asked words (question.Distinct c pred) is = cc (is.2)
nothing_asked words (question.Quantile share c pred) is = cc (is.4)

pub no_field_asks : (words : Words) (fields : List Lent) → length fields ≡ 0 → (asked : Question) → IsQuestion Index words (texts fields) asked → ⊥
no_field_asks words [] none = nothing_asked words
no_field_asks words (field ∷ fields) none = absurd (omega (arith, none))

-- another word
pub not_word : (word text other : Field) → false ≡ bytes_eq word text → text ≡ other → word ≢ other
not_word word text other apart same is = cc (apart, (bytes_eq-Decides word text).1 (is ∙ sym same))

-- another word than those of reports begins a query
module _ (words : Words) (fields : List Field) (word : Field) (rest : List Field) (whole : fields ≡ word ∷ rest) where
  first : (other : Field) (behind : List Field) → fields ≡ other ∷ behind → word ≡ other
  first other behind is = first_same word other rest behind (sym whole ∙ is)

  pub query_alone : word ≢ codes "by" → word ≢ codes "top" → word ≢ codes "bottom" → word ≢ codes "distinct" → word ≢ codes "quantile"
      → (asked : Question) → IsQuestion Index words fields asked → (query : Query) × IsQueryIn Index words fields query
  query_alone not_by not_top not_bottom not_distinct not_quantile (question.Total query) is = (query, is)
  query_alone not_by not_top not_bottom not_distinct not_quantile (question.Groups query by) is =
      absurd (not_by (named_by words word rest by.items is.0 is.2 (subst (λ (fs : List Field). AreByColumns words fs by.items is.0) whole is.1)))
  query_alone not_by not_top not_bottom not_distinct not_quantile (question.Top Greatest c most pred) is =
      absurd (not_top (first (codes "top") (is.0 ∷ is.1 ∷ is.2) is.3))
  query_alone not_by not_top not_bottom not_distinct not_quantile (question.Top Least c most pred) is =
      absurd (not_bottom (first (codes "bottom") (is.0 ∷ is.1 ∷ is.2) is.3))
  query_alone not_by not_top not_bottom not_distinct not_quantile (question.Distinct c pred) is =
      absurd (not_distinct (first (codes "distinct") (is.0 ∷ is.1) is.2))
  query_alone not_by not_top not_bottom not_distinct not_quantile (question.Quantile share c pred) is =
      absurd (not_quantile (first (codes "quantile") (is.0 ∷ is.1 ∷ is.2 ∷ is.3) is.4))

-- ---- first rows

module _ (words : Words) (end : Extreme) (fields : List Field) where
  -- what stands behind the word
  record IsTop : Type 0 where
    name : Field
    number : Field
    rest : List Field
    c : ℕ
    most : ℕ
    pred : Pred
    is : fields ≡ name ∷ number ∷ rest
    at : words.column name ≡ Some c
    spelled : spelled_number number ≡ Some most
    rows : IsPredicate words rest pred

  a_top : (asked : Question) → IsQuestion Index words (extreme_word end ∷ fields) asked → IsTop
  a_top (question.Total query) is = absurd (end_asks words end fields query is)
  a_top (question.Groups query by) is = absurd (end_not_by end (named_by words (extreme_word end) fields by.items is.0 is.2 is.1))
  a_top (question.Top other c most pred) is = record {
    name = is.0;
    number = is.1;
    rest = is.2;
    c = c;
    most = most;
    pred = pred;
    is = rest_same (extreme_word end) (extreme_word other) fields (is.0 ∷ is.1 ∷ is.2) is.3;
    at = is.4;
    spelled = is.5;
    rows = is.6;
  }
  a_top (question.Distinct c pred) is = absurd (end_not_distinct end (first_same (extreme_word end) (codes "distinct") fields (is.0 ∷ is.1) is.2))
  a_top (question.Quantile share c pred) is = absurd (end_not_quantile end (first_same (extreme_word end) (codes "quantile") fields (is.0 ∷ is.1 ∷ is.2 ∷ is.3) is.4))

  pub no_top_column : None ≡ first_as words.column fields → (asked : Question) → IsQuestion Index words (extreme_word end ∷ fields) asked → ⊥
  no_top_column none asked is =
      let top = a_top asked is in first_none words.column fields top.name (top.number ∷ top.rest) top.c none top.is top.at

  module _ (c : ℕ) (others : List Field) (column : some_first c others ≡ first_as words.column fields) where
    pub no_top_count : None ≡ first_as spelled_number others → (asked : Question) → IsQuestion Index words (extreme_word end ∷ fields) asked → ⊥
    no_top_count none asked is =
        let top = a_top asked is in
        let found = first_is words.column fields c others column in
        let same : others ≡ top.number ∷ top.rest = rest_same found.0 top.name others (top.number ∷ top.rest) (sym found.1 ∙ top.is) in
        first_none spelled_number others top.number top.rest top.most none same top.spelled

    module _ (most : ℕ) (rest : List Field) (number : some_first most rest ≡ first_as spelled_number others) where
      pub its_rows : (asked : Question) → IsQuestion Index words (extreme_word end ∷ fields) asked → (pred : Pred) × IsPredicate words rest pred
      its_rows asked is =
          let top = a_top asked is in
          let found = first_is words.column fields c others column in
          let counted = first_is spelled_number others most rest number in
          let same : others ≡ top.number ∷ top.rest = rest_same found.0 top.name others (top.number ∷ top.rest) (sym found.1 ∙ top.is) in
          let behind : top.rest ≡ rest = rest_same top.number counted.0 top.rest rest (sym same ∙ counted.1) in
          (top.pred, subst (λ (fs : List Field). IsPredicate words fs top.pred) behind top.rows)

-- ---- different numbers

module _ (words : Words) (fields : List Field) where
  a_distinct : (asked : Question) → IsQuestion Index words (codes "distinct" ∷ fields) asked
      → (name : Field) × (rest : List Field) × (c : ℕ) × (pred : Pred) × (fields ≡ name ∷ rest) × (words.column name ≡ Some c) × IsPredicate words rest pred
  a_distinct (question.Total query) is = absurd (distinct_asks words fields query is)
  a_distinct (question.Groups query by) is = absurd (distinct_not_by (named_by words (codes "distinct") fields by.items is.0 is.2 is.1))
  a_distinct (question.Top end c most pred) is = absurd (end_not_distinct end (sym (first_same (codes "distinct") (extreme_word end) fields (is.0 ∷ is.1 ∷ is.2) is.3)))
  a_distinct (question.Distinct c pred) is = (is.0, is.1, c, pred, rest_same (codes "distinct") (codes "distinct") fields (is.0 ∷ is.1) is.2, is.3, is.4)
  a_distinct (question.Quantile share c pred) is =
      absurd (distinct_not_quantile (first_same (codes "distinct") (codes "quantile") fields (is.0 ∷ is.1 ∷ is.2 ∷ is.3) is.4))

  pub no_distinct_column : None ≡ first_as words.column fields → (asked : Question) → IsQuestion Index words (codes "distinct" ∷ fields) asked → ⊥
  no_distinct_column none asked is =
      let it = a_distinct asked is in first_none words.column fields it.0 it.1 it.2 none it.4 it.5

  module _ (c : ℕ) (rest : List Field) (column : some_first c rest ≡ first_as words.column fields) where
    pub distinct_rows : (asked : Question) → IsQuestion Index words (codes "distinct" ∷ fields) asked → (pred : Pred) × IsPredicate words rest pred
    distinct_rows asked is =
        let it = a_distinct asked is in
        let found = first_is words.column fields c rest column in
        let behind : it.1 ≡ rest = rest_same it.0 found.0 it.1 rest (sym it.4 ∙ found.1) in
        (it.3, subst (λ (fs : List Field). IsPredicate words fs it.3) behind it.6)

-- ---- quantiles

-- the share of parts that were read
share_read : (numerator denominator : Field) (p w : ℕ) → spelled_number numerator ≡ Some p → spelled_number denominator ≡ Some w → spelled_share numerator denominator ≡ share_of p w
share_read numerator denominator p w is_part is_whole =
    ap (option_and_then (λ p. option_and_then (λ w. share_of p w) (spelled_number denominator))) is_part ∙ ap (option_and_then (λ w. share_of p w)) is_whole

module _ (words : Words) (fields : List Field) where
  record IsQuantile : Type 0 where
    name : Field
    numerator : Field
    denominator : Field
    rest : List Field
    c : ℕ
    share : Share
    pred : Pred
    is : fields ≡ name ∷ numerator ∷ denominator ∷ rest
    at : words.column name ≡ Some c
    shared : spelled_share numerator denominator ≡ Some share
    rows : IsPredicate words rest pred

  a_quantile : (asked : Question) → IsQuestion Index words (codes "quantile" ∷ fields) asked → IsQuantile
  a_quantile (question.Total query) is = absurd (quantile_asks words fields query is)
  a_quantile (question.Groups query by) is = absurd (quantile_not_by (named_by words (codes "quantile") fields by.items is.0 is.2 is.1))
  a_quantile (question.Top end c most pred) is = absurd (end_not_quantile end (sym (first_same (codes "quantile") (extreme_word end) fields (is.0 ∷ is.1 ∷ is.2) is.3)))
  a_quantile (question.Distinct c pred) is = absurd (distinct_not_quantile (sym (first_same (codes "quantile") (codes "distinct") fields (is.0 ∷ is.1) is.2)))
  a_quantile (question.Quantile share c pred) is = record {
    name = is.0;
    numerator = is.1;
    denominator = is.2;
    rest = is.3;
    c = c;
    share = share;
    pred = pred;
    is = rest_same (codes "quantile") (codes "quantile") fields (is.0 ∷ is.1 ∷ is.2 ∷ is.3) is.4;
    at = is.5;
    shared = is.6;
    rows = is.7;
  }

  pub no_quantile_column : None ≡ first_as words.column fields → (asked : Question) → IsQuestion Index words (codes "quantile" ∷ fields) asked → ⊥
  no_quantile_column none asked is =
      let it = a_quantile asked is in first_none words.column fields it.name (it.numerator ∷ it.denominator ∷ it.rest) it.c none it.is it.at

  module _ (c : ℕ) (others : List Field) (column : some_first c others ≡ first_as words.column fields) where
    behind_name : (it : IsQuantile) → others ≡ it.numerator ∷ it.denominator ∷ it.rest
    behind_name it =
        let found = first_is words.column fields c others column in
        rest_same found.0 it.name others (it.numerator ∷ it.denominator ∷ it.rest) (sym found.1 ∙ it.is)

    -- a share has a part that is a number, and a denominator
    has_part : (it : IsQuantile) → (p : ℕ) × (spelled_number it.numerator ≡ Some p)
    has_part it = by (spelled_number it.numerator) refl it.shared
      where
        by : (o : Option ℕ) → spelled_number it.numerator ≡ o → option_and_then (λ p. option_and_then (λ w. share_of p w) (spelled_number it.denominator)) o ≡ Some it.share
            → (p : ℕ) × (spelled_number it.numerator ≡ Some p)
        by None at is = absurd (none-some it.share is)
        by (Some p) at is = (p, at)

    has_whole : (it : IsQuantile) → (w : ℕ) × (spelled_number it.denominator ≡ Some w)
    has_whole it = by (spelled_number it.denominator) refl (sym (ap (option_and_then (λ p. option_and_then (λ w. share_of p w) (spelled_number it.denominator))) (has_part it).1) ∙ it.shared)
      where
        by : (o : Option ℕ) → spelled_number it.denominator ≡ o → option_and_then (λ w. share_of (has_part it).0 w) o ≡ Some it.share
            → (w : ℕ) × (spelled_number it.denominator ≡ Some w)
        by None at is = absurd (none-some it.share is)
        by (Some w) at is = (w, at)

    pub no_part : None ≡ first_as spelled_number others → (asked : Question) → IsQuestion Index words (codes "quantile" ∷ fields) asked → ⊥
    no_part none asked is =
        let it = a_quantile asked is in
        first_none spelled_number others it.numerator (it.denominator ∷ it.rest) (has_part it).0 none (behind_name it) (has_part it).1

    module _ (p : ℕ) (from_denominator : List Field) (numerator : some_first p from_denominator ≡ first_as spelled_number others) where
      behind_part : (it : IsQuantile) → from_denominator ≡ it.denominator ∷ it.rest
      behind_part it =
          let found = first_is spelled_number others p from_denominator numerator in
          rest_same found.0 it.numerator from_denominator (it.denominator ∷ it.rest) (sym found.1 ∙ behind_name it)

      pub no_whole : None ≡ first_as spelled_number from_denominator → (asked : Question) → IsQuestion Index words (codes "quantile" ∷ fields) asked → ⊥
      no_whole none asked is =
          let it = a_quantile asked is in first_none spelled_number from_denominator it.denominator it.rest (has_whole it).0 none (behind_part it) (has_whole it).1

      module _ (w : ℕ) (rest : List Field) (denominator : some_first w rest ≡ first_as spelled_number from_denominator) where
        its_share : (it : IsQuantile) → share_of p w ≡ Some it.share
        its_share it =
            let one = first_is spelled_number others p from_denominator numerator in
            let two = first_is spelled_number from_denominator w rest denominator in
            let same_part : one.0 ≡ it.numerator = first_same one.0 it.numerator from_denominator (it.denominator ∷ it.rest) (sym one.1 ∙ behind_name it) in
            let same_whole : two.0 ≡ it.denominator = first_same two.0 it.denominator rest it.rest (sym two.1 ∙ behind_part it) in
            sym (share_read it.numerator it.denominator p w (ap spelled_number (sym same_part) ∙ one.2) (ap spelled_number (sym same_whole) ∙ two.2)) ∙ it.shared

        pub no_share : None ≡ share_of p w → (asked : Question) → IsQuestion Index words (codes "quantile" ∷ fields) asked → ⊥
        no_share none asked is = let it = a_quantile asked is in none-some it.share (none ∙ its_share it)

        pub quantile_rows : (asked : Question) → IsQuestion Index words (codes "quantile" ∷ fields) asked → (pred : Pred) × IsPredicate words rest pred
        quantile_rows asked is =
            let it = a_quantile asked is in
            let two = first_is spelled_number from_denominator w rest denominator in
            let behind : it.rest ≡ rest = rest_same it.denominator two.0 it.rest rest (sym (behind_part it) ∙ two.1) in
            (it.pred, subst (λ (fs : List Field). IsPredicate words fs it.pred) behind it.rows)

        pub quantile_asked : (share : Share) (pred : Pred) → Some share ≡ share_of p w → IsPredicate words rest pred
            → IsQuestion Index words (codes "quantile" ∷ fields) (question.Quantile share c pred)
        quantile_asked share pred shared is =
            let found = first_is words.column fields c others column in
            let one = first_is spelled_number others p from_denominator numerator in
            let two = first_is spelled_number from_denominator w rest denominator in (
              found.0,
              one.0,
              two.0,
              rest,
              ap (λ fs. codes "quantile" ∷ fs) (found.1 ∙ ap (λ fs. found.0 ∷ fs) (one.1 ∙ ap (λ fs. one.0 ∷ fs) two.1)),
              found.2,
              share_read one.0 two.0 p w one.2 two.2 ∙ sym shared,
              is,
            )

-- ---- groups

module _ (words : Words) (before : List ℕ) where
  module _ (fields behind : List Field) (word : fields ≡ codes "by" ∷ behind) where
    begins : get_or fields 0 [] ≡ codes "by"
    begins = ap (λ fs. get_or fs 0 []) word

    -- as many as there may be
    pub no_more : length before ≡ max_group_columns → (more : List ℕ) (rest : List Field) → AreFurther words before fields more rest → ⊥
    no_more full [] rest is = is.2 (ap (λ fs. get_or fs 0 []) (sym is.0) ∙ begins)
    no_more full (c ∷ more) rest is = omega (arith, full, is.1)

    -- no column behind the word
    pub no_further : None ≡ first_as words.column behind → (more : List ℕ) (rest : List Field) → AreFurther words before fields more rest → ⊥
    no_further none [] rest is = is.2 (ap (λ fs. get_or fs 0 []) (sym is.0) ∙ begins)
    no_further none (c ∷ more) rest is =
        first_none words.column behind is.0.0 is.0.1 c none (rest_same (codes "by") (codes "by") behind (is.0.0 ∷ is.0.1) (sym word ∙ is.0.2)) is.0.3

    module _ (c : ℕ) (others : List Field) (column : some_first c others ≡ first_as words.column behind) where
      -- those behind it
      pub further_on : (more : List ℕ) (rest : List Field) → AreFurther words (before ++ c ∷ []) others more rest → AreFurther words before fields (c ∷ more) rest
      further_on more rest is =
          let found = first_is words.column behind c others column in (
            (found.0, others, word ∙ ap (λ fs. codes "by" ∷ fs) found.1, found.2, is.0),
            omega (arith, is.1, length_more before c),
            is.2,
          )
        where
          length_more : (xs : List ℕ) (x : ℕ) → length (xs ++ x ∷ []) ≡ length xs + 1
          length_more [] x = refl
          length_more (y ∷ xs) x = let next : length (xs ++ x ∷ []) ≡ length xs + 1 = length_more xs x in omega (arith, next)

      pub further_back : (more : List ℕ) (rest : List Field) → AreFurther words before fields more rest → (behind_it : List ℕ) × AreFurther words (before ++ c ∷ []) others behind_it rest
      further_back [] rest is = absurd (is.2 (ap (λ fs. get_or fs 0 []) (sym is.0) ∙ begins))
      further_back (d ∷ more) rest is =
          let found = first_is words.column behind c others column in
          let same : behind ≡ is.0.0 ∷ is.0.1 = rest_same (codes "by") (codes "by") behind (is.0.0 ∷ is.0.1) (sym word ∙ is.0.2) in
          let left : others ≡ is.0.1 = rest_same found.0 is.0.0 others is.0.1 (sym found.1 ∙ same) in (
            more,
            (subst (λ (fs : List Field). AreByColumns words fs more rest) (sym left) is.0.4, omega (arith, is.1, length_more before c), is.2),
          )
        where
          length_more : (xs : List ℕ) (x : ℕ) → length (xs ++ x ∷ []) ≡ length xs + 1
          length_more [] x = refl
          length_more (y ∷ xs) x = let next : length (xs ++ x ∷ []) ≡ length xs + 1 = length_more xs x in omega (arith, next)

-- no column follows
pub columns_stop : (words : Words) (before : List ℕ) (fields : List Field) (after : List ℕ) (r : Result (Bor (List Lent)) QuestionError) (stop : Stop)
    → IsErr r × IsErrAnd r (λ e. e ≡ Stopped stop) → ((more : List ℕ) (rest : List Field) → AreFurther words before fields more rest → ⊥)
    → AreColumns words before fields after r
columns_stop words before fields after (Ok rest) stop is none = absurd is.1
columns_stop words before fields after (Err e) stop is none = subst (λ (e : QuestionError). AreColumns words before fields after (Err e)) (sym is.1) none

-- one column, and those that follow it
pub columns_on : (words : Words) (before : List ℕ) (fields behind : List Field) → fields ≡ codes "by" ∷ behind → (c : ℕ) (others : List Field)
    → some_first c others ≡ first_as words.column behind → (with_it after : List ℕ) (r : Result (Bor (List Lent)) QuestionError) → with_it ≡ before ++ c ∷ []
    → AreColumns words with_it others after r → AreColumns words before fields after r
columns_on words before fields behind word c others column with_it after (Ok rest) pushed is =
    let more = is.0 in
    let further : AreFurther words (before ++ c ∷ []) others more (texts rest.now) = subst (λ b. AreFurther words b others more (texts rest.now)) pushed is.2 in
    (c ∷ more, is.1 ∙ ap (λ b. b ++ more) pushed ∙ append_assoc before (c ∷ []) more, further_on words before fields behind word c others column more (texts rest.now) further)
columns_on words before fields behind word c others column with_it after (Err (Stopped stop)) pushed is = λ more rest told.
    let it = further_back words before fields behind word c others column more rest told in
    is it.0 rest (subst (λ b. AreFurther words b others it.0 rest) (sym pushed) it.1)
columns_on words before fields behind word c others column with_it after (Err NoMemory) pushed is = tt

-- a query does not begin with the word of groups
pub query_not_by : (words : Words) (rest : List Field) (query : Query) → IsQueryIn Index words rest query → get_or rest 0 [] ≢ codes "by"
query_not_by words [] query is at = is
query_not_by words (word ∷ rest) query is at = by_asks words rest query (subst (λ (w : Field). IsQueryIn Index words (w ∷ rest) query) at is)

-- the query behind the columns
abbrev pub IsUnlisted : Words → List Field → Query → Type 0
IsUnlisted words rest query = IsQueryIn Index words rest query × (query.total ≢ Rows)

abbrev pub AreGrouped : Words → List Field → List ℕ → List Field → Query → Type 0
AreGrouped words fields by rest query = AreFurther words [] fields by rest × IsUnlisted words rest query

module _ (words : Words) (fields : List Field) (first : get_or fields 0 [] ≡ codes "by") where
  pub a_grouping : (asked : Question) → IsQuestion Index words fields asked → (by : List ℕ) × (rest : List Field) × (query : Query) × AreGrouped words fields by rest query
  a_grouping (question.Total query) is = absurd (query_not_by words fields query is first)
  a_grouping (question.Groups query by) is =
      let few : 0 + length by.items ≤ max_group_columns = omega (arith, is.3) in
      (by.items, is.0, query, ((is.1, few, query_not_by words is.0 query is.4), (is.4, is.5)))
  a_grouping (question.Top end c most pred) is = absurd (end_not_by end (sym (ap (λ fs. get_or fs 0 []) is.3) ∙ first))
  a_grouping (question.Distinct c pred) is = absurd (distinct_not_by (sym (ap (λ fs. get_or fs 0 []) is.2) ∙ first))
  a_grouping (question.Quantile share c pred) is = absurd (quantile_not_by (sym (ap (λ fs. get_or fs 0 []) is.4) ∙ first))

  -- there is a column
  pub some_column : (by : List ℕ) (rest : List Field) → AreFurther words [] fields by rest → 0 < length by
  some_column [] rest is = absurd (is.2 (ap (λ fs. get_or fs 0 []) (sym is.0) ∙ first))
  some_column (c ∷ by) rest is = omega arith

-- the columns are these alone
pub same_rest : (words : Words) (fields : List Field) (by all : List ℕ) (rest others : List Field) → AreFurther words [] fields by rest → AreFurther words [] fields all others → rest ≡ others
same_rest words fields by all rest others one two = go fields by all one.0 two.0
  where
    go : (fields : List Field) (by all : List ℕ) → AreByColumns words fields by rest → AreByColumns words fields all others → rest ≡ others
    go fields [] [] here there = sym here ∙ there
    go fields [] (d ∷ all) here there = absurd (one.2 (ap (λ fs. get_or fs 0 []) (sym here ∙ there.2)))
    go fields (c ∷ by) [] here there = absurd (two.2 (ap (λ fs. get_or fs 0 []) (sym there ∙ here.2)))
    go fields (c ∷ by) (d ∷ all) here there =
        let behind : here.0 ∷ here.1 ≡ there.0 ∷ there.1 = rest_same (codes "by") (codes "by") (here.0 ∷ here.1) (there.0 ∷ there.1) (sym here.2 ∙ there.2) in
        let left : here.1 ≡ there.1 = rest_same here.0 there.0 here.1 there.1 behind in
        go here.1 by all here.4 (subst (λ (fs : List Field). AreByColumns words fs all others) (sym left) there.4)

module _ (words : Words) (fields : List Field) (first : get_or fields 0 [] ≡ codes "by") where
  pub no_columns : (before after : List ℕ) (r : Result Question QuestionError) (e : QuestionError) → IsErr r × IsErrAnd r (λ given. given ≡ e) → before ≡ []
      → AreColumns words before fields after (Err e) → IsParsedAs (IsQuestion Index words fields) r
  no_columns before after r (Stopped stop) is empty none = stopped_on (IsQuestion Index words fields) r stop is λ asked told.
      let it = a_grouping words fields first asked told in
      none it.0 it.1 (subst (λ b. AreFurther words b fields it.0 it.1) (sym empty) it.3.0)
  no_columns before after r NoMemory is empty none = refused_on (IsQuestion Index words fields) r is

  abbrev HasRead : List ℕ → List ℕ → List Field → Type 0
  HasRead before after rest = (more : List ℕ) × (after ≡ before ++ more) × AreFurther words before fields more rest

  all_read : (before after : List ℕ) (rest : List Field) → before ≡ [] → HasRead before after rest → AreFurther words [] fields after rest
  all_read before after rest empty is =
      let same : after ≡ is.0 = is.1 ∙ ap (λ b. b ++ is.0) empty in
      subst (λ by. AreFurther words [] fields by rest) (sym same) (subst (λ b. AreFurther words b fields is.0 rest) empty is.2)

  pub its_query : (before after : List ℕ) (rest : List Field) → before ≡ [] → HasRead before after rest → (asked : Question) → IsQuestion Index words fields asked
      → (query : Query) × IsUnlisted words rest query
  its_query before after rest empty is asked told =
      let it = a_grouping words fields first asked told in
      let same = same_rest words fields it.0 after it.1 rest it.3.0 (all_read before after rest empty is) in
      (it.2, subst (λ (fs : List Field). IsUnlisted words fs it.2) same it.3.1)

  pub groups_asked : (before : List ℕ) (by : Vec ℕ Global) (rest : List Field) → before ≡ [] → HasRead before by.items rest → (query : Query) → IsUnlisted words rest query
      → IsQuestion Index words fields (question.Groups query by)
  groups_asked before by rest empty is query asked =
      let all = all_read before by.items rest empty is in
      let few : length by.items ≤ max_group_columns = omega (arith, all.1) in
      (rest, all.0, some_column words fields first by.items rest all, few, asked.0, asked.1)
