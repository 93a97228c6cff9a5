-- The rows that a source still has, and those that it gives of them.
use Rattle.std.proofs.Common.{◌≡◌, ℕ, ◌+◌, List, [], ◌∷◌, ◌++◌, Option, Some, None, Result, Ok, Err, is_some, IsSome, IfOk, IfSome, MatchOption, length, refl, sym, ap, ap₂, subst, ◌∙◌, arith, Bool, true, false}
use Rattle.std.proofs.lemmas.List.{append-nil, append_assoc}
use Rattle.std.proofs.lemmas.List.Elements.{filter_map-append}
use Rattle.std.proofs.lemmas.List.Sums.{sum_by-append}
use mathlib.Core.List.{IsPrefix}
use Rattle.csv.specs.Machine.{next_record}
use Rattle.csv.specs.Reading.{AreRecords, Reached, reader_state, source_of}
use Rattle.csv.specs.declared.parser.Config.{Config}
use Rattle.csv.specs.declared.parser.State.{State}
use Rattle.csv.specs.declared.parser.State.TheVariants as st
use Rattle.csv.specs.declared.reader.Reader.{Reader}
use Rattle.bsi_rows.specs.Rows.{Entries}
use Rattle.bsi_syntax.specs.Bytes.{KnownBytes}
use Rattle.bsi_rows.specs.Fields.{Field}
use Rattle.bsi_input.specs.Formats.{bad_count, good_row, good_rows, given}
use Rattle.bsi_input.specs.Sources.{counts_of, end_after, AreLeft, Counts, GivesFirst, GivesFirstRows, HasEndedBy, HasGivenNext, HasGivenRows, HasLeft, HasReadBy, HasReadRows, HasRest, IsAfterHeader, IsOverBy, IsWholeFile, IsWithoutFault, Layout, Source, SourceEnd}
use Rattle.bsi_input.specs.declared.rows.SourceFault.{SourceFault}
use Rattle.bsi_input.proofs.AllRecords.{all_records, one_reading, records_behind}
use Rattle.bsi_input.proofs.Joining.{taken_both}
use Rattle.bsi_input.proofs.Taking.{bad_one}

-- an option that is not there is not there
nothing : IsSome {T = List ℕ} None → ⊥
nothing there = cc there

module _ {R : Type 0} (config : Config) (rem : R → KnownBytes) where
  -- a reader of known bytes has some records left
  some_left : (input : Reader R) (known : KnownBytes) → source_of rem input ≡ known → IsSome known
      → (records : List (List Field)) × AreLeft config rem input records
  some_left input None is there = absurd (nothing there)
  some_left input (Some rest) is there =
      let all = all_records config (reader_state input) rest in
      (all.records, subst (λ o. MatchOption o ⊥ (λ bytes. AreRecords config (reader_state input) bytes all.records)) (sym is) all.are)

  -- and no others
  one_left : (input : Reader R) (known : KnownBytes) (xs ys : List (List Field))
      → MatchOption known ⊥ (λ rest. AreRecords config (reader_state input) rest xs)
      → MatchOption known ⊥ (λ rest. AreRecords config (reader_state input) rest ys) → xs ≡ ys
  one_left input None xs ys first second = absurd first
  one_left input (Some rest) xs ys first second = one_reading config (reader_state input) rest xs ys first second

  -- where none is left there is none among them
  none_left : (input : Reader R) (known : KnownBytes) (records : List (List Field))
      → IfSome known (λ rest. next_record config (reader_state input) [] [] rest ≡ None)
      → MatchOption known ⊥ (λ rest. AreRecords config (reader_state input) rest records) → records ≡ []
  unfolding Reached
  none_left input None records over left = absurd left
  none_left input (Some rest) records over left =
      one_reading config (reader_state input) rest records [] left (reader_state input, rest, (refl, refl), over)

  -- records that were read stand before those that are left
  read_then_left : (a b : Reader R) (first last : List (List Field)) → IsSome (source_of rem a) → HasReadBy config rem a b first → AreLeft config rem b last
      → AreLeft config rem a (first ++ last)
  read_then_left a b first last = by (source_of rem a) (source_of rem b)
    where
      by : (o p : KnownBytes) → IsSome o
          → IfSome o (λ xs. MatchOption p ⊥ (λ ys. Reached config (reader_state a) xs first (reader_state b) ys))
          → MatchOption p ⊥ (λ ys. AreRecords config (reader_state b) ys last)
          → MatchOption o ⊥ (λ xs. AreRecords config (reader_state a) xs (first ++ last))
      by None p there read left = absurd (nothing there)
      by (Some xs) None there read left = absurd left
      by (Some xs) (Some ys) there read left = records_behind config (reader_state a) (reader_state b) xs ys first last read left

  -- a reader that was read from is still known
  known_after : (a b : Reader R) (first : List (List Field)) → IsSome (source_of rem a) → HasReadBy config rem a b first → IsSome (source_of rem b)
  known_after a b first = by (source_of rem a) (source_of rem b)
    where
      by : (o p : KnownBytes) → IsSome o
          → IfSome o (λ xs. MatchOption p ⊥ (λ ys. Reached config (reader_state a) xs first (reader_state b) ys)) → IsSome p
      by None p there read = absurd (nothing there)
      by (Some xs) None there read = absurd read
      by (Some xs) (Some ys) there read = refl

  is_known : (input : Reader R) (records : List (List Field)) → AreLeft config rem input records → IsSome (source_of rem input)
  is_known input records = by (source_of rem input)
    where
      by : (o : KnownBytes) → MatchOption o ⊥ (λ rest. AreRecords config (reader_state input) rest records) → IsSome o
      by None left = absurd left
      by (Some rest) left = refl

module _ {R : Type 0} (rem : R → KnownBytes) (layout : Layout) where
  pub has_left : (input : Reader R) → IsSome (source_of rem input) → (rows : List Entries) × (bad : ℕ) × HasLeft rem layout input rows bad
  has_left input there =
      let left = some_left layout.format.config rem input (source_of rem input) refl there in
      (good_rows layout.format layout.header left.0, bad_count layout.format layout.header left.0, record { records = left.0; left = left.1; good = refl; others = refl })

  pub one_list : (input : Reader R) (xs ys : List Entries) (m n : ℕ) → HasLeft rem layout input xs m → HasLeft rem layout input ys n → (xs ≡ ys) × (m ≡ n)
  one_list input xs ys m n one two =
      let same = one_left layout.format.config rem input (source_of rem input) one.records two.records one.left two.left in
      (sym one.good ∙ ap (good_rows layout.format layout.header) same ∙ two.good, sym one.others ∙ ap (bad_count layout.format layout.header) same ∙ two.others)

  -- what was read, and what is left after it
  record Parts (a b : Reader R) (xs rows : List Entries) (n : ℕ) (start end : Counts) : Type 0 where
    pub rest : List (List Field)
    pub left : AreLeft layout.format.config rem b rest
    pub all : xs ++ good_rows layout.format layout.header rest ≡ rows
    pub bads : end.bad + bad_count layout.format layout.header rest ≡ start.bad + n

  parts : (a b : Reader R) (start end : Counts) (xs rows : List Entries) (n : ℕ) → HasReadRows rem layout a b start end xs → HasLeft rem layout a rows n
      → Parts a b xs rows n start end
  parts a b start end xs rows n read_so_far has =
      let there = is_known layout.format.config rem a has.records has.left in
      let more = some_left layout.format.config rem b (source_of rem b) refl (known_after layout.format.config rem a b read_so_far.records there read_so_far.read) in
      let whole = read_then_left layout.format.config rem a b read_so_far.records more.0 there read_so_far.read more.1 in
      let same = one_left layout.format.config rem a (source_of rem a) (read_so_far.records ++ more.0) has.records whole has.left in
      let bads = sum_by-append (bad_one layout) read_so_far.records more.0 in
      record {
        rest = more.0;
        left = more.1;
        all = ap (λ ys. ys ++ good_rows layout.format layout.header more.0) (sym read_so_far.good)
            ∙ sym (filter_map-append (good_row layout.format layout.header) read_so_far.records more.0)
            ∙ ap (good_rows layout.format layout.header) same ∙ has.good;
        bads = omega (arith, read_so_far.bad, bads, ap (bad_count layout.format layout.header) same, has.others);
      }

  pub first_rows : (a b : Reader R) (start end : Counts) (xs rows : List Entries) (n : ℕ) → HasReadRows rem layout a b start end xs → HasLeft rem layout a rows n
      → IsPrefix xs rows
  first_rows a b start end xs rows n read_so_far has =
      let both = parts a b start end xs rows n read_so_far has in (good_rows layout.format layout.header both.rest, both.all)

  pub without_last : (a b : Reader R) (start end : Counts) (xs : List Entries) (last : Entries) (rows : List Entries) (n : ℕ)
      → HasReadRows rem layout a b start end (xs ++ last ∷ []) → HasLeft rem layout a rows n → IsPrefix xs rows
  without_last a b start end xs last rows n read_so_far has =
      let both = parts a b start end (xs ++ last ∷ []) rows n read_so_far has in
      (last ∷ good_rows layout.format layout.header both.rest, sym (append_assoc xs (last ∷ []) (good_rows layout.format layout.header both.rest)) ∙ both.all)

  pub whole_rows : (a b : Reader R) (start end : Counts) (xs rows : List Entries) (n : ℕ) → HasReadRows rem layout a b start end xs → IsOverBy layout.format.config rem b
      → HasLeft rem layout a rows n → (xs ≡ rows) × (end.bad ≡ start.bad + n)
  whole_rows a b start end xs rows n read_so_far over has =
      let both = parts a b start end xs rows n read_so_far has in
      let none = none_left layout.format.config rem b (source_of rem b) both.rest over both.left in (
        sym (append-none xs) ∙ ap (λ rest. xs ++ good_rows layout.format layout.header rest) (sym none) ∙ both.all,
        omega (arith, both.bads, ap (bad_count layout.format layout.header) none),
      )
    where
      append-none : (ys : List Entries) → ys ++ [] ≡ ys
      append-none [] = refl
      append-none (y ∷ ys) = ap (λ zs. y ∷ zs) (append-none ys)

  pub rest_of_rows : (a b : Reader R) (start end : Counts) (xs ys : List Entries) (n : ℕ) → IsSome (source_of rem a) → HasReadRows rem layout a b start end xs
      → HasLeft rem layout b ys n → (m : ℕ) × HasLeft rem layout a (xs ++ ys) m × (start.bad + m ≡ end.bad + n)
  rest_of_rows a b start end xs ys n there read_so_far has =
      let bads = sum_by-append (bad_one layout) read_so_far.records has.records in (
        bad_count layout.format layout.header (read_so_far.records ++ has.records),
        record {
          records = read_so_far.records ++ has.records;
          left = read_then_left layout.format.config rem a b read_so_far.records has.records there read_so_far.read has.left;
          good = filter_map-append (good_row layout.format layout.header) read_so_far.records has.records ∙ ap₂ (λ p q. p ++ q) read_so_far.good has.good;
          others = refl;
        },
        omega (arith, read_so_far.bad, bads, has.others),
      )

  -- an open source gives the first of the rows that it still has
  pub gives_first : (old new : Source R) (r : Result (Option Entries) SourceFault) → old.layout ≡ layout → old.end ≡ None → new.layout ≡ layout
      → IfOk r (λ found. new.end ≡ end_after (is_some found))
      → IfOk r (HasGivenNext rem layout old.input new.input old.counts new.counts) → IfOk r (GivesFirst rem old new)
  gives_first old new (Err fault) same going layout_is goes given = tt
  gives_first old new (Ok None) same going layout_is goes given = λ rows bad still.
      let has : HasLeft rem layout old.input rows bad =
      subst (λ l. HasLeft rem l old.input rows bad) same
      (subst (λ end. MatchOption end (HasLeft rem old.layout old.input rows bad) (λ e. (rows ≡ []) × (bad ≡ 0))) going still) in
      let all = whole_rows old.input given.at old.counts new.counts [] rows bad given.read_so_far given.over has in
      (sym all.0, all.1)
  gives_first old new (Ok (Some row)) same going layout_is goes given = λ rows bad still.
      let has : HasLeft rem layout old.input rows bad =
      subst (λ l. HasLeft rem l old.input rows bad) same
      (subst (λ end. MatchOption end (HasLeft rem old.layout old.input rows bad) (λ e. (rows ≡ []) × (bad ≡ 0))) going still) in
      let both = parts old.input new.input old.counts new.counts (row ∷ []) rows bad given has in
      let rest = good_rows layout.format layout.header both.rest in
      let left = bad_count layout.format layout.header both.rest in
      let still_left : HasLeft rem layout new.input rest left = record { records = both.rest; left = both.left; good = refl; others = refl } in (
        rest,
        left,
        sym both.all,
        subst (λ end. MatchOption end (HasLeft rem new.layout new.input rest left) (λ e. (rest ≡ []) × (left ≡ 0))) (sym goes)
            (subst (λ l. HasLeft rem l new.input rest left) (sym layout_is) still_left),
        both.bads,
      )

  -- the same of a call that fills a row
  pub fills_first : (old new : Source R) (r : Result Bool SourceFault) (row : Entries) → old.layout ≡ layout → old.end ≡ None → new.layout ≡ layout
      → IfOk r (λ found. new.end ≡ end_after found)
      → IfOk r (λ found. HasGivenNext rem layout old.input new.input old.counts new.counts (given found row)) → IfOk r (λ found. GivesFirst rem old new (given found row))
  fills_first old new (Err fault) row same going layout_is goes has = tt
  fills_first old new (Ok true) row same going layout_is goes has = gives_first old new (Ok (Some row)) same going layout_is goes has
  fills_first old new (Ok false) row same going layout_is goes has = gives_first old new (Ok None) same going layout_is goes has

  -- a call that gives several rows gives the first ones, and all of them where it meets the end
  pub gives_rows : (old new : Source R) (rows : List Entries) → old.layout ≡ layout → old.end ≡ None → new.layout ≡ layout
      → HasGivenRows rem layout old.input new.input old.counts new.counts rows new.end → GivesFirstRows rem old new rows
  gives_rows old new rows same going layout_is gave = λ all others still.
      let has : HasLeft rem layout old.input all others =
      subst (λ l. HasLeft rem l old.input all others) same
      (subst (λ end. MatchOption end (HasLeft rem old.layout old.input all others) (λ e. (all ≡ []) × (others ≡ 0))) going still) in
      by all others has new.end refl gave.ending
    where
      by : (all : List Entries) (others : ℕ) → HasLeft rem layout old.input all others → (end : SourceEnd) → new.end ≡ end
          → MatchOption end ((gave.at ≡ new.input) × (gave.middle ≡ new.counts)) (HasEndedBy rem layout gave.at gave.middle new.counts)
          → (rest : List Entries) × (all ≡ rows ++ rest) × (IsWithoutFault new → HasRest rem old new rest others)
      by all others has None is ending =
          let both = parts old.input gave.at old.counts gave.middle rows all others gave.read_so_far has in
          let rest = good_rows layout.format layout.header both.rest in
          let left = bad_count layout.format layout.header both.rest in
          let still_left : HasLeft rem layout gave.at rest left = record { records = both.rest; left = both.left; good = refl; others = refl } in (
            rest,
            sym both.all,
            λ fine. record {
              left = left;
              still = subst (λ end. MatchOption end (HasLeft rem new.layout new.input rest left) (λ e. (rest ≡ []) × (left ≡ 0))) (sym is)
                  (subst (λ l. HasLeft rem l new.input rest left) (sym layout_is) (subst (λ input. HasLeft rem layout input rest left) ending.0 still_left));
              count = subst (λ (counts : Counts). counts.bad + left ≡ old.counts.bad + others) ending.1 both.bads;
            },
          )
      by all others has (Some (Ok done)) is ending =
          let read_so_far = subst (λ xs. HasReadRows rem layout old.input ending.at old.counts new.counts xs) (append-nil rows)
          (taken_both rem layout old.input gave.at ending.at old.counts gave.middle new.counts rows [] gave.read_so_far ending.read_so_far) in
          let whole = whole_rows old.input ending.at old.counts new.counts rows all others read_so_far ending.over has in (
            [],
            sym (append-nil rows ∙ whole.0),
            λ fine. record {
              left = 0;
              still = subst (λ end. MatchOption end (HasLeft rem new.layout new.input [] 0) (λ e. (◌≡◌ {A = List Entries} [] []) × (◌≡◌ {A = ℕ} 0 0))) (sym is) (refl, refl);
              count = omega (arith, whole.1);
            },
          )
      by all others has (Some (Err fault)) is ending =
          let first = first_rows old.input gave.at old.counts gave.middle rows all others gave.read_so_far has in
          (first.0, sym first.1, λ fine. absurd (fine fault is))

  -- what is left after the header is all of a file
  pub left_of_file : (input : Reader R) (text : List ℕ) (rows : List Entries) (n : ℕ) → IsAfterHeader rem layout input text → HasLeft rem layout input rows n
      → (m : ℕ) × IsWholeFile layout text (counts_of 0 0) (counts_of m n) rows
  unfolding Reached
  left_of_file input text rows n stands has = by (next_record layout.format.config st.StartRecord [] [] text) refl stands
    where
      by : (o : Option (List (List ℕ) × State × List ℕ)) → next_record layout.format.config st.StartRecord [] [] text ≡ o
          → MatchOption o ⊥ (λ read. (layout.header ≡ read.0) × (reader_state input ≡ read.1) × (source_of rem input ≡ Some read.2))
          → (m : ℕ) × IsWholeFile layout text (counts_of 0 0) (counts_of m n) rows
      by None e h = absurd h
      by (Some read) e h =
          let left = subst (λ o. MatchOption o ⊥ (λ rest. AreRecords layout.format.config (reader_state input) rest has.records)) h.2 has.left in
          let there : AreRecords layout.format.config read.1 read.2 has.records = subst (λ s. AreRecords layout.format.config s read.2 has.records) h.1 left in (
            length has.records,
            record {
              records = has.records;
              all = (there.0, there.1, (read, e, h.0, there.2), there.3);
              good = sym has.good;
              read_so_far = omega arith;
              bad = omega (arith, has.others);
            },
          )
