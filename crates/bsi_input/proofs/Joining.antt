-- What a row source takes call after call, and of a whole file.
use Rattle.std.proofs.Common.{◌≡◌, ℕ, List, [], ◌∷◌, ◌++◌, Option, Some, None, IfSome, MatchOption, refl, sym, ap₂, subst, ◌∙◌, arith}
use Rattle.std.proofs.lemmas.List.{length-append}
use Rattle.std.proofs.lemmas.List.Elements.{filter_map-append}
use Rattle.std.proofs.lemmas.List.Sums.{sum_by-append}
use Rattle.csv.specs.Machine.{next_record}
use Rattle.csv.specs.Reading.{AreRecords, Reached, reader_state, source_of}
use Rattle.csv.specs.declared.parser.Config.{Config}
use Rattle.csv.specs.declared.parser.State.{State}
use Rattle.csv.specs.declared.parser.State.TheVariants as st
use Rattle.csv.specs.declared.reader.Reader.{Reader}
use Rattle.bsi_rows.specs.Rows.{Entries}
use Rattle.bsi_syntax.specs.Bytes.{KnownBytes}
use Rattle.bsi_rows.specs.Fields.{Field}
use Rattle.bsi_input.specs.Formats.{good_row}
use Rattle.bsi_input.specs.Sources.{Counts, HasReadBy, HasReadRows, IsAfterHeader, IsOverBy, IsWholeFile, Layout}
use Rattle.bsi_input.proofs.Taking.{bad_one}

-- records and then further ones
pub reach_on : (cfg : Config) (s s1 s2 : State) (xs ys zs : List ℕ) (first last : List (List Field))
    → Reached cfg s xs first s1 ys → Reached cfg s1 ys last s2 zs → Reached cfg s xs (first ++ last) s2 zs
unfolding Reached
reach_on cfg s s1 s2 xs ys zs [] last h g = rw (h.0, h.1) g
reach_on cfg s s1 s2 xs ys zs (r ∷ first) last h g = (h.0, h.1, h.2, reach_on cfg h.0.1 s1 s2 h.0.2 ys zs first last h.3 g)

module _ {R : Type 0} (config : Config) (rem : R → KnownBytes) (a b c : Reader R) where
  pub read_both : (first last : List (List Field)) → HasReadBy config rem a b first → HasReadBy config rem b c last → HasReadBy config rem a c (first ++ last)
  read_both first last = by (source_of rem a) (source_of rem b) (source_of rem c)
    where
      by : (o p q : KnownBytes)
          → IfSome o (λ xs. MatchOption p ⊥ (λ ys. Reached config (reader_state a) xs first (reader_state b) ys))
          → IfSome p (λ ys. MatchOption q ⊥ (λ zs. Reached config (reader_state b) ys last (reader_state c) zs))
          → IfSome o (λ xs. MatchOption q ⊥ (λ zs. Reached config (reader_state a) xs (first ++ last) (reader_state c) zs))
      by None p q h g = tt
      by (Some xs) None q h g = absurd h
      by (Some xs) (Some ys) None h g = absurd g
      by (Some xs) (Some ys) (Some zs) h g = reach_on config _ _ _ xs ys zs first last h g

module _ {R : Type 0} (rem : R → KnownBytes) (layout : Layout) (a b c : Reader R) where
  pub taken_both : (start middle end : Counts) (xs ys : List Entries) → HasReadRows rem layout a b start middle xs → HasReadRows rem layout b c middle end ys
      → HasReadRows rem layout a c start end (xs ++ ys)
  taken_both start middle end xs ys one two =
      let bads = sum_by-append (bad_one layout) one.records two.records in
      record {
        records = one.records ++ two.records;
        read = read_both layout.format.config rem a b c one.records two.records one.read two.read;
        good = filter_map-append (good_row layout.format layout.header) one.records two.records ∙ ap₂ (λ p q. p ++ q) one.good two.good;
        read_so_far = omega (arith, one.read_so_far, two.read_so_far, length-append {A = List Field} one.records two.records);
        bad = omega (arith, one.bad, two.bad, bads);
      }

module _ {R : Type 0} (rem : R → KnownBytes) (layout : Layout) (a b : Reader R) (text : List ℕ) where
  -- a file that was read from its header on to its end
  pub is_whole : (start end : Counts) (rows : List Entries) → IsAfterHeader rem layout a text → HasReadRows rem layout a b start end rows → IsOverBy layout.format.config rem b
      → IsWholeFile layout text start end rows
  unfolding Reached
  is_whole start end rows stands read_so_far over = by (next_record layout.format.config st.StartRecord [] [] text) refl stands
    where
      by : (o : Option (List (List ℕ) × State × List ℕ)) → next_record layout.format.config st.StartRecord [] [] text ≡ o
          → MatchOption o ⊥ (λ read. (layout.header ≡ read.0) × (reader_state a ≡ read.1) × (source_of rem a ≡ Some read.2))
          → IsWholeFile layout text start end rows
      by None e h = absurd h
      by (Some read) e h =
          let known = subst (λ o. IfSome o (λ xs. MatchOption (source_of rem b) ⊥ (λ ys. Reached layout.format.config (reader_state a) xs read_so_far.records (reader_state b) ys))) h.2 read_so_far.read in
          ends (source_of rem b) refl known
        where
          ends : (o : KnownBytes) → source_of rem b ≡ o
              → MatchOption o ⊥ (λ ys. Reached layout.format.config (reader_state a) read.2 read_so_far.records (reader_state b) ys) → IsWholeFile layout text start end rows
          ends None e2 g = absurd g
          ends (Some ys) e2 g = record {
            records = read_so_far.records;
            all = (reader_state b, ys, (read, e, h.0, subst (λ s. Reached layout.format.config s read.2 read_so_far.records (reader_state b) ys) h.1 g), subst (λ o. IfSome o (λ rest. next_record layout.format.config (reader_state b) [] [] rest ≡ None)) e2 over);
            good = sym read_so_far.good;
            read_so_far = read_so_far.read_so_far;
            bad = read_so_far.bad;
          }

-- a text that was read from its start to its end
pub read_whole : {R : Type 0} (config : Config) (rem : R → KnownBytes) (a b : Reader R) (text : List ℕ) (records : List (List Field)) → reader_state a ≡ st.StartRecord
    → source_of rem a ≡ Some text → HasReadBy config rem a b records → IsOverBy config rem b → AreRecords config st.StartRecord text records
read_whole config rem a b text records start known read over =
    by (source_of rem b) refl (subst (λ o. IfSome o (λ xs. MatchOption (source_of rem b) ⊥ (λ ys. Reached config (reader_state a) xs records (reader_state b) ys))) known read)
  where
    by : (o : KnownBytes) → source_of rem b ≡ o → MatchOption o ⊥ (λ ys. Reached config (reader_state a) text records (reader_state b) ys)
        → AreRecords config st.StartRecord text records
    by None is reached = absurd reached
    by (Some ys) is reached = (
      reader_state b,
      ys,
      subst (λ s. Reached config s text records (reader_state b) ys) start reached,
      subst (λ o. IfSome o (λ rest. next_record config (reader_state b) [] [] rest ≡ None)) is over,
    )
