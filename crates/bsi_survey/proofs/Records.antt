-- Records that a reader gives, one after another.
use Rattle.std.proofs.Common.{◌≡◌, ℕ, true, false, List, [], ◌∷◌, ◌++◌, Some, None, IfSome, MatchOption, option_map, refl, sym, subst, ◌∙◌}
use Rattle.csv.proofs.ReadFacts.{rows-end, rows-more}
use Rattle.csv.specs.Machine.{next_record}
use Rattle.csv.specs.Reading.{AreRecords, ReadRecord, Reached, reader_config, reader_state, source_of, strip_bom}
use Rattle.csv.specs.declared.parser.Config.{Config}
use Rattle.csv.specs.declared.parser.State.{State}
use Rattle.csv.specs.declared.parser.State.TheVariants as st
use Rattle.csv.specs.declared.reader.Reader.{Reader}
use Rattle.bsi_syntax.specs.Bytes.{KnownBytes}
use Rattle.bsi_rows.specs.Fields.{Field}
use Rattle.bsi_input.proofs.AllRecords.{records_behind}
use Rattle.bsi_input.specs.Formats.{config_of}
use Rattle.bsi_survey.specs.TextRecords.{AreLeft, AreTextRecords, HasRead}

-- no record was read
by_none : (cfg : Config) (o : KnownBytes) (s : State) → IfSome o (λ xs. MatchOption o ⊥ (λ rest. Reached cfg s xs [] s rest))
unfolding Reached
by_none cfg None s = tt
by_none cfg (Some xs) s = (refl, refl)

pub read_none : {R : Type 0} (rem : R → KnownBytes) (input : Reader R) → HasRead rem input input []
read_none rem input = by_none (reader_config input) (source_of rem input) (reader_state input)

module _ {R : Type 0} (rem : R → KnownBytes) (a b c : Reader R) (records : List (List Field)) (fields : List Field)
    (config : reader_config b ≡ reader_config a) (before : HasRead rem a b records) where
  -- one more record was read
  pub read_more : ReadRecord rem b c true fields → HasRead rem a c (records ++ fields ∷ [])
  read_more next = by (source_of rem a) (source_of rem b) refl before
    where
      by : (o p : KnownBytes) → source_of rem b ≡ p
          → IfSome o (λ xs. MatchOption p ⊥ (λ ys. Reached (reader_config a) (reader_state a) xs records (reader_state b) ys))
          → IfSome o (λ xs. MatchOption (source_of rem c) ⊥ (λ zs. Reached (reader_config a) (reader_state a) xs (records ++ fields ∷ []) (reader_state c) zs))
      by None p e h = tt
      by (Some xs) None e h = absurd h
      by (Some xs) (Some ys) e h =
          let more = rows-more rem b c fields (reader_config a) (reader_state a) xs ys records config e h next in
          subst (λ p. MatchOption p ⊥ (λ zs. Reached (reader_config a) (reader_state a) xs (records ++ fields ∷ []) (reader_state c) zs)) (sym more.1) more.2

  -- none was left
  pub read_all : ReadRecord rem b c false fields → AreLeft rem a records
  read_all next = by (source_of rem a) (source_of rem b) refl before
    where
      by : (o p : KnownBytes) → source_of rem b ≡ p
          → IfSome o (λ xs. MatchOption p ⊥ (λ ys. Reached (reader_config a) (reader_state a) xs records (reader_state b) ys))
          → IfSome o (λ xs. AreRecords (reader_config a) (reader_state a) xs records)
      by None p e h = tt
      by (Some xs) None e h = absurd h
      by (Some xs) (Some ys) e h = (reader_state b, ys, h, rows-end rem b c fields (reader_config a) ys config e next)

-- the records of a text, by a reader at its start
module _ {R : Type 0} (rem : R → KnownBytes) (a b : Reader R) (delimiter : ℕ) (header : List Field) (config : reader_config a ≡ config_of delimiter)
    (start : reader_state a ≡ st.StartRecord) where
  pub all_records : (known : KnownBytes) (records : List (List Field)) → source_of rem a ≡ option_map strip_bom known → ReadRecord rem a b true header → AreLeft rem b records
      → IfSome known (λ bytes. AreTextRecords delimiter bytes (header ∷ records))
  unfolding Reached
  all_records None records source next left = tt
  all_records (Some bytes) records source next left =
      let cfg = config_of delimiter in
      let first = rows-more rem a b header cfg st.StartRecord (strip_bom bytes) (strip_bom bytes) [] config source (sym start, refl) next in
      let rest : AreRecords (reader_config b) (reader_state b) first.0 records =
      subst (λ (o : KnownBytes). IfSome o (λ rest. AreRecords (reader_config b) (reader_state b) rest records)) first.1 left in
      let same : reader_config b ≡ cfg = next.2 ∙ config in
      records_behind cfg st.StartRecord (reader_state b) (strip_bom bytes) first.0 (header ∷ []) records first.2
      (subst (λ (c : Config). AreRecords c (reader_state b) first.0 records) same rest)

  pub no_record : (known : KnownBytes) → source_of rem a ≡ option_map strip_bom known → ReadRecord rem a b false header → IfSome known (λ bytes. AreTextRecords delimiter bytes [])
  unfolding Reached
  no_record None source next = tt
  no_record (Some bytes) source next =
      let none = rows-end rem a b header (config_of delimiter) (strip_bom bytes) config source next in
      (st.StartRecord, strip_bom bytes, (refl, refl), subst (λ (s : State). next_record (config_of delimiter) s [] [] (strip_bom bytes) ≡ None) start none)
