-- Row files that were not read to their end.
use Rattle.std.proofs.Common.{◌≡◌, ℕ, true, List, [], ◌∷◌, Some, None, IsSome, IfSome, Result, Ok, Err, option_map, refl, subst, sym}
use Rattle.std.specs.Prelude.{IfErr, IsErrAnd}
use Rattle.csv.specs.Machine.{next_record}
use Rattle.csv.specs.Reading.{ReadRecord, Reached, reader_config, reader_state, source_of, strip_bom}
use Rattle.csv.specs.declared.parser.Config.{Config}
use Rattle.csv.specs.declared.parser.State.{State}
use Rattle.csv.specs.declared.parser.State.TheVariants as st
use Rattle.csv.specs.declared.reader.Reader.{Reader}
use Rattle.bsi_syntax.specs.Bytes.{KnownBytes}
use Rattle.bsi_rows.specs.Fields.{Field}
use Rattle.bsi_input.specs.Formats.{Format}
use Rattle.bsi_input.proofs.FirstRecords.{first_join_by, HasReadFirstBy}
use Rattle.bsi_input.proofs.Taking.{one_read}
use Rattle.bsi_check.specs.Checks.{HasMoreRecords, IsTooLongRowFile}

-- no record of a text was read
none_read : (config : Config) (bytes : List ℕ) (state : State) (source : KnownBytes) → state ≡ st.StartRecord → source ≡ Some (strip_bom bytes)
    → HasReadFirstBy config bytes state source []
unfolding Reached
none_read config bytes state source start left = record { rest = strip_bom bytes; left = left; first = (sym start, refl) }

-- a header was read, and then too many records
pub long_file : {R : Type 0} (rem : R → KnownBytes) (format : Format) (header : List Field) (a b : Reader R) (known : KnownBytes)
    → format.is_header header ≡ true → reader_config a ≡ format.config → reader_state a ≡ st.StartRecord → source_of rem a ≡ option_map strip_bom known
    → ReadRecord rem a b true header → HasMoreRecords rem format b → IfSome known (IsTooLongRowFile format)
long_file rem format header a b None named plain start left next many = tt
long_file rem format header a b (Some text) named plain start left next many =
    let none = none_read format.config text (reader_state a) (source_of rem a) start left in
    let one = first_join_by format.config rem text a b [] (header ∷ []) none (one_read rem a b header plain next) in
    let all = first_join_by format.config rem text b many.at (header ∷ []) many.records one many.read in
    record {
      header = header;
      records = many.records;
      state = reader_state many.at;
      rest = all.rest;
      named = named;
      first = all.first;
      too_long = (
        many.many,
        subst (λ o. IfSome o (λ rest. IsSome (next_record format.config (reader_state many.at) [] [] rest))) all.left many.more,
      );
    }

-- a fault that is passed on
pub passed_on : {T E : Type 0} {P Q : E → Type 0} (r : Result T E) → ((e : E) → P e → Q e) → IsErrAnd r P → IfErr r Q
passed_on (Ok x) follows p = tt
passed_on (Err e) follows p = follows e p
