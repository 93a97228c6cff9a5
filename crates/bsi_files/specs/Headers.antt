-- Which row file has a header of a format (`HasHeader`), and what a fault at the headers says of the files.
use Rattle.std.specs.Prelude.{◌≡◌, ⊤, ℕ, ◌<◌, true, List, [], ◌∷◌, ◌++◌, All, IfSome, MatchOption, length, take}
use Rattle.csv.specs.Machine.{next_record}
use Rattle.csv.specs.Reading.{strip_bom}
use Rattle.csv.specs.declared.parser.State.TheVariants as st
use Rattle.bsi_input.specs.Formats.{Format}
use Rattle.bsi_input.specs.Sources.{HasNoHeader}
use Rattle.bsi_input.specs.declared.rows.SourceFault.TheVariants as source
use Rattle.bsi_answers.specs.declared.faults.FilesFault.{FilesFault}
use Rattle.bsi_answers.specs.declared.faults.FilesFault.TheVariants.{NoMemory, Source}
use Rattle.bsi_syntax.specs.Bytes.{KnownBytes}

-- The first record of the bytes is a header of the format.
abbrev pub HasHeader : Format → List ℕ → Type 0
HasHeader format bytes =
    MatchOption (next_record format.config st.StartRecord [] [] (strip_bom bytes)) ⊥
    (λ (header, _, _). format.is_header header ≡ true)

-- The first record is none, or there is no record.
abbrev pub LacksHeader : Format → List ℕ → Type 0
LacksHeader format bytes = HasNoHeader format (strip_bom bytes)

-- The file of this number is the first without a header, as far as the bytes of the files are known.
pub record IsFirstWithoutHeader (format : Format) (files : List KnownBytes) (number : ℕ) : Type 0 where
  -- The files of lower numbers.
  pub before : List KnownBytes
  -- The file of this number.
  pub file : KnownBytes
  -- The files of higher numbers.
  pub after : List KnownBytes
  -- The file is between those of lower and those of higher numbers.
  pub files_are : files ≡ before ++ file ∷ after
  -- The number of the file is how many files are before it.
  pub number_is : number ≡ length before
  -- Each earlier file whose bytes are known has a header of the format.
  pub others : All (λ other. IfSome other (HasHeader format)) before
  -- If the bytes of the file are known, the first record is no header of the format, or is missing.
  pub none : IfSome file (LacksHeader format)

-- There is a file of this number, and each file before it whose bytes are known has a header.
pub record EarlierFilesHaveHeaders (format : Format) (files : List KnownBytes) (number : ℕ) : Type 0 where
  pub names : number < length files
  pub headers : All (λ other. IfSome other (HasHeader format)) (take number files)

-- A fault at the header of the file of this number.
abbrev pub IsHeaderFault : Format → KnownBytes → ℕ → FilesFault → Type 0
IsHeaderFault format file number (Source f source.BadHeader) = (f ≡ number) × IfSome file (LacksHeader format)
IsHeaderFault format file number (Source f source.Read) = f ≡ number
IsHeaderFault format file number (Source f source.NoMemory) = f ≡ number
IsHeaderFault format file number fault = ⊥

-- A fault that reading the headers may end with. Each earlier file has its header.
abbrev pub IsHeadersFault : Format → List KnownBytes → FilesFault → Type 0
IsHeadersFault format files (Source f source.BadHeader) = IsFirstWithoutHeader format files f
IsHeadersFault format files (Source f source.Read) = EarlierFilesHaveHeaders format files f
IsHeadersFault format files (Source f source.NoMemory) = EarlierFilesHaveHeaders format files f
IsHeadersFault format files NoMemory = ⊤
IsHeadersFault format files fault = ⊥
