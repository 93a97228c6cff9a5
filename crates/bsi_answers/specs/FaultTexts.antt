-- What is printed of a fault of a run over files.
use Rattle.std.specs.Prelude.{ℕ, List, ◌++◌, codes, decimal}
use Rattle.bsi_answers.specs.declared.faults.FilesFault.{FilesFault}
use Rattle.bsi_answers.specs.declared.faults.FilesFault.TheVariants.{BadSchema, IndexFull, NoColumns, NoMemory, NotClosed, Read, Readers, Source, TooLong, TooManyFiles, Write}
use Rattle.bsi_answers.specs.declared.faults.Which.{Which}
use Rattle.bsi_answers.specs.declared.faults.Which.TheVariants.{AsksFile, SchemaFile}
use Rattle.bsi_input.specs.FaultTexts.{source_fault_text}

-- The most bytes of the text of a fault.
abbrev pub max_fault_text : ℕ
max_fault_text = 44

abbrev pub which_text : Which → List ℕ
which_text SchemaFile = codes "schema"
which_text AsksFile = codes "asks"

-- The text of a fault.
abbrev pub fault_text : FilesFault → List ℕ
fault_text TooManyFiles = codes "bsi: more than 64 files"
fault_text (Read which) = codes "bsi: " ++ which_text which ++ codes ": read failed"
fault_text (TooLong which) = codes "bsi: " ++ which_text which ++ codes ": input too long"
fault_text (BadSchema number) = codes "bsi: schema: bad record " ++ decimal number
fault_text NoColumns = codes "bsi: schema: no columns"
fault_text (Source file fault) = codes "bsi: file " ++ decimal file ++ codes ": " ++ source_fault_text fault
fault_text IndexFull = codes "bsi: index full"
fault_text (NotClosed file) = codes "bsi: file " ++ decimal file ++ codes ": " ++ codes "not closed"
fault_text Readers = codes "bsi: no reader"
fault_text NoMemory = codes "bsi: no memory"
fault_text Write = codes "bsi: write failed"
