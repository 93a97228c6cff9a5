-- The lines that say why a run over files ended early, or that the words are not a command.
use Rattle.std.specs.Io.KnownBytes.{Appends}
use Rattle.std.specs.Prelude.{ℕ, List, ◌++◌, Result, Ok, Err, codes}
use Rattle.bsi_answers.specs.FaultTexts.{fault_text}
use Rattle.bsi_shell.specs.declared.files.RunFault.{RunFault}
use Rattle.bsi_shell.specs.declared.files.RunFault.TheVariants.{CannotOpen, Run}
use Rattle.bsi_shell.specs.declared.request.Subcommand.{Subcommand}
use Rattle.bsi_shell.specs.declared.request.Subcommand.TheVariants.{Check, Save, Schema, Add, Ask, Show, Help}
use Rattle.bsi_input.specs.BufferedOutput.{AppendsPrefix}
use Rattle.bsi_input.specs.declared.writing.WriteFault.{WriteFault}
use Rattle.bsi_syntax.specs.Bytes.{KnownBytes}

-- The line of a fault.
abbrev pub fault_line : RunFault → List ℕ
fault_line (CannotOpen path) = codes "bsi: cannot open " ++ path.now ++ codes "\n"
fault_line (Run fault) = fault_text fault ++ codes "\n"

-- A line was written whole or, if the writer failed, a prefix of it.
abbrev pub IsLineWritten : Result (Unit {0}) WriteFault → KnownBytes → KnownBytes → List ℕ → Type 0
IsLineWritten (Ok done) before after line = Appends before after line
IsLineWritten (Err fault) before after line = AppendsPrefix before after line

-- Some text was written whole or, if the writer failed, a prefix of it.
abbrev pub IsSomeTextWritten : Result (Unit {0}) WriteFault → KnownBytes → KnownBytes → Type 0
IsSomeTextWritten reported before after = (text : List ℕ) × IsLineWritten reported before after text

-- The usage line of a command. Those of `script` and `files` are one.
abbrev pub usage_of : Subcommand → List ℕ
usage_of Check = codes "usage: bsi check --schema FILE [--asks FILE] CSV.. | bsi check FILE\n"
usage_of Save = codes "usage: bsi save [--force] [--strict] [--schema FILE | --delimiter C --decimal C --dates dmy|mdy --null WORD --columns TITLE,.. --round PLACES] --to FILE CSV..\n"
usage_of Schema = codes "usage: bsi schema [--delimiter C --decimal C --dates dmy|mdy --null WORD --columns TITLE,.. --round PLACES] CSV..\n"
usage_of Add = codes "usage: bsi add [--so-far] [--strict] FILE CSV..\n"
usage_of Ask = codes "usage: bsi ask [--so-far] FILE [--asks FILE]\n"
usage_of Show = codes "usage: bsi show FILE\n"
usage_of Help = codes "usage: bsi help\n"
usage_of command = codes "usage: bsi script | bsi files --schema FILE --asks FILE CSV..\n"

-- What `bsi help` writes.
abbrev pub help_text : List ℕ
help_text = codes "bsi keeps the rows of CSV files in bitmap indexes, and answers questions about them.\n\n  bsi save [--schema FILE] --to FILE CSV..        saves the rows of CSV files as an index in a file\n  bsi schema CSV..                                writes the schema that save would find\n  bsi add FILE CSV..                              adds rows to a saved index\n  bsi ask FILE [--asks FILE]                      answers the questions of a file or of standard input\n  bsi show FILE                                   describes a saved index\n  bsi check --schema FILE [--asks FILE] CSV..     says which records and questions are bad, and why\n  bsi check FILE                                  reads all of a saved index, and counts its rows\n  bsi files --schema FILE --asks FILE CSV..       answers questions about CSV files, saving no index\n  bsi script                                      carries out the events of standard input\n  bsi help                                        writes this\n\nA question is a line as count,all or by,station,median,price,day,>=,2026-01-31: see man bsi.\n"
