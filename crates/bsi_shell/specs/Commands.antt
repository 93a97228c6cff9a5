-- Which command the first words name (`subcommand_of`); a word that names no other stands for a script.
use Rattle.std.specs.Prelude.{Bool, false, List, Some, None, String, codes, if◌then◌else◌, option_map, slice_get, string_bytes}
use Rattle.std.specs.Str.{bytes_eq}
use Rattle.std.specs.declared.alloc.Global.{Global}
use Rattle.bsi_shell.specs.declared.request.Subcommand.{Subcommand}
use Rattle.bsi_shell.specs.declared.request.Subcommand.TheVariants.{Script, Files, Check, Save, Schema, Add, Ask, Show, Help}
use Rattle.bsi_syntax.specs.Bytes.{KnownBytes}

-- The command that a word names. A word that names no other stands for a script.
abbrev pub named_by : KnownBytes → Subcommand
named_by None = Script
named_by (Some word) =
    if bytes_eq word (codes "files") then Files
    else (if bytes_eq word (codes "check") then Check
    else (if bytes_eq word (codes "save") then Save
    else (if bytes_eq word (codes "schema") then Schema
    else (if bytes_eq word (codes "add") then Add
    else (if bytes_eq word (codes "ask") then Ask
    else (if bytes_eq word (codes "show") then Show
    else (if bytes_eq word (codes "help") then Help
    else Script)))))))

-- The word is `--help`.
abbrev pub asks_help : KnownBytes → Bool
asks_help None = false
asks_help (Some word) = bytes_eq word (codes "--help")

-- The command that two words name: `--help` behind the word of a command asks for help, unless that is `script` or `files`.
abbrev pub named_by_both : Subcommand → KnownBytes → Subcommand
named_by_both Script second = Script
named_by_both Files second = Files
named_by_both command second = if asks_help second then Help else command

-- The command that the first words name.
abbrev pub subcommand_of : List (String Global) → Subcommand
subcommand_of words =
    named_by_both (named_by (option_map string_bytes (slice_get words 0))) (option_map string_bytes (slice_get words 1))
