-- The command that a request carries out.
use Rattle.std.specs.Prelude.{◌≡◌, ⊤}
use Rattle.bsi_shell.specs.declared.request.Request.{Request}
use Rattle.bsi_shell.specs.declared.request.Request.TheVariants as request
use Rattle.bsi_shell.specs.declared.request.Subcommand.{Subcommand}
use Rattle.bsi_shell.specs.declared.request.Subcommand.TheVariants.{Script, Files, Check, Save, Schema, Add, Ask, Show, Help}

-- The request is one of this command, if it carries out a command.
abbrev pub IsRequestOf : Subcommand → Request → Type 0
IsRequestOf command request.Script = command ≡ Script
IsRequestOf command (request.Files paths) = command ≡ Files
IsRequestOf command (request.Check paths) = command ≡ Check
IsRequestOf command (request.CheckIndex path) = command ≡ Check
IsRequestOf command (request.Save paths) = command ≡ Save
IsRequestOf command (request.Schema asked) = command ≡ Schema
IsRequestOf command (request.Add paths) = command ≡ Add
IsRequestOf command (request.Ask paths) = command ≡ Ask
IsRequestOf command (request.Show path) = command ≡ Show
IsRequestOf command request.Help = command ≡ Help
IsRequestOf command request.Wrong = ⊤
IsRequestOf command request.NoMemory = ⊤
