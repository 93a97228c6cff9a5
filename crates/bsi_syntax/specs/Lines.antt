-- The lines that answer records, each with its line feed (`reply_line`).
use Rattle.std.specs.Prelude.{◌≡◌, ℕ, List, [], ◌∷◌, ◌++◌, Some, None, Result, Ok, Err, OnOk, codes, decimal}
use Rattle.std.specs.Fmt.{signed_decimal}
use Rattle.std.specs.Io.{StartsWith}
use Rattle.bsi_rows.specs.declared.event.Reply.{Reply}
use Rattle.bsi_rows.specs.declared.event.Reply.TheVariants.{Submitted, Loaded, Closed, Answered}
use Rattle.bsi_rows.specs.declared.event.SubmitRefused.{SubmitRefused}
use Rattle.bsi_rows.specs.declared.event.SubmitRefused.TheVariants as submit
use Rattle.bsi_rows.specs.declared.event.LoadRefused.{LoadRefused}
use Rattle.bsi_rows.specs.declared.event.LoadRefused.TheVariants as load
use Rattle.bsi_rows.specs.declared.event.CloseRefused.{CloseRefused}
use Rattle.bsi_rows.specs.declared.event.CloseRefused.TheVariants as close
use Rattle.bsi_rows.specs.declared.errors.AskError.{AskError}
use Rattle.bsi_rows.specs.declared.errors.AskError.TheVariants as ask
use Rattle.bsi_rows.specs.declared.query.Answer.{Answer}
use Rattle.bsi_rows.specs.declared.query.Answer.TheVariants.{Count, Sum, Value, Rows}
use Rattle.bsi_rows.specs.Numbering.{origin_feeder, origin_number, Origin}

abbrev pub bad_line : List ℕ
bad_line = codes "bad\n"

abbrev pub done_line : List ℕ
done_line = codes "ok\n"

abbrev pub no_memory_line : List ℕ
no_memory_line = codes "no memory\n"

-- The line of a feeder: its number, how many of its rows were accepted, and how many of its records were bad.
abbrev pub fed_line : ℕ → ℕ → ℕ → List ℕ
fed_line feeder accepted bad =
    codes "fed " ++ decimal feeder ++ codes " " ++ decimal accepted ++ codes " " ++ decimal bad ++ codes "\n"

abbrev pub submit_line : Result (Unit {0}) SubmitRefused → List ℕ
submit_line (Ok done) = codes "accepted\n"
submit_line (Err (submit.UnknownFeeder row)) = codes "no feeder\n"
submit_line (Err (submit.Closed row)) = codes "closed\n"
submit_line (Err (submit.Misfit row)) = codes "misfit\n"
submit_line (Err (submit.Full row)) = codes "full\n"

abbrev pub load_line : Result ℕ LoadRefused → List ℕ
load_line (Ok position) = codes "loaded " ++ decimal position ++ codes "\n"
load_line (Err load.UnknownFeeder) = codes "no feeder\n"
load_line (Err load.Ended) = codes "ended\n"
load_line (Err load.Empty) = codes "empty\n"
load_line (Err load.IndexFull) = codes "index full\n"
load_line (Err load.NoMemory) = no_memory_line

abbrev pub close_line : Result (Unit {0}) CloseRefused → List ℕ
close_line (Ok done) = done_line
close_line (Err close.UnknownFeeder) = codes "no feeder\n"
close_line (Err close.AlreadyClosed) = codes "closed\n"

-- Rows, each as its feeder and its number among the feeder's rows, with a space before it.
unfoldable pub rows_text : List Origin → List ℕ
rows_text [] = []
rows_text (row ∷ rows) = codes " " ++ decimal (origin_feeder row) ++ codes ":" ++ decimal (origin_number row) ++ rows_text rows

abbrev pub answer_line : Answer → List ℕ
answer_line (Count count) = codes "count " ++ decimal count ++ codes "\n"
answer_line (Sum sum) = codes "sum " ++ signed_decimal sum ++ codes "\n"
answer_line (Value None) = codes "none\n"
answer_line (Value (Some number)) = codes "value " ++ signed_decimal number ++ codes "\n"
answer_line (Rows listed) = codes "rows" ++ rows_text listed.items ++ codes "\n"

abbrev pub ask_line : Result Answer AskError → List ℕ
ask_line (Ok answer) = answer_line answer
ask_line (Err (ask.BadColumn c)) = bad_line
ask_line (Err ask.NoMemory) = no_memory_line

-- The line of a reply.
abbrev pub reply_line : Reply → List ℕ
reply_line (Submitted reply) = submit_line reply
reply_line (Loaded reply) = load_line reply
reply_line (Closed reply) = close_line reply
reply_line (Answered reply) = ask_line reply

-- A line was appended. If memory was refused, the old text is still a prefix.
pub record IsAppended {E : Type 0} (old new line : List ℕ) (result : Result (Unit {0}) E) : Type 0 where
  pub ok : OnOk result (new ≡ old ++ line)
  pub begins : StartsWith new old
