-- What the commands over a saved index leave in the output, and what they report of a fault.
use Rattle.std.specs.Io.KnownBytes.{Appends, Keeps}
use Rattle.std.specs.Borrow.{Bor}
use Rattle.std.specs.List.{Contains}
use Rattle.std.specs.Prelude.{◌≡◌, ◌⊎◌, ℕ, zero, suc, List, [], IfSome, IsOk, MatchOption, Result, Err, length}
use Rattle.bsi_logical.specs.Logical.{Logical}
use Rattle.bsi_store.specs.Saving.{HasAdded, HasAddedBeside, HasSaved, HasSavedBeside, HasSavedKinds, HasSavedKindsBeside, IsAddFault, IsSaveFault, IsSaveKindsFault, LeavesReported}
use Rattle.bsi_store.specs.Surveyed.{HasDescribed, HasSurveyed}
use Rattle.bsi_shell.specs.declared.request.SaveRequest.{SaveRequest}
use Rattle.bsi_shell.specs.declared.row_options.SchemaRequest.{SchemaRequest}
use Rattle.bsi_store.specs.declared.add.AddPaths.{AddPaths}
use Rattle.bsi_store.specs.declared.save.SavePaths.{SavePaths}
use Rattle.bsi_answers.specs.declared.faults.FilesFault.TheVariants.{NoMemory, Write}
use Rattle.bsi_input.specs.BufferedOutput.{AppendsPrefix}
use Rattle.bsi_input.specs.declared.writing.WriteFault.{WriteFault}
use Rattle.bsi_shell.specs.FaultLines.{help_text, IsLineWritten, IsSomeTextWritten}
use Rattle.bsi_store.specs.Asked.{HasAsked, HasShown, LeavesAnswers, LeavesShown}
use Rattle.bsi_store.specs.Faults.{bad_records_line, store_fault_line, IsOfFile, NamesPath}
use Rattle.bsi_store.specs.declared.ask.AskPaths.{AskPaths}
use Rattle.bsi_store.specs.declared.fault.StoreFault.{StoreFault}
use Rattle.bsi_store.specs.declared.fault.StoreFault.TheVariants.{Run}
use Rattle.bsi_syntax.specs.Bytes.{Bytes, KnownBytes}

-- `Is` holds of what was written to the output, which was flushed.
pub record IsFlushed (Is : KnownBytes → KnownBytes → Type 0) (before after : KnownBytes) : Type 0 where
  pub middle : KnownBytes
  pub is : Is before middle
  pub flushed : Keeps middle after

-- What a command says of so many bad records: nothing of none.
abbrev pub bad_records_notice : ℕ → List ℕ
bad_records_notice zero = []
bad_records_notice (suc less) = bad_records_line (suc less)

-- A command gave the rows of row files to an index, and so many of their records are bad: `Is` holds of what was written to
-- the output, which was flushed, and the notice of the bad records was written to stderr or, if that failed, a prefix.
pub record HasGivenRows (Is : ℕ → KnownBytes → KnownBytes → Type 0) (before after : KnownBytes)
    (reported : Result (Unit {0}) WriteFault) (stderr_before stderr_after : KnownBytes) : Type 0 where
  pub bad : ℕ
  pub given : IsFlushed (Is bad) before after
  pub noticed : IsLineWritten reported stderr_before stderr_after (bad_records_notice bad)

-- So many records are bad, or so many others.
abbrev pub OfSome : (ℕ → KnownBytes → KnownBytes → Type 0) → KnownBytes → KnownBytes → Type 0
OfSome Is before after = (bad : ℕ) × Is bad before after

-- The rows of the row files were saved by a schema file.
abbrev pub HasSavedDeclared : {S : Type 0} → (S → KnownBytes) → (S → KnownBytes) → SavePaths → ℕ → KnownBytes → KnownBytes → Type 0
HasSavedDeclared rem put paths bad before after = HasSavedBeside rem put (length paths.rows.items) bad before after

-- The rows of the row files were saved by a schema of kinds.
abbrev pub HasSavedBy : {S : Type 0} → (S → KnownBytes) → (S → KnownBytes) → Logical → SavePaths → ℕ → KnownBytes → KnownBytes → Type 0
HasSavedBy rem put logical paths bad before after = HasSavedKindsBeside rem put logical (length paths.rows.items) bad before after

-- The rows of the row files were saved by a schema of kinds that was found in row files.
pub record HasSavedFound {S : Type 0} (rem put : S → KnownBytes) (paths : SavePaths) (bad : ℕ) (before after : KnownBytes) : Type 0 where
  -- The schema.
  pub logical : Logical
  -- Row files that were opened fit the schema.
  pub found : HasSurveyed rem (length paths.rows.items) logical
  -- The rows of row files were saved by it.
  pub saved : HasSavedBy rem put logical paths bad before after

-- The rows of the row files were saved: by a schema file, or by a schema that was found.
abbrev pub HasSavedRows : {S : Type 0} → (S → KnownBytes) → (S → KnownBytes) → SaveRequest → ℕ → KnownBytes → KnownBytes → Type 0
HasSavedRows rem put request bad before after =
    MatchOption request.schema (HasSavedFound rem put request.paths bad before after)
    (λ schema. HasSavedDeclared rem put request.paths bad before after)

-- The text of a schema that was found in row files was written to the output.
pub record HasDescribedRows {S : Type 0} (rem : S → KnownBytes) (request : SchemaRequest) (before after : KnownBytes) : Type 0 where
  pub text : Bytes
  pub described : HasDescribed rem (length request.rows.items) text
  pub written : Appends before after text

-- The rows of the row files were added to a saved index.
abbrev pub HasAddedRows : {S : Type 0} → (S → KnownBytes) → (S → KnownBytes) → AddPaths → ℕ → KnownBytes → KnownBytes → Type 0
HasAddedRows rem put paths bad before after = HasAddedBeside rem put paths.so_far (length paths.rows.items) bad before after

-- The questions of an opened file, or those of the input, were answered over a saved index.
abbrev pub HasAskedEither : {S : Type 0} → (S → KnownBytes) → KnownBytes → AskPaths → KnownBytes → KnownBytes → Type 0
HasAskedEither rem input paths before after =
    ((asked : _) × HasAsked rem paths.so_far (rem asked) before after) ⊎ HasAsked rem paths.so_far input before after

-- The command was done for some paths, and the output was flushed.
abbrev pub HasDone : {P : Type 0} → (P → KnownBytes → KnownBytes → Type 0) → KnownBytes → KnownBytes → Type 0
HasDone {P} Is before after = (paths : P) × IsFlushed (Is paths) before after

-- The command gave the rows of some paths to an index.
abbrev pub HasDoneRows : {P : Type 0} → (P → ℕ → KnownBytes → KnownBytes → Type 0) → KnownBytes → KnownBytes → Result (Unit {0}) WriteFault
    → KnownBytes → KnownBytes → Type 0
HasDoneRows {P} Is before after reported stderr_before stderr_after =
    (paths : P) × HasGivenRows (Is paths) before after reported stderr_before stderr_after

-- A run ended by this fault, or it ended well and the output could not be flushed. The line of the fault was written.
pub record EndedByFault {T : Type 0} (run : Result T StoreFault) (reported : Result (Unit {0}) WriteFault) (stderr_before stderr_after : KnownBytes) : Type 0 where
  pub fault : StoreFault
  pub is : (run ≡ Err fault) ⊎ (IsOk run × (fault ≡ Run Write))
  pub line : IsLineWritten reported stderr_before stderr_after (store_fault_line fault)

-- A command over a saved index failed.
pub record HasFailedStore (Leaves : StoreFault → KnownBytes → KnownBytes → Type 0) (Done : KnownBytes → KnownBytes → Type 0)
    (before after : KnownBytes) (reported : Result (Unit {0}) WriteFault) (stderr_before stderr_after : KnownBytes) : Type 0 where
  -- The fault of the command.
  pub fault : StoreFault
  -- The bytes of the output before the flush.
  pub middle : KnownBytes
  -- The output has what the fault leaves; or all was done, and the output could not be flushed.
  pub left : Leaves fault before middle ⊎ ((fault ≡ Run Write) × Done before middle)
  -- The flush left the bytes of the output unchanged.
  pub flushed : Keeps middle after
  -- The line of the fault was written to stderr or, if that failed, a prefix of the line.
  pub line : IsLineWritten reported stderr_before stderr_after (store_fault_line fault)

-- The command failed, or memory was refused before it began.
abbrev pub OrNoMemory : Type 0 → KnownBytes → KnownBytes → Result (Unit {0}) WriteFault → KnownBytes → KnownBytes → Type 0
OrNoMemory HasFailed before after reported stderr_before stderr_after = HasFailed ⊎ ((after ≡ before) × IsLineWritten reported stderr_before stderr_after (store_fault_line (Run NoMemory)))

-- What a fault of `bsi save` says about its paths and its files, and what it leaves in the output.
pub record LeavesSave {S : Type 0} (rem put : S → KnownBytes) (schema : Bor (List ℕ)) (paths : SavePaths) (fault : StoreFault) (before after : KnownBytes) : Type 0 where
  pub named : NamesPath (λ named. (named ≡ schema) ⊎ ((named ≡ paths.to) ⊎ Contains paths.rows.items named)) fault
  pub partial : LeavesReported (HasSaved rem put (length paths.rows.items)) (IsSaveFault rem paths.strict (length paths.rows.items)) fault before after

-- The same of a save by a schema of kinds.
pub record LeavesSaveBy {S : Type 0} (rem put : S → KnownBytes) (logical : Logical) (paths : SavePaths) (fault : StoreFault) (before after : KnownBytes) : Type 0 where
  pub named : NamesPath (λ named. (named ≡ paths.to) ⊎ Contains paths.rows.items named) fault
  pub partial : LeavesReported (HasSavedKinds rem put logical (length paths.rows.items)) (IsSaveKindsFault rem logical paths.strict (length paths.rows.items)) fault before after

-- What a fault of `bsi add` says and leaves.
pub record LeavesAdd {S : Type 0} (rem put : S → KnownBytes) (paths : AddPaths) (fault : StoreFault) (before after : KnownBytes) : Type 0 where
  pub named : NamesPath (λ named. (named ≡ paths.index) ⊎ Contains paths.rows.items named) fault
  pub partial : LeavesReported (HasAdded rem put paths.so_far (length paths.rows.items)) (IsAddFault rem paths.so_far paths.strict (length paths.rows.items)) fault before after

-- What a fault of `bsi ask` says and leaves, for the questions of an opened file or of the input.
pub record LeavesAsk {S : Type 0} (rem : S → KnownBytes) (input : KnownBytes) (paths : AskPaths) (fault : StoreFault) (before after : KnownBytes) : Type 0 where
  pub named : NamesPath (λ named. (named ≡ paths.index) ⊎ IfSome paths.asks (λ asks. named ≡ asks)) fault
  pub met : IsOfFile rem fault
  pub partial : (after ≡ before) ⊎ (((asked : S) × LeavesAnswers rem paths.so_far (rem asked) before after fault)
      ⊎ LeavesAnswers rem paths.so_far input before after fault)

-- What a fault of `bsi show` says and leaves.
pub record LeavesShow {S : Type 0} (rem : S → KnownBytes) (path : Bor (List ℕ)) (fault : StoreFault) (before after : KnownBytes) : Type 0 where
  pub named : NamesPath (λ named. named ≡ path) fault
  pub met : IsOfFile rem fault
  pub partial : LeavesShown rem fault before after

-- A save by a schema that is to be found failed: no schema was found, and nothing was written to the output; or a schema
-- was found, and rows could not be saved by it.
abbrev pub HasFailedFound : {S : Type 0} → (S → KnownBytes) → (S → KnownBytes) → SavePaths → KnownBytes → KnownBytes
    → Result (Unit {0}) WriteFault → KnownBytes → KnownBytes → Type 0
HasFailedFound rem put paths before after reported stderr_before stderr_after =
    ((after ≡ before) × IsSomeTextWritten reported stderr_before stderr_after)
    ⊎ ((logical : Logical) × HasFailedStore (LeavesSaveBy rem put logical paths) (OfSome (HasSavedBy rem put logical paths)) before after reported stderr_before stderr_after)

-- A save failed, by a schema file or by a schema that is to be found.
abbrev pub HasFailedSaveOf : {S : Type 0} → (S → KnownBytes) → (S → KnownBytes) → SaveRequest → KnownBytes → KnownBytes
    → Result (Unit {0}) WriteFault → KnownBytes → KnownBytes → Type 0
HasFailedSaveOf rem put request before after reported stderr_before stderr_after =
    MatchOption request.schema (HasFailedFound rem put request.paths before after reported stderr_before stderr_after)
    (λ schema. HasFailedStore (LeavesSave rem put schema request.paths) (OfSome (HasSavedDeclared rem put request.paths)) before after reported stderr_before stderr_after)

-- A write that failed has appended a prefix of a text.
pub record IsCutByWrite (text : Bytes) (fault : StoreFault) (before after : KnownBytes) : Type 0 where
  pub write : fault ≡ Run Write
  pub cut : AppendsPrefix before after text

-- What a fault of writing leaves of the text of a schema that was found.
pub record LeavesDescribed {S : Type 0} (rem : S → KnownBytes) (request : SchemaRequest) (fault : StoreFault) (before after : KnownBytes) : Type 0 where
  pub text : Bytes
  pub described : HasDescribed rem (length request.rows.items) text
  pub cut : IsCutByWrite text fault before after

-- No schema was found, and nothing was written to the output; or its text could not be written.
abbrev pub HasFailedSchemaOf : {S : Type 0} → (S → KnownBytes) → SchemaRequest → KnownBytes → KnownBytes → Result (Unit {0}) WriteFault → KnownBytes → KnownBytes → Type 0
HasFailedSchemaOf rem request before after reported stderr_before stderr_after =
    ((after ≡ before) × IsSomeTextWritten reported stderr_before stderr_after)
    ⊎ HasFailedStore (LeavesDescribed rem request) (HasDescribedRows rem request) before after reported stderr_before stderr_after

-- The command failed for some paths.
abbrev pub HasFailedSchema : {S : Type 0} → (S → KnownBytes) → KnownBytes → KnownBytes → Result (Unit {0}) WriteFault → KnownBytes → KnownBytes → Type 0
HasFailedSchema rem before after reported stderr_before stderr_after =
    OrNoMemory ((request : SchemaRequest) × HasFailedSchemaOf rem request before after reported stderr_before stderr_after) before after reported stderr_before stderr_after

abbrev pub HasFailedSave : {S : Type 0} → (S → KnownBytes) → (S → KnownBytes) → KnownBytes → KnownBytes → Result (Unit {0}) WriteFault → KnownBytes → KnownBytes → Type 0
HasFailedSave rem put before after reported stderr_before stderr_after =
    OrNoMemory ((request : SaveRequest) × HasFailedSaveOf rem put request before after reported stderr_before stderr_after) before after reported stderr_before stderr_after

abbrev pub HasFailedAdd : {S : Type 0} → (S → KnownBytes) → (S → KnownBytes) → KnownBytes → KnownBytes → Result (Unit {0}) WriteFault → KnownBytes → KnownBytes → Type 0
HasFailedAdd rem put before after reported stderr_before stderr_after =
    OrNoMemory ((paths : AddPaths) × HasFailedStore (LeavesAdd rem put paths) (OfSome (HasAddedRows rem put paths)) before after reported stderr_before stderr_after) before after reported stderr_before stderr_after

abbrev pub HasFailedAsk : {S : Type 0} → (S → KnownBytes) → KnownBytes → KnownBytes → KnownBytes → Result (Unit {0}) WriteFault → KnownBytes → KnownBytes → Type 0
HasFailedAsk rem input before after reported stderr_before stderr_after =
    OrNoMemory ((paths : AskPaths) × HasFailedStore (LeavesAsk rem input paths) (HasAskedEither rem input paths) before after reported stderr_before stderr_after) before after reported stderr_before stderr_after

abbrev pub HasFailedShow : {S : Type 0} → (S → KnownBytes) → KnownBytes → KnownBytes → Result (Unit {0}) WriteFault → KnownBytes → KnownBytes → Type 0
HasFailedShow rem before after reported stderr_before stderr_after =
    OrNoMemory ((path : Bor (List ℕ)) × HasFailedStore (LeavesShow rem path) (HasShown rem) before after reported stderr_before stderr_after) before after reported stderr_before stderr_after

-- The text of `bsi help` could not be written.
abbrev pub HasFailedHelp : KnownBytes → KnownBytes → Result (Unit {0}) WriteFault → KnownBytes → KnownBytes → Type 0
HasFailedHelp before after reported stderr_before stderr_after =
    OrNoMemory (HasFailedStore (IsCutByWrite help_text) (λ start end. Appends start end help_text) before after reported stderr_before stderr_after)
    before after reported stderr_before stderr_after
