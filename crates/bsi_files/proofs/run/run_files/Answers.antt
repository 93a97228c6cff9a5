use Rattle.std.proofs.Common.{List, IfSome, map, rules, subst, sym}
use Rattle.std.specs.Prelude.{IfErr}
use Rattle.bsi_schema.specs.Columns.{Declared}
use Rattle.bsi_input.specs.RowFiles.{plain_format}
use Rattle.bsi_input.specs.SchemaTexts.{IsSchemaText}
use Rattle.bsi_answers.specs.RowFiles.{fed_counts}
use Rattle.bsi_files.specs.Prefixes.{HasLoadedPrefixes}
use Rattle.bsi_files.specs.RunFaults.{IsFaultOver, RowTextsAreValid}
use Rattle.bsi_answers.specs.Runs.{AreLines, HasLoaded, IsRun}
use Rattle.bsi_answers.specs.Writing.{WritesAll, WritesFirst}
use Rattle.bsi_answers.specs.declared.fed.Fed.{Fed}
use Rattle.bsi_answers.proofs.Asking.{all_follows, leaves_late, part_follows}
use Rattle.bsi_files.proofs.Failing.{declared_fault, late_fault_of}
use Rattle.bsi_files.proofs.Files.{run_of_loaded}
use Rattle.bsi_answers.proofs.Passing.{if_err, if_err_both, on_ok}
use Rattle.bsi_files.proofs.run.run_files.Goals as goal
use Rattle.bsi_syntax.specs.Bytes.{KnownBytes}

-- ---- faults

pub returns-in_err-loaded-clause-fault : goal.returns-in_err-loaded-clause-fault
returns-in_err-loaded-clause-fault g c =
    let schema = c.in_ok-schema.field-0.schema in
    let limit = c.in_ok-schema.field-0.limit in
    let met : IfErr c.from_residual-in_err-loaded.result (IsFaultOver g.G.Stopping.STOPS (plain_format schema) limit (map g.I.Read.remaining c.args.sources.items)) = search rules in
    if_err c.from_residual-in_err-loaded.result
    (λ fault is declared texts s i. declared_fault g.G.Stopping.STOPS declared texts schema limit
    (subst (λ (o : KnownBytes). IfSome o (λ bytes. IsSchemaText bytes schema limit)) s c.in_ok-schema.ensures.declared) fault (is texts i)) met

pub returns-clause-fault : goal.returns-clause-fault
returns-clause-fault g c =
    let schema = c.in_ok-schema.field-0.schema in
    let limit = c.in_ok-schema.field-0.limit in
    if_err c.answer_all.result
    (λ fault late declared texts s i.
    (let good : RowTextsAreValid declared texts = record {
      schema = schema;
      limit = limit;
      schema_is = subst (λ (o : KnownBytes). IfSome o (λ bytes. IsSchemaText bytes schema limit)) s c.in_ok-schema.ensures.declared;
      holds = c.in_ok-loaded.ensures.headers texts i;
    } in late_fault_of g.G.Stopping.STOPS declared texts fault late good)) c.answer_all.ensures.follows_output

-- ---- lines

pub returns-clause-lines : goal.returns-clause-lines
returns-clause-lines g c =
    let schema = c.in_ok-schema.field-0.schema in
    let limit = c.in_ok-schema.field-0.limit in
    let rows = c.in_ok-loaded.loaded.table.rows in
    let feds = c.deref.result.now in
    let before = g.W.Write.contents c.args.writer.now in
    let after = g.W.Write.contents c.answer_all.new.writer in
    on_ok c.answer_all.result
    (λ some never declared texts asked s i a.
    (let declares = subst (λ (o : KnownBytes). IfSome o (λ bytes. IsSchemaText bytes schema limit)) s c.in_ok-schema.ensures.declared in
    let loaded = subst (λ (xs : List Fed). HasLoaded (plain_format schema) limit texts rows (map fed_counts xs)) (sym c.deref.ensures.value) (c.in_ok-loaded.ensures.rows never texts i) in
    let written = subst (λ (o : KnownBytes). IfSome o (λ bytes. WritesAll (AreLines c.in_ok-loaded.loaded.table.schema rows (map fed_counts feds)) bytes before after)) a some in
    all_follows {Is = AreLines c.in_ok-loaded.loaded.table.schema rows (map fed_counts feds)}
    (λ records lines are. run_of_loaded schema limit declared texts rows (map fed_counts feds) declares loaded records lines
    (subst (λ (d : Declared). AreLines d rows (map fed_counts feds) records lines) c.in_ok-loaded.ensures.schema are))
    asked before after written))
    c.answer_all.ensures.ok

pub returns-clause-prefixes : goal.returns-clause-prefixes
returns-clause-prefixes g c =
    let schema = c.in_ok-schema.field-0.schema in
    let limit = c.in_ok-schema.field-0.limit in
    let rows = c.in_ok-loaded.loaded.table.rows in
    let feds = c.deref.result.now in
    let counts = map fed_counts feds in
    let before = g.W.Write.contents c.args.writer.now in
    let after = g.W.Write.contents c.answer_all.new.writer in
    on_ok c.answer_all.result
    (λ some declared texts asked s i a.
    (let declares = subst (λ (o : KnownBytes). IfSome o (λ bytes. IsSchemaText bytes schema limit)) s c.in_ok-schema.ensures.declared in
    let loaded = subst (λ (xs : List Fed). HasLoadedPrefixes (plain_format schema) limit texts rows (map fed_counts xs)) (sym c.deref.ensures.value) (c.in_ok-loaded.ensures.prefixes texts i) in
    let written = subst (λ (o : KnownBytes). IfSome o (λ bytes. WritesAll (AreLines c.in_ok-loaded.loaded.table.schema rows counts) bytes before after)) a some in
    all_follows {Is = AreLines c.in_ok-loaded.loaded.table.schema rows counts}
    (λ records lines are. record {
      schema = schema;
      limit = limit;
      rows = rows;
      counts = counts;
      schema_is = declares;
      loaded = loaded;
      lines_are = subst (λ (d : Declared). AreLines d rows counts records lines) c.in_ok-loaded.ensures.schema are;
    })
    asked before after written))
    c.answer_all.ensures.ok

pub returns-clause-prefix : goal.returns-clause-prefix
returns-clause-prefix g c =
    let schema = c.in_ok-schema.field-0.schema in
    let limit = c.in_ok-schema.field-0.limit in
    let rows = c.in_ok-loaded.loaded.table.rows in
    let feds = c.deref.result.now in
    let before = g.W.Write.contents c.args.writer.now in
    let after = g.W.Write.contents c.answer_all.new.writer in
    if_err_both c.answer_all.result
    (λ fault late some never declared texts asked s i a.
    (let declares = subst (λ (o : KnownBytes). IfSome o (λ bytes. IsSchemaText bytes schema limit)) s c.in_ok-schema.ensures.declared in
    let loaded = subst (λ (xs : List Fed). HasLoaded (plain_format schema) limit texts rows (map fed_counts xs)) (sym c.deref.ensures.value) (c.in_ok-loaded.ensures.rows never texts i) in
    let written = subst (λ (o : KnownBytes). IfSome o (λ bytes. WritesFirst (AreLines c.in_ok-loaded.loaded.table.schema rows (map fed_counts feds)) bytes fault before after)) a some in
    leaves_late (IsRun declared texts) asked fault before after late
    (part_follows {Is = AreLines c.in_ok-loaded.loaded.table.schema rows (map fed_counts feds)}
    (λ records lines are. run_of_loaded schema limit declared texts rows (map fed_counts feds) declares loaded records lines
    (subst (λ (d : Declared). AreLines d rows (map fed_counts feds) records lines) c.in_ok-loaded.ensures.schema are))
    asked fault before after written)))
    c.answer_all.ensures.follows_output c.answer_all.ensures.prefix
