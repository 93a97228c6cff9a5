use Rattle.std.proofs.Common.{◌≡◌, ℕ, List, ap, inr, length, subst, ◌∙◌}
use Rattle.bsi_answers.proofs.Passing.{if_err, if_ok}
use Rattle.bsi_logical.specs.TableSchemas.{format_of}
use Rattle.bsi_store.proofs.save.save_and_summarize.Goals as goal
use Rattle.bsi_store.specs.Saving.{HasSavedFiles, IsSaveFilesFault}

pub returns-clause-saved : goal.returns-clause-saved
returns-clause-saved g c =
    let rem = g.S.Read.remaining in
    let put = g.S.Write.contents in
    let schema = c.in_ok-declared.declared.schema in
    let limit = c.in_ok-declared.declared.limit in
    let kinds = c.in_ok-kinds.kinds.items in
    let rows = c.in_ok-rows.rows.items in
    let many : length rows ≡ length c.args.paths.now.rows.items = c.in_ok-rows.ensures.many ∙ ap length c.deref.ensures.value in
    if_ok c.save_files.result (λ summary reports before after written. record {
      schema_file = c.in_ok-schema.schema;
      schema = schema;
      limit = limit;
      declared = c.in_ok-declared.ensures.declared;
      kinds = kinds;
      says = c.in_ok-kinds.ensures.says;
      saved = subst (λ (n : ℕ). HasSavedFiles rem put (format_of schema) limit kinds n summary.bad before after) many
          (subst (λ (bytes : List ℕ). HasSavedFiles rem put (format_of schema) limit bytes (length rows) summary.bad before after) c.deref-2.ensures.value
          (reports before after written));
    }) c.save_files.ensures.saved

pub returns-clause-fault : goal.returns-clause-fault
returns-clause-fault g c =
    let rem = g.S.Read.remaining in
    let schema = c.in_ok-declared.declared.schema in
    let limit = c.in_ok-declared.declared.limit in
    let many : length c.in_ok-rows.rows.items ≡ length c.args.paths.now.rows.items = c.in_ok-rows.ensures.many ∙ ap length c.deref.ensures.value in
    if_err c.save_files.result (λ fault failed. inr (inr (inr (record {
      schema_file = c.in_ok-schema.schema;
      schema = schema;
      limit = limit;
      declared = c.in_ok-declared.ensures.declared;
      failed = subst (λ (n : ℕ). IsSaveFilesFault rem (format_of schema) limit c.args.paths.now.strict n fault) many failed;
    })))) c.save_files.ensures.fault
