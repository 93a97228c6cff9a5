use Rattle.std.proofs.Common.{◌≡◌, ◌<◌, ℕ, List, ap, inl, inr, length, map, refl, rules, subst, sym, ◌∙◌}
use Rattle.std.specs.Io.KnownBytes.{Appends}
use Rattle.std.specs.Prelude.{IfErr}
use Rattle.bsi_answers.proofs.Passing.{if_err}
use Rattle.bsi_answers.specs.RowFiles.{fed_counts}
use Rattle.bsi_store.proofs.Failing.{load_fault}
use Rattle.bsi_store.proofs.save.save_files.Goals as goal
use Rattle.bsi_store.specs.Saving.{bad_total, IsSaveFilesFault}
use Rattle.bsi_store.specs.declared.fault.StoreFault.{StoreFault}
use Rattle.bsi_store.specs.declared.fault.StoreFault.TheVariants.{BadRecords, Run}
use Rattle.bsi_table.specs.Index.{table_of}

pub returns-clause-saved : goal.returns-clause-saved
returns-clause-saved g c = λ before after reported.
    let table = c.in_ok-loaded.loaded.table in
    record {
      table = table_of table;
      feeders_are = c.in_ok-loaded.ensures.feeders;
      saved = record {
        files = c.args.rows.items;
        many = refl;
        counts = map fed_counts c.in_ok-loaded.loaded.fed.items;
        schema_is = c.in_ok-loaded.ensures.schema;
        limit_is = c.in_ok-loaded.ensures.limit;
        loaded = c.in_ok-loaded.ensures.rows c.requires.never;
        old = c.in_ok-new.new.file;
        new = c.write_or_remove.new.new.file;
        valid = c.in_ok-write_or_remove.ensures.valid;
        appended = c.in_ok-write_or_remove.ensures.appended;
        lines = subst (λ (bytes : List ℕ). Appends before after bytes) c.in_ok-summary.ensures.text reported;
      };
      bad_is = c.in_ok-summary.ensures.bad;
    }

-- the rows were not loaded
pub returns-in_err-loaded-clause-fault : goal.returns-in_err-loaded-clause-fault
returns-in_err-loaded-clause-fault g c =
    let rem = g.S.Read.remaining in
    let run = c.in_err-loaded.field-0.0 in
    let format = g.F.RowFormat.format c.args.format.now in
    let files = map rem c.args.rows.items in
    let met : IfErr c.from_residual.result (λ (fault : StoreFault). fault ≡ Run run) = search rules in
    if_err c.from_residual.result
    (λ fault is. inr (inl (record {
      files = c.args.rows.items;
      many = refl;
      reported = (run, is, load_fault g.G.Stopping.STOPS format c.args.limit files run c.requires.never c.in_err-loaded.ensures.counted c.in_err-loaded.ensures.follows_output c.in_err-loaded.ensures.fault);
    }))) met

-- some records are bad
pub returns-in_err-refuse_bad-clause-fault : goal.returns-in_err-refuse_bad-clause-fault
returns-in_err-refuse_bad-clause-fault g c =
    let rem = g.S.Read.remaining in
    let format = g.F.RowFormat.format c.args.format.now in
    let reported = c.in_err-refuse_bad.field-0.0 in
    let refused = c.in_err-refuse_bad.ensures.refused in
    let bad_is : c.in_ok-summary.summary.bad ≡ bad_total (map fed_counts c.in_ok-loaded.loaded.fed.items) = c.in_ok-summary.ensures.bad in
    let Is : StoreFault → Type 0 = IsSaveFilesFault rem format c.args.limit c.args.strict (length c.args.rows.items) in
    let failed : Is reported = inr (inr (
      refused.0,
      record {
        files = c.args.rows.items;
        many = refl;
        rows = c.in_ok-loaded.loaded.table.rows;
        counts = map fed_counts c.in_ok-loaded.loaded.fed.items;
        loaded = c.in_ok-loaded.ensures.rows c.requires.never;
        some = subst (λ (n : ℕ). 0 < n) bad_is refused.1;
        fault_is = refused.2 ∙ ap BadRecords bad_is;
      },
    )) in
    let met : IfErr c.from_residual-in_err-refuse_bad.result (λ (fault : StoreFault). fault ≡ reported) = search rules in
    if_err c.from_residual-in_err-refuse_bad.result (λ fault is. subst Is (sym is) failed) met
