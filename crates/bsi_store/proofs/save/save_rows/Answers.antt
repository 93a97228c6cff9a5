use Rattle.std.proofs.Common.{◌≡◌, ℕ, List, inl, inr, length, refl, rules, subst, sym}
use Rattle.std.specs.Io.KnownBytes.{Appends}
use Rattle.std.specs.Prelude.{IfErr}
use Rattle.bsi_answers.proofs.Passing.{if_err}
use Rattle.bsi_answers.specs.declared.faults.FilesFault.TheVariants.{Write}
use Rattle.bsi_input.specs.BufferedOutput.{AppendsPrefix}
use Rattle.bsi_store.specs.Saving.{IsSaveFault}
use Rattle.bsi_store.specs.declared.fault.StoreFault.{StoreFault}
use Rattle.bsi_store.specs.declared.fault.StoreFault.TheVariants.{Run}
use Rattle.bsi_store.proofs.save.save_rows.Goals as goal

pub returns-clause-saved : goal.returns-clause-saved
returns-clause-saved g c =
    c.in_ok-summary.ensures.saved (g.O.Write.contents c.args.output.now) (g.O.Write.contents c.write_bytes.new.writer)
    (subst (λ (bytes : List ℕ). Appends (g.O.Write.contents c.args.output.now) (g.O.Write.contents c.write_bytes.new.writer) bytes) c.as_slice.ensures.value c.in_ok-write_bytes.ensures.ok)

-- all was saved, and the lines were cut
pub returns-in_err-write_bytes-clause-prefix : goal.returns-in_err-write_bytes-clause-prefix
returns-in_err-write_bytes-clause-prefix g c =
    let before = g.O.Write.contents c.args.output.now in
    let after = g.O.Write.contents c.write_bytes.new.writer in
    let text = c.in_ok-summary.summary.text.items in
    let cut : AppendsPrefix before after text = subst (λ (bytes : List ℕ). AppendsPrefix before after bytes) c.as_slice.ensures.value c.in_err-write_bytes.ensures.prefix in
    let met : IfErr c.from_residual-in_err-write_bytes.result (λ (fault : StoreFault). fault ≡ Run Write) = search rules in
    if_err c.from_residual-in_err-write_bytes.result (λ fault is. inr (is, text, (λ start end written. (c.in_ok-summary.summary.bad, c.in_ok-summary.ensures.saved start end written)), cut)) met

-- no rows were saved
pub returns-in_err-summary-clause-prefix : goal.returns-in_err-summary-clause-prefix
returns-in_err-summary-clause-prefix g c =
    let reported = c.in_err-summary.field-0.0 in
    let met : IfErr c.from_residual.result (λ (fault : StoreFault). fault ≡ reported) = search rules in
    if_err c.from_residual.result (λ fault is. inl (subst (IsSaveFault g.S.Read.remaining c.args.paths.now.strict (length c.args.paths.now.rows.items)) (sym is) c.in_err-summary.ensures.fault, refl)) met
