use Rattle.std.proofs.Common.{◌≡◌, IfSome, inl, refl, subst}
use Rattle.std.specs.List.{AllZip}
use Rattle.bsi_answers.specs.Writing.{WritesFirst}
use Rattle.bsi_answers.specs.declared.faults.FilesFault.TheVariants.{NoMemory}
use Rattle.bsi_pruning.specs.Named.{output_fault}
use Rattle.bsi_pruning.specs.declared.fault.NamedFault.{NamedFault}
use Rattle.bsi_pruning.specs.declared.fault.NamedFault.TheVariants.{Columns, Run}
use Rattle.bsi_rows.specs.Table.{Table}
use Rattle.bsi_storage.specs.ChosenFiles.{AreFileHeads}
use Rattle.bsi_store.specs.Asked.{HasAskedFirst}
use Rattle.bsi_store.specs.Kinds.{IsAnswer}
use Rattle.bsi_store.proofs.LeftAnswers.{columns_left}
use Rattle.bsi_store.proofs.ask.ask_named.Goals as goal
use Rattle.bsi_syntax.specs.Bytes.{Bytes}

pub returns-in-Ok-clause-asked : goal.returns-in-Ok-clause-asked
returns-in-Ok-clause-asked g c = record {
  file = c.args.file.now;
  schema = c.args.named.now.schema;
  named = record { says = c.requires.says };
  answered = λ t notes kinds keeps. c.in-Ok.ensures.ok t notes kinds (c.requires.heads t notes kinds keeps);
}

-- the run met a fault
pub returns-in-Err-Run-clause-prefix : goal.returns-in-Err-Run-clause-prefix
returns-in-Err-Run-clause-prefix g c =
    let known = g.S.Read.remaining c.args.file.now in
    let heads = c.args.named.now.heads.heads.items in
    let schema = c.args.named.now.schema in
    let asks = g.I.Read.remaining c.args.asks in
    let before = g.O.Write.contents c.args.output.now in
    let after = g.O.Write.contents c.answer_named_asks-answered.new.writer in
    let Left : NamedFault → Type 0 = λ fault. (t : Table) → (notes kinds : Bytes) → AreFileHeads known heads t notes kinds
    → IfSome asks (λ bytes. WritesFirst (AllZip (IsAnswer schema t)) bytes (output_fault fault) before after) in
    let told : Left c.in-Err-Run.field-0 = rw c.in-Err-Run.is at c.answer_named_asks-answered.ensures.prefix in
    let run : c.in-Err-Run.field-0 ≡ Run c.in-Err-Run.fault = rw c.in-Err-Run.is at c.in-Err-Run.field-0-is in
    let left = subst Left run told in (
      refl,
      inl (record {
        file = c.args.file.now;
        schema = schema;
        named = record { says = c.requires.says };
        answered = λ t notes kinds keeps. left t notes kinds (c.requires.heads t notes kinds keeps);
      }),
    )

-- or columns could not be read
pub returns-in-Err-Columns-clause-prefix : goal.returns-in-Err-Columns-clause-prefix
returns-in-Err-Columns-clause-prefix g c =
    let known = g.S.Read.remaining c.args.file.now in
    let heads = c.args.named.now.heads.heads.items in
    let schema = c.args.named.now.schema in
    let asks = g.I.Read.remaining c.args.asks in
    let before = g.O.Write.contents c.args.output.now in
    let after = g.O.Write.contents c.answer_named_asks-answered.new.writer in
    let Left : NamedFault → Type 0 = λ fault. (t : Table) → (notes kinds : Bytes) → AreFileHeads known heads t notes kinds
    → IfSome asks (λ bytes. WritesFirst (AllZip (IsAnswer schema t)) bytes (output_fault fault) before after) in
    let told : Left c.in-Err-Columns.field-0 = rw c.in-Err-Columns.is at c.answer_named_asks-answered.ensures.prefix in
    let unread : c.in-Err-Columns.field-0 ≡ Columns c.in-Err-Columns.met = rw c.in-Err-Columns.is at c.in-Err-Columns.field-0-is in
    let left = subst Left unread told in
    let first : HasAskedFirst g.S.Read.remaining asks NoMemory before after = record {
      file = c.args.file.now;
      schema = schema;
      named = record { says = c.requires.says };
      answered = λ t notes kinds keeps. left t notes kinds (c.requires.heads t notes kinds keeps);
    } in
    columns_left g.S.Read.remaining asks before after first c.find_fault.result
