-- The text of a schema that was found, written or cut.
use Rattle.std.proofs.Common.{Result, Ok, Err, length}
use Rattle.std.specs.Io.KnownBytes.{Appends}
use Rattle.std.specs.Prelude.{IfErr, OnOk}
use Rattle.bsi_shell.specs.StoreRuns.{HasDescribedRows, IsCutByWrite, LeavesDescribed}
use Rattle.bsi_shell.specs.declared.row_options.SchemaRequest.{SchemaRequest}
use Rattle.bsi_store.specs.Surveyed.{HasDescribed}
use Rattle.bsi_store.specs.declared.fault.StoreFault.{StoreFault}
use Rattle.bsi_syntax.specs.Bytes.{Bytes, KnownBytes}

module _ {S : Type 0} (rem : S → KnownBytes) (request : SchemaRequest) (text : Bytes) (described : HasDescribed rem (length request.rows.items) text) (before after : KnownBytes) where
  pub rows_described : (run : Result (Unit {0}) StoreFault) → OnOk run (Appends before after text) → OnOk run (HasDescribedRows rem request before after)
  rows_described (Ok done) written = record { text = text; described = described; written = written }
  rows_described (Err fault) written = tt

  pub cut_described : (run : Result (Unit {0}) StoreFault) → IfErr run (λ fault. IsCutByWrite text fault before after) → IfErr run (λ fault. LeavesDescribed rem request fault before after)
  cut_described (Ok done) cut = tt
  cut_described (Err fault) cut = record { text = text; described = described; cut = cut }
