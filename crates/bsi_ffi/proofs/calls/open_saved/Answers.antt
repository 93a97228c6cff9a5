use Rattle.std.proofs.Common.{◌≡◌, None, rules}
use Rattle.bsi_ffi.specs.States.{opened_in}
use Rattle.bsi_ffi.proofs.FileBytes.{whole_file}
use Rattle.bsi_ffi.proofs.calls.open_saved.Goals as goal

-- all bytes keep the index that there is no memory for
pub returns-in_default-clause-ending : goal.returns-in_default-clause-ending
returns-in_default-clause-ending c =
    let closed : opened_in c.args.index.now.pointer.value ≡ None = search rules in
    (closed, whole_file c.args.bytes.now _ _ _ c.open_bytes.new.whole c.in_ok-loaded.ensures.loaded c.in_ok-loaded.ensures.whole)
