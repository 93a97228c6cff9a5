use Rattle.std.proofs.Common.{◌≡◌, None, Option, ℤ, List, [], ◌∷◌, get_or, length, arith}
use Rattle.std.specs.List.{AllZip}
use Rattle.bsi_ffi.specs.Pairs.{IsFlatEntry}
use Rattle.bsi_ffi.specs.declared.pairs.FlatEntry.{FlatEntry}
use Rattle.bsi_ffi.proofs.pairs.flat_entries.Goals as goal

-- each of two entries is written
both_written : (entries : List (Option ℤ)) (first second : FlatEntry) → length entries ≡ 2
    → IsFlatEntry (get_or entries 0 None) first → IsFlatEntry (get_or entries 1 None) second → AllZip IsFlatEntry entries (first ∷ second ∷ [])
both_written [] first second two one other = absurd (omega arith)
both_written (x ∷ []) first second two one other = absurd (omega arith)
both_written (x ∷ y ∷ []) first second two one other = (one, (other, tt))
both_written (x ∷ y ∷ z ∷ entries) first second two one other = absurd (omega arith)

pub returns : goal.returns
returns c = both_written c.args.entries c.flat_entry.result c.flat_entry-2.result (omega arith) c.flat_entry.ensures c.flat_entry-2.ensures
