-- Faults of runs that load row files.
use Rattle.std.proofs.Common.{◌≡◌, ℕ, ◌<◌, true, false, Bool, List, ap, inl, inr, length, map, refl, subst, sym, ◌∙◌}
use Rattle.std.specs.Borrow.{Bor}
use Rattle.std.specs.Prelude.{◌≢◌, ◌⊎◌}
use Rattle.bsi_answers.specs.Faults.{may_follow_output}
use Rattle.bsi_answers.specs.declared.faults.FilesFault.{FilesFault}
use Rattle.bsi_answers.specs.declared.faults.FilesFault.TheVariants.{NoMemory, TooManyFiles, Write}
use Rattle.bsi_files.specs.RunFaults.{IsFaultOver}
use Rattle.bsi_input.specs.Formats.{Format}
use Rattle.bsi_logical.specs.TableSchemas.{format_of}
use Rattle.bsi_logical.specs.declared.table_schema.TableSchema.{TableSchema}
use Rattle.bsi_rows.specs.Table.{Table}
use Rattle.bsi_store.specs.Asked.{IsSavedIn}
use Rattle.bsi_store.specs.Kinds.{SaysSchema}
use Rattle.bsi_store.specs.declared.fault.FileFault.TheVariants as file
use Rattle.bsi_store.specs.declared.fault.StoreFault.{StoreFault}
use Rattle.bsi_store.specs.declared.fault.StoreFault.TheVariants.{Unusable}
use Rattle.bsi_store.specs.Saving.{IsAddFault, IsNotAboutBytes, IsRowFilesFault, IsRunFaultOver}
use Rattle.bsi_syntax.specs.Bytes.{KnownBytes}

late_written : (fault : FilesFault) → (may_follow_output fault ≡ true → fault ≡ NoMemory) → fault ≢ Write
late_written fault late = λ same. let none : NoMemory ≡ Write = sym (late (ap may_follow_output same)) ∙ same in cc (none)

-- a fault that is met while row files are loaded
pub load_fault : (stops : Bool) (format : Format) (limit : ℕ) (files : List KnownBytes) (fault : FilesFault) → stops ≡ false → fault ≢ TooManyFiles
    → (may_follow_output fault ≡ true → fault ≡ NoMemory) → IsFaultOver stops format limit files fault → IsRowFilesFault format limit files fault
load_fault stops format limit files fault never few late met = record {
  few = few;
  met = subst (λ (b : Bool). IsFaultOver b format limit files fault) never met;
  unwritten = late_written fault late;
}

-- rows that were to be added were not loaded
pub not_loaded : {S : Type 0} (rem : S → KnownBytes) (so_far strict : Bool) (saved : Table) (opened : IsSavedIn rem so_far saved) (schema : TableSchema)
    (says : SaysSchema opened.kinds saved schema) (files : List S) (path : Bor (List ℕ)) (fault : StoreFault)
    → IsNotAboutBytes fault ⊎ (((saved.feeders < length files) × (fault ≡ Unusable path (file.TooManyFiles saved.feeders))) ⊎ IsRunFaultOver (format_of schema) saved.limit (map rem files) fault)
    → IsAddFault rem so_far strict (length files) fault
not_loaded rem so_far strict saved opened schema says files path fault (inl none) = inl (inl none)
not_loaded rem so_far strict saved opened schema says files path fault (inr (inl many)) = inr (inl (path, saved, opened, many.0, many.1))
not_loaded rem so_far strict saved opened schema says files path fault (inr (inr reported)) =
    inr (inr (inr (inl (record { saved = saved; opened = opened; schema = schema; says = says; files = files; many = refl; reported = reported }))))
