-- A refusal that is none of the header's fields.
use Rattle.std.proofs.Common.{◌≡◌, Result, Ok, Err, subst, sym}
use Rattle.std.specs.Prelude.{IfErr}
use Rattle.bsi_survey.specs.Made.{IsLateRefusal}
use Rattle.bsi_survey.specs.declared.schema_refusal.SchemaRefusal.{SchemaRefusal}
use Rattle.bsi_survey.specs.declared.schema_refusal.SchemaRefusal.TheVariants.{NoMemory}

pub late_memory : {T : Type 0} (r : Result T SchemaRefusal) → IfErr r (λ why. why ≡ NoMemory) → IfErr r IsLateRefusal
late_memory (Ok x) none = tt
late_memory (Err why) none = subst IsLateRefusal (sym none) tt

pub late_same : {T : Type 0} (r : Result T SchemaRefusal) (reported : SchemaRefusal) → IsLateRefusal reported → IfErr r (λ why. why ≡ reported) → IfErr r IsLateRefusal
late_same (Ok x) reported late same = tt
late_same (Err why) reported late same = subst IsLateRefusal (sym same) late
