-- A text of kinds that is not read as a logical schema of these columns says none.
use Rattle.std.proofs.Common.{◌≡◌, ◌∷◌, List, [], inl, length, refl, rules}
use Rattle.std.specs.Bool.{◌==◌}
use Rattle.std.specs.Prelude.{ℕ, Option, Result, Err, None, Some, false}
use Rattle.bsi_schema.specs.Columns.{Declared}
use Rattle.bsi_logical.specs.Logical.{Logical}
use Rattle.bsi_logical.specs.LogicalTexts.{IsLogicalText, Reads}
use Rattle.bsi_logical.specs.declared.logical_text.LogicalFault.{LogicalFault}
use Rattle.bsi_logical.specs.declared.logical_text.LogicalFault.TheVariants as logical_fault
use Rattle.bsi_input.specs.declared.rows.SourceFault.TheVariants as source
use Rattle.bsi_ffi.specs.Kinds.{fault_refusal, AreBadKinds, IsKindsRefusal, SaysKinds}
use Rattle.bsi_syntax.specs.Bytes.{Bytes}

not_none : (text : Bytes) → false ≡ (length text == 0) → text ≡ [] → ⊥
not_none [] some none = absurd cc
not_none (b ∷ text) some none = absurd (search rules)

module _ (kinds : Bytes) (schema : Declared) (some : false ≡ (length kinds == 0)) where
  says_none : (read : Result Logical LogicalFault)
      → ((bytes : List ℕ) (said : Logical) → Some kinds ≡ Some bytes → IsLogicalText bytes said → Reads said read)
      → ((said : Logical) → Reads said read → said.schema ≡ schema → ⊥)
      → (said : Option Logical) → SaysKinds kinds schema said → ⊥
  says_none read reads other None says = not_none kinds some says
  says_none read reads other (Some said) says = other said (reads kinds said refl says.0) says.1

  -- a text that is read as no logical schema of the columns says nothing of them
  pub bad_kinds : (read : Result Logical LogicalFault)
      → ((bytes : List ℕ) (said : Logical) → Some kinds ≡ Some bytes → IsLogicalText bytes said → Reads said read)
      → ((said : Logical) → Reads said read → said.schema ≡ schema → ⊥)
      → AreBadKinds kinds schema
  bad_kinds read reads other = inl (says_none read reads other)

  -- one that is not read says nothing, or memory was refused
  pub refused : (fault : LogicalFault)
      → ((bytes : List ℕ) (said : Logical) → Some kinds ≡ Some bytes → IsLogicalText bytes said → Reads said (Err fault))
      → IsKindsRefusal kinds schema (fault_refusal fault)
  refused (logical_fault.Source source.NoMemory) reads = tt
  refused (logical_fault.Source source.Read) reads = tt
  refused (logical_fault.Source source.TooLong) reads = bad_kinds (Err (logical_fault.Source source.TooLong)) reads (λ said never same. never)
  refused (logical_fault.Source source.BadHeader) reads = bad_kinds (Err (logical_fault.Source source.BadHeader)) reads (λ said never same. never)
  refused (logical_fault.BadRecord number why) reads = bad_kinds (Err (logical_fault.BadRecord number why)) reads (λ said never same. never)
  refused logical_fault.NoColumns reads = bad_kinds (Err logical_fault.NoColumns) reads (λ said never same. never)
