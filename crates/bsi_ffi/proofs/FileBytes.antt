-- What the bytes in memory keep, of which a reader reported what it had.
use Rattle.std.proofs.Common.{◌≡◌, inl, inr, ℕ, ◌≤◌, List, [], ◌++◌, Option, None, Some, length, take, refl, sym, ap, subst, ◌∙◌, arith, length-append}
use Rattle.std.specs.Prelude.{IfErr, Result, Ok, Err}
use Rattle.std.specs.Io.KnownBytes.{Consumes}
use Rattle.std.proofs.lemmas.List.{append-nil, take_at}
use Rattle.bsi_rows.specs.Table.{Table}
use Rattle.bsi_storage.specs.Faults.{EndsBy, IsFirstSegmentFault, IsOpened}
use Rattle.bsi_storage.specs.declared.fault.OpenFault.{OpenFault}
use Rattle.bsi_storage.specs.declared.fault.OpenFault.TheVariants.{CutShort, Damaged, NoMemory, NotAnIndex, OtherVersion, Read}
use Rattle.bsi_storage.specs.Saved.{IsFileOf}
use Rattle.bsi_ffi.specs.Calls.{file_refusal, BeginsWithFile, IsFileRefusal, SetsKinds}
use Rattle.bsi_ffi.specs.Kinds.{IsKindsRefusal}
use Rattle.bsi_ffi.specs.OpenIndex.{OpenIndex}
use Rattle.bsi_ffi.specs.declared.refusal.Refusal.{Refusal}
use Rattle.bsi_ffi.specs.declared.refusal.Refusal.TheVariants as refusal
use Rattle.bsi_syntax.specs.Bytes.{KnownBytes}

-- the bytes that a reader had are the first ones
first_bytes : (bytes : List ℕ) (after : KnownBytes) (first : List ℕ) → Consumes (Some bytes) after first → take (length first) bytes ≡ first
first_bytes bytes None first consumed = absurd consumed
first_bytes bytes (Some rest) first consumed = ap (take (length first)) consumed ∙ take_at first rest (length first) refl

first_short : (bytes : List ℕ) (middle : KnownBytes) (first : List ℕ) → Consumes (Some bytes) middle first → length first ≤ length bytes
first_short bytes None first consumed = absurd consumed
first_short bytes (Some rest) first consumed = omega (arith, ap (λ (bs : List ℕ). length bs) consumed, length-append first rest)

-- and all of them, where it ended behind them
all_bytes : (bytes : List ℕ) (t : Table) (kinds : List ℕ) (middle after : KnownBytes) (first : List ℕ) → Consumes (Some bytes) middle first → EndsBy t kinds middle after None → bytes ≡ first
all_bytes bytes t kinds None after first consumed only = absurd consumed
all_bytes bytes t kinds (Some rest) None first consumed only = absurd only.consumed
all_bytes bytes t kinds (Some rest) (Some none) first consumed only =
    consumed ∙ ap (λ (xs : List ℕ). first ++ xs) (only.consumed ∙ only.ended) ∙ append-nil first

module _ (bytes : List ℕ) (after : KnownBytes) (t : Table) (notes kinds : List ℕ) (size : ℕ) where
  -- where nothing stands behind what was opened, all bytes keep it
  pub all_are_file : IsOpened (Some bytes) after t notes kinds size None → IsFileOf bytes t notes kinds × (size ≡ length bytes)
  all_are_file opened =
      let same = all_bytes bytes t kinds opened.middle after opened.read.bytes opened.read.consumed opened.end in (
        subst (λ (bs : List ℕ). IsFileOf bs t notes kinds) (sym same) opened.read.file,
        opened.read.size_is ∙ ap (λ (bs : List ℕ). length bs) (sym same),
      )

  -- and in any case the first so many
  pub begins_with_file : (fault : Option OpenFault) → IsOpened (Some bytes) after t notes kinds size fault → BeginsWithFile bytes size
  begins_with_file fault opened =
      let same : take size bytes ≡ opened.read.bytes =
      ap (λ n. take n bytes) opened.read.size_is ∙ first_bytes bytes opened.middle opened.read.bytes opened.read.consumed in
      inr (
        omega (arith, opened.read.size_is, first_short bytes opened.middle opened.read.bytes opened.read.consumed),
        t,
        notes,
        kinds,
        subst (λ (bs : List ℕ). IsFileOf bs t notes kinds) (sym same) opened.read.file,
      )

  -- a fault behind them is the refusal's
  pub refused_behind : (fault : OpenFault) → IsOpened (Some bytes) after t notes kinds size (Some fault) → IsFileRefusal bytes size (file_refusal fault)
  refused_behind NotAnIndex opened = inr (after, t, notes, kinds, opened)
  refused_behind OtherVersion opened = inr (after, t, notes, kinds, opened)
  refused_behind CutShort opened = inr (after, t, notes, kinds, opened)
  refused_behind Damaged opened = inr (after, t, notes, kinds, opened)
  refused_behind Read opened = begins_with_file (Some Read) opened
  refused_behind NoMemory opened = begins_with_file (Some NoMemory) opened

-- where nothing stands behind it, all bytes are a file
pub whole_read : (bytes : List ℕ) (after : KnownBytes) (t : Table) (notes kinds : List ℕ) (size : ℕ) (met : Option OpenFault)
    → met ≡ None → IsOpened (Some bytes) after t notes kinds size met → IsFileOf bytes t notes kinds × (size ≡ length bytes)
whole_read bytes after t notes kinds size met is opened =
    all_are_file bytes after t notes kinds size (subst (λ (f : Option OpenFault). IsOpened (Some bytes) after t notes kinds size f) is opened)

-- and its text of kinds is refused, or memory was
pub refused_kinds : (bytes : List ℕ) (after : KnownBytes) (t : Table) (notes kinds : List ℕ) (size : ℕ) (met : Option OpenFault) (why : Refusal)
    → met ≡ None → IsOpened (Some bytes) after t notes kinds size met → IsKindsRefusal kinds t.schema why → IsFileRefusal bytes size why
refused_kinds bytes after t notes kinds size met refusal.BadKinds is opened bad =
    let all = whole_read bytes after t notes kinds size met is opened in
    (t, notes, kinds, all.0, bad, all.1)
refused_kinds bytes after t notes kinds size met refusal.NoMemory is opened bad = begins_with_file bytes after t notes kinds size met opened
refused_kinds bytes after t notes kinds size met refusal.Closed is opened bad = absurd bad
refused_kinds bytes after t notes kinds size met refusal.Open is opened bad = absurd bad
refused_kinds bytes after t notes kinds size met refusal.BadSchema is opened bad = absurd bad
refused_kinds bytes after t notes kinds size met refusal.NoColumns is opened bad = absurd bad
refused_kinds bytes after t notes kinds size met refusal.BadFeeder is opened bad = absurd bad
refused_kinds bytes after t notes kinds size met refusal.BadColumns is opened bad = absurd bad
refused_kinds bytes after t notes kinds size met refusal.BadRow is opened bad = absurd bad
refused_kinds bytes after t notes kinds size met refusal.IndexFull is opened bad = absurd bad
refused_kinds bytes after t notes kinds size met refusal.Shared is opened bad = absurd bad
refused_kinds bytes after t notes kinds size met refusal.BadQuery is opened bad = absurd bad
refused_kinds bytes after t notes kinds size met refusal.BufferTooSmall is opened bad = absurd bad
refused_kinds bytes after t notes kinds size met refusal.BadText is opened bad = absurd bad
refused_kinds bytes after t notes kinds size met refusal.LongNotes is opened bad = absurd bad
refused_kinds bytes after t notes kinds size met refusal.NotAnIndex is opened bad = absurd bad
refused_kinds bytes after t notes kinds size met refusal.OtherVersion is opened bad = absurd bad
refused_kinds bytes after t notes kinds size met refusal.CutShort is opened bad = absurd bad
refused_kinds bytes after t notes kinds size met refusal.Damaged is opened bad = absurd bad

-- as what the index that was read is refused for
pub refused_setting : {T : Type 0} (r : Result T Refusal) (bytes : List ℕ) (after : KnownBytes) (t : Table) (notes kinds : List ℕ) (size : ℕ) (met : Option OpenFault)
    (before other : OpenIndex) (why : Refusal) → IfErr r (λ w. w ≡ why) → met ≡ None → IsOpened (Some bytes) after t notes kinds size met → before.table ≡ t
    → SetsKinds before kinds other (Err why) → IfErr r (IsFileRefusal bytes size)
refused_setting (Ok x) bytes after t notes kinds size met before other why same none opened is sets = tt
refused_setting (Err w) bytes after t notes kinds size met before other why same none opened is sets =
    subst (λ (w : Refusal). IsFileRefusal bytes size w) (sym same)
    (refused_kinds bytes after t notes kinds size met why none opened (subst (λ (s : Table). IsKindsRefusal kinds s.schema why) is sets.0))

-- the first byte's fault is the refusal's
pub refused_first : (bytes : List ℕ) (after : KnownBytes) (fault : OpenFault) → IsFirstSegmentFault (Some bytes) after fault → IsFileRefusal bytes 0 (file_refusal fault)
refused_first bytes after NotAnIndex fault = inl (refl, (after, fault))
refused_first bytes after OtherVersion fault = inl (refl, (after, fault))
refused_first bytes after CutShort fault = inl (refl, (after, fault))
refused_first bytes after Damaged fault = inl (refl, (after, fault))
refused_first bytes after Read fault = inl refl
refused_first bytes after NoMemory fault = inl refl

-- the refusal of what was opened with a fault behind it
pub refused_as : (bytes : List ℕ) (after : KnownBytes) (t : Table) (notes kinds : List ℕ) (size : ℕ) (met : Option OpenFault) (fault : OpenFault) (why : Refusal)
    → met ≡ Some fault → why ≡ file_refusal fault → IsOpened (Some bytes) after t notes kinds size met → IsFileRefusal bytes size why
refused_as bytes after t notes kinds size met fault why is reported opened =
    subst (λ (w : Refusal). IsFileRefusal bytes size w) (sym reported)
    (refused_behind bytes after t notes kinds size fault (subst (λ (f : Option OpenFault). IsOpened (Some bytes) after t notes kinds size f) is opened))

-- and of refused memory
pub refused_memory : {T : Type 0} (r : Result T Refusal) (bytes : List ℕ) (size : ℕ) → BeginsWithFile bytes size → IfErr r (λ why. why ≡ refusal.NoMemory)
    → IfErr r (IsFileRefusal bytes size)
refused_memory (Ok x) bytes size first is = tt
refused_memory (Err why) bytes size first is = subst (λ (w : Refusal). IsFileRefusal bytes size w) (sym is) first

-- where all bytes keep an index, the first so many do
pub whole_file : (bytes : List ℕ) (t : Table) (notes kinds : List ℕ) (whole : ℕ) → IsFileOf bytes t notes kinds → whole ≡ length bytes → BeginsWithFile bytes whole
whole_file bytes t notes kinds whole file is =
    let all : take (length bytes) bytes ≡ bytes =
    ap (λ (xs : List ℕ). take (length bytes) xs) (sym (append-nil bytes)) ∙ take_at bytes [] (length bytes) refl in
    inr (omega (arith, is), t, notes, kinds, subst (λ (bs : List ℕ). IsFileOf bs t notes kinds) (sym (ap (λ n. take n bytes) is ∙ all)) file)
