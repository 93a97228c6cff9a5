-- The path that a fault of a file names.
use Rattle.std.proofs.Common.{◌≡◌, ℕ, List, inl, inr, refl, subst, sym}
use Rattle.std.specs.Borrow.{Bor}
use Rattle.bsi_storage.specs.declared.fault.OpenFault.{OpenFault}
use Rattle.bsi_storage.specs.declared.fault.OpenFault.TheVariants as opening
use Rattle.bsi_store.specs.Faults.{cut_off, unopened, IsFileFault, IsOfFile, NamesPath}
use Rattle.bsi_store.specs.declared.fault.StoreFault.{StoreFault}
use Rattle.bsi_store.specs.declared.fault.StoreFault.TheVariants.{BadRecords, CannotOpen, CannotWrite, Unusable, Run}
use Rattle.bsi_syntax.specs.Bytes.{KnownBytes}

abbrev pub Named : Bor (List ℕ) → StoreFault → Type 0
Named path fault = NamesPath (λ named. named ≡ path) fault

cut_named : (path : Bor (List ℕ)) (fault : OpenFault) (rows : ℕ) → Named path (cut_off path fault rows)
cut_named path opening.NotAnIndex rows = refl
cut_named path opening.OtherVersion rows = refl
cut_named path opening.CutShort rows = refl
cut_named path opening.Damaged rows = refl
cut_named path opening.Read rows = refl
cut_named path opening.NoMemory rows = tt

un_named : (path : Bor (List ℕ)) (fault : OpenFault) → Named path (unopened path fault)
un_named path opening.NotAnIndex = refl
un_named path opening.OtherVersion = refl
un_named path opening.CutShort = refl
un_named path opening.Damaged = refl
un_named path opening.Read = refl
un_named path opening.NoMemory = tt

pub file_named : (path : Bor (List ℕ)) (bytes : KnownBytes) (reported : StoreFault) → IsFileFault path bytes reported → Named path reported
file_named path bytes reported (inl (fault, after, is, reported_is)) = subst (Named path) (sym reported_is) (un_named path fault)
file_named path bytes reported (inr (inl (fault, after, t, notes, kinds, size, is, reported_is))) = subst (Named path) (sym reported_is) (cut_named path fault _)
file_named path bytes reported (inr (inr bad)) = subst (Named path) (sym bad.reported_is) (refl {a = path})

-- a fault names one of more paths
pub names_more : (P Q : Bor (List ℕ) → Type 0) (fault : StoreFault) → ((path : Bor (List ℕ)) → P path → Q path) → NamesPath P fault → NamesPath Q fault
names_more P Q (CannotOpen path) follows is = follows path is
names_more P Q (CannotWrite path why) follows is = follows path is
names_more P Q (Unusable path why) follows is = follows path is
names_more P Q (BadRecords bad) follows is = tt
names_more P Q (Run fault) follows is = tt

-- no fault of a file is one of bad records
cut_not_bad : (path : Bor (List ℕ)) (fault : OpenFault) (rows bad : ℕ) → BadRecords bad ≡ cut_off path fault rows → ⊥
cut_not_bad path opening.NotAnIndex rows bad same = cc same
cut_not_bad path opening.OtherVersion rows bad same = cc same
cut_not_bad path opening.CutShort rows bad same = cc same
cut_not_bad path opening.Damaged rows bad same = cc same
cut_not_bad path opening.Read rows bad same = cc same
cut_not_bad path opening.NoMemory rows bad same = cc same

un_not_bad : (path : Bor (List ℕ)) (fault : OpenFault) (bad : ℕ) → BadRecords bad ≡ unopened path fault → ⊥
un_not_bad path opening.NotAnIndex bad same = cc same
un_not_bad path opening.OtherVersion bad same = cc same
un_not_bad path opening.CutShort bad same = cc same
un_not_bad path opening.Damaged bad same = cc same
un_not_bad path opening.Read bad same = cc same
un_not_bad path opening.NoMemory bad same = cc same

file_not_bad : (path : Bor (List ℕ)) (bytes : KnownBytes) (bad : ℕ) → IsFileFault path bytes (BadRecords bad) → ⊥
file_not_bad path bytes bad (inl (fault, after, is, same)) = un_not_bad path fault bad same
file_not_bad path bytes bad (inr (inl (fault, after, t, notes, kinds, size, is, same))) = cut_not_bad path fault _ bad same
file_not_bad path bytes bad (inr (inr kinds)) = cc kinds.reported_is

-- and is that of the file
pub file_is : {S : Type 0} (rem : S → KnownBytes) (path : Bor (List ℕ)) (file : S) (reported : StoreFault) → IsFileFault path (rem file) reported → IsOfFile rem reported
file_is rem path file (CannotOpen named) is = tt
file_is rem path file (CannotWrite named why) is = tt
file_is rem path file (Unusable named why) is =
    (file, subst (λ p. IsFileFault p (rem file) (Unusable named why)) (sym (file_named path (rem file) (Unusable named why) is)) is)
file_is rem path file (BadRecords bad) is = file_not_bad path (rem file) bad is
file_is rem path file (Run fault) is = tt
