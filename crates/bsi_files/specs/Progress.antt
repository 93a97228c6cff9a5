-- The progress of each feeder, as closings are settled and rows are popped; and what is reported of its end
-- (`IsFedOf`).
use Rattle.std.specs.Prelude.{◌≡◌, ⊤, All, ℕ, suc, ◌+◌, ◌<◌, true, List, [], ◌∷◌, None, Some, ◌≢◌, Bool, false, IfSome, is_some, length}
use Rattle.std.specs.List.{list_all}
use Rattle.bsi_rows.specs.Rows.{Entries}
use Rattle.bsi_system.specs.LoaderSteps.{progress_at, AlwaysHolds, FeederProgress, LoaderState, MayLoad}
use Rattle.bsi_files.specs.declared.feeding.FeedEnd.{FeedEnd}
use Rattle.bsi_answers.specs.declared.fed.Fed.{Fed}

-- All rows that the closing carried were popped.
abbrev pub all_popped : List Entries → FeederProgress
all_popped rows = record { popped = rows; carried = Some rows }

-- The progress of all feeders but f is unchanged.
abbrev pub OthersUnchanged : ℕ → List FeederProgress → List FeederProgress → Type 0
OthersUnchanged f old new = (k : ℕ) → k ≢ f → progress_at new k ≡ progress_at old k

-- Rows of feeder f alone may have been popped, and no closing was settled.
pub record PopsOnlyOf (f : ℕ) (old new : List FeederProgress) : Type 0 where
  pub others : OthersUnchanged f old new
  pub settled : (progress_at new f).carried ≡ (progress_at old f).carried

-- If feeder f is settled, all rows that its closing carried were popped.
abbrev pub IsDrained : ℕ → List FeederProgress → Type 0
IsDrained f progress = IfSome (progress_at progress f).carried (λ sent. (progress_at progress f).popped ≡ sent)

-- What is reported of how a feeder ended.
pub record IsFedOf (end : FeedEnd) (fed : Fed) : Type 0 where
  -- The reported number of accepted rows is that of the feeder.
  pub accepted : fed.accepted ≡ end.accepted
  -- The reported number of bad records is that of the feeder.
  pub bad : fed.bad ≡ end.bad
  -- The feeder is reported as stopped exactly if it was stopped.
  pub stopped : fed.stopped ≡ end.stopped
  -- The reported fault is that of the feeder, if any.
  pub fault : fed.fault ≡ end.fault
  -- The feeder is reported as closed exactly if it left a closing.
  pub closed : fed.closed ≡ is_some end.closing

-- The closing of feeder n, if it left one, was settled.
pub record IsClosingSettled (progress : List FeederProgress) (n : ℕ) (end : FeedEnd) (fed : Fed) : Type 0 where
  pub fed_is : IsFedOf end fed
  pub settled : IfSome end.closing (λ closing. (progress_at progress n).carried ≡ Some closing.rows)

abbrev pub AreClosingsSettled : List FeederProgress → ℕ → List FeedEnd → List Fed → Type 0
AreClosingsSettled progress n [] [] = ⊤
AreClosingsSettled progress n (end ∷ ends) (fed ∷ feds) = IsClosingSettled progress n end fed × AreClosingsSettled progress (suc n) ends feds
AreClosingsSettled progress n ends feds = ⊥

-- No closing was settled.
abbrev pub SettledUnchanged : List FeederProgress → List FeederProgress → Type 0
SettledUnchanged old new = (k : ℕ) → (progress_at new k).carried ≡ (progress_at old k).carried

-- Each feeder left a closing.
abbrev pub all_closed : List Fed → Bool
all_closed feds = list_all (λ fed. fed.closed) feds

-- The table is at its limit while feeder f still has rows.
pub record IsFullAt (f : ℕ) (s : LoaderState) : Type 0 where
  pub may : MayLoad s.progress f
  pub many : length s.published + length s.staged ≡ s.system.limit
  pub always : AlwaysHolds s

-- The table is at its limit while one of the first n feeders still has rows.
pub record IsFullWithRowsLeft (n : ℕ) (s : LoaderState) : Type 0 where
  pub feeder : ℕ
  pub within : feeder < n
  pub full : IsFullAt feeder s

-- All rows that feeder n sent were popped.
pub record IsLoaded (progress : List FeederProgress) (n : ℕ) (end : FeedEnd) (fed : Fed) : Type 0 where
  pub fed_is : IsFedOf end fed
  pub popped : IfSome end.closing (λ closing. progress_at progress n ≡ all_popped closing.rows)

abbrev pub AreLoaded : List FeederProgress → ℕ → List FeedEnd → List Fed → Type 0
AreLoaded progress n [] [] = ⊤
AreLoaded progress n (end ∷ ends) (fed ∷ feds) = IsLoaded progress n end fed × AreLoaded progress (suc n) ends feds
AreLoaded progress n ends feds = ⊥

-- No feeder was stopped.
abbrev pub NoneStopped : List Fed → Type 0
NoneStopped feds = All (λ fed. fed.stopped ≡ false) feds

-- The feeder ended well: no fault, closed, and (if no gate stops feeders) not stopped.
pub record EndedWell (stops : Bool) (fed : Fed) : Type 0 where
  pub fault : fed.fault ≡ None
  pub closed : fed.closed ≡ true
  pub none_stopped : stops ≡ false → fed.stopped ≡ false
