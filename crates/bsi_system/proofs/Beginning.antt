-- A system as it is opened.
use Rattle.std.proofs.Common.{◌≡◌, ℕ, zero, suc, List, [], ◌∷◌, ◌++◌, All, length, map, refl, sym, ◌∙◌, subst, ap, Some}
use Rattle.std.specs.Prelude.{slice_get}
use Rattle.std.proofs.lemmas.List.{length-map}
use Rattle.std.proofs.lemmas.List.Elements.{All-cons, All-map, All-nil}
use Rattle.bsi_schema.specs.Columns.{Declared}
use Rattle.bsi_rows.specs.Rows.{Entries}
use Rattle.bsi_rows.specs.Table.{no_rows}
use Rattle.bsi_system.specs.Rings.{channels_of, new_feeder_state, new_feeders, new_reader, AreOpened, ChannelName, FeederState, IsWhole, RingReader}
use Rattle.bsi_snapshots.specs.Versions.{PublisherState}
use Rattle.bsi_system.specs.LoaderSteps.{loader_state, new_loader_state, no_progress, progress_at, progress_of, seen_of, FeederProgress, IsFeederOf, IsLoader, SystemName}

progress-new : (channels : List ChannelName) → progress_of (map new_reader channels) ≡ map (λ (channel : ChannelName). no_progress) channels
progress-new [] = refl
progress-new (channel ∷ channels) = ap (λ (ts : List FeederProgress). no_progress ∷ ts) (progress-new channels)

seen-new : (channels : List ChannelName) → seen_of (map new_reader channels) ≡ map (λ (channel : ChannelName). []) channels
seen-new [] = refl
seen-new (channel ∷ channels) = ap (λ (xs : List (List Entries)). [] ∷ xs) (seen-new channels)

progress_at-new : (channels : List ChannelName) (f : ℕ) → (progress_at (map (λ (channel : ChannelName). no_progress) channels) f).popped ≡ []
progress_at-new [] f = refl
progress_at-new (channel ∷ channels) zero = refl
progress_at-new (channel ∷ channels) (suc f) = progress_at-new channels f

module _ (schema : Declared) (capacities : List ℕ) (feeders : List FeederState) (readers : List RingReader) (opened : AreOpened schema capacities feeders readers) where
  progress_is : progress_of readers ≡ map (λ (channel : ChannelName). no_progress) (channels_of readers)
  progress_is = ap progress_of opened.readers_are ∙ progress-new (channels_of readers)

  seen_are : seen_of readers ≡ map (λ (channel : ChannelName). []) (channels_of readers)
  seen_are = ap seen_of opened.readers_are ∙ seen-new (channels_of readers)

  pub opened_alike : All (λ (channel : ChannelName). channel.schema ≡ schema) (channels_of readers)
  opened_alike = All-map (λ (channel : ChannelName). channel.schema ≡ schema) (λ (i : RingReader). i.channel) readers opened.alike

  module _ (w : PublisherState) (n limit : ℕ) (count : length capacities ≡ n) (is : w ≡ record { table = no_rows schema n limit; staged = [] }) where
    pub opened_loading : loader_state readers w ≡ new_loader_state (channels_of readers) schema limit
    opened_loading =
        ap (loader_state readers) is
        ∙ (ap (λ (ts : List FeederProgress). record { system = record { channels = channels_of readers; schema = schema; limit = limit }; progress = ts; seen = seen_of readers; published = []; staged = [] }) progress_is
        ∙ ap (λ (xs : List (List Entries)). record { system = record { channels = channels_of readers; schema = schema; limit = limit }; progress = map (λ (channel : ChannelName). no_progress) (channels_of readers); seen = xs; published = []; staged = [] }) seen_are)

    pub opened_loader : IsLoader readers w
    opened_loader = subst (IsLoader readers) (sym is) (record {
      alike = opened_alike;
      many = length-map readers (λ (i : RingReader). i.channel) ∙ (opened.many ∙ count);
      balanced = λ f. sym (ap (λ (ts : List FeederProgress). (progress_at ts f).popped) progress_is ∙ progress_at-new (channels_of readers) f);
      whole = subst (All IsWhole) (sym opened.readers_are) (All-map IsWhole new_reader (channels_of readers) (λ k d within. tt));
    })

-- each feeder that is made is one of the channels
abbrev IsAmong : List ChannelName → FeederState → Type 0
IsAmong channels f = slice_get channels f.number ≡ Some f.channel

own_from : (before channels : List ChannelName) (capacities : List ℕ) → All (IsAmong (before ++ channels)) (new_feeders (length before) channels capacities)
own_from before [] capacities = All-nil (IsAmong (before ++ []))
own_from before (channel ∷ channels) [] = All-nil (IsAmong (before ++ (channel ∷ channels)))
own_from before (channel ∷ channels) (capacity ∷ capacities) =
    All-cons (IsAmong (before ++ (channel ∷ channels))) (new_feeder_state (length before) channel capacity) (new_feeders (suc (length before)) channels capacities) (at before)
    (subst (λ (n : ℕ). All (IsAmong (before ++ (channel ∷ channels))) (new_feeders n channels capacities)) (long before)
    (subst (λ (ls : List ChannelName). All (IsAmong ls) (new_feeders (length (before ++ channel ∷ [])) channels capacities)) (assoc before) (own_from (before ++ channel ∷ []) channels capacities)))
  where
    at : (bs : List ChannelName) → slice_get (bs ++ (channel ∷ channels)) (length bs) ≡ Some channel
    at [] = refl
    at (b ∷ bs) = at bs

    long : (bs : List ChannelName) → length (bs ++ channel ∷ []) ≡ suc (length bs)
    long [] = refl
    long (b ∷ bs) = ap (λ (n : ℕ). suc n) (long bs)

    assoc : (bs : List ChannelName) → (bs ++ channel ∷ []) ++ channels ≡ bs ++ (channel ∷ channels)
    assoc [] = refl
    assoc (b ∷ bs) = ap (λ (ls : List ChannelName). b ∷ ls) (assoc bs)

pub own_feeders : (system : SystemName) (capacities : List ℕ) (feeders : List FeederState) → feeders ≡ new_feeders 0 system.channels capacities → All (λ (f : FeederState). IsFeederOf f system) feeders
own_feeders system capacities feeders are = subst (All (λ (f : FeederState). IsFeederOf f system)) (sym are) (own_from [] system.channels capacities)
