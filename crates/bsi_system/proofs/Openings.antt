-- One ring more is opened.
use Rattle.std.proofs.Common.{◌≡◌, ℕ, suc, ◌+◌, length, map, List, [], ◌∷◌, ◌++◌, refl, sym, ◌∙◌, ap, arith, length-append}
use Rattle.std.proofs.lemmas.List.{length-map, map-append}
use Rattle.std.proofs.lemmas.List.Elements.{All-push, All-nil}
use Rattle.bsi_schema.specs.Columns.{Declared}
use Rattle.bsi_system.specs.Rings.{channels_of, new_feeder_state, new_feeders, new_reader, AreOpened, ChannelName, FeederState, RingReader}

pub channels_of-append : (is js : List RingReader) → channels_of (is ++ js) ≡ channels_of is ++ channels_of js
channels_of-append is js = map-append (λ (i : RingReader). i.channel) is js

-- the feeder of one channel more stands last, and its number is how many there were
pub new_feeders-push : (n : ℕ) (channels : List ChannelName) (capacities : List ℕ) (channel : ChannelName) (capacity : ℕ) → length channels ≡ length capacities
    → new_feeders n (channels ++ channel ∷ []) (capacities ++ capacity ∷ []) ≡ new_feeders n channels capacities ++ new_feeder_state (n + length capacities) channel capacity ∷ []
new_feeders-push n [] [] channel capacity long = ap (λ m. new_feeder_state m channel capacity ∷ []) (omega arith)
new_feeders-push n [] (c ∷ cs) channel capacity long = absurd (omega arith)
new_feeders-push n (l ∷ ls) [] channel capacity long = absurd (omega arith)
new_feeders-push n (l ∷ ls) (c ∷ cs) channel capacity long =
    ap (λ fs. new_feeder_state n l c ∷ fs) (new_feeders-push (suc n) ls cs channel capacity (omega arith)
    ∙ ap (λ m. new_feeders (suc n) ls cs ++ new_feeder_state m channel capacity ∷ []) (omega arith))

pub opened_more : (schema : Declared) (capacities : List ℕ) (feeders : List FeederState) (readers : List RingReader) (capacity : ℕ) (f : FeederState) (i : RingReader)
    → AreOpened schema capacities feeders readers → i ≡ new_reader i.channel → i.channel.schema ≡ schema → f ≡ new_feeder_state (length capacities) i.channel capacity
    → AreOpened schema (capacities ++ capacity ∷ []) (feeders ++ f ∷ []) (readers ++ i ∷ [])
opened_more schema capacities feeders readers capacity f i are new alike is =
    let channels = channels_of readers in
    let long : length channels ≡ length capacities = length-map readers (λ (j : RingReader). j.channel) ∙ are.many in
    record {
      many = omega (arith, length-append readers (i ∷ []), length-append capacities (capacity ∷ []), are.many);
      alike = All-push (λ (j : RingReader). j.channel.schema ≡ schema) readers i are.alike alike;
      readers_are = ap (λ (js : List RingReader). js ++ i ∷ []) are.readers_are ∙ (ap (λ (j : RingReader). map new_reader channels ++ j ∷ []) new
          ∙ (sym (map-append new_reader channels (i.channel ∷ [])) ∙ ap (map new_reader) (sym (channels_of-append readers (i ∷ [])))));
      feeders_are = ap (λ (gs : List FeederState). gs ++ f ∷ []) are.feeders_are ∙ (ap (λ (g : FeederState). new_feeders 0 channels capacities ++ g ∷ []) (is ∙ ap (λ m. new_feeder_state m i.channel capacity) (omega arith))
          ∙ (sym (new_feeders-push 0 channels capacities i.channel capacity long) ∙ ap (λ ls. new_feeders 0 ls (capacities ++ capacity ∷ [])) (sym (channels_of-append readers (i ∷ [])))));
    }
