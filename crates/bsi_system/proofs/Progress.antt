-- What a loader keeps to, from call to call.
use Rattle.std.proofs.Common.{◌≡◌, ◌≢◌, ℕ, zero, suc, ◌<◌, ◌≤◌, Bool, true, false, cond, List, [], ◌∷◌, ◌++◌, Option, None, Some, All, length, map, set, get_or, drop, take, refl, sym, ◌∙◌, subst, ap, ap₂, arith, append_assoc, length-append, inl, inr}
use Rattle.std.specs.Prelude.{nat_eq, slice_get, option_map, IfSome, IsTrue, OnErr, OnOk, Result, Ok, Err, ◌⊎◌}
use Rattle.std.proofs.Math.Seq.{drop-append_seam, take-append_seam}
use Rattle.std.proofs.lemmas.Bool.Decides.{nat_tests}
use Rattle.std.proofs.lemmas.List.{append-nil, get_or-set_other, get_or-set_same, length-map, length-set, map-set, set-get_or, set-set}
use Rattle.std.proofs.lemmas.List.Elements.{filter_map-append, All-cons, All-get_or, All-head, All-nil, All-set}
use Rattle.std.proofs.lemmas.Option.{get_or_from_slice_get, slice_get_cases, slice_get-map, slice_get_read, slice_get_within}
use mathlib.Core.List.{IsPrefix}
use Rattle.bsi_schema.specs.Columns.{fits, Declared}
use Rattle.bsi_rows.specs.RowBlocks.{entries_of, sourced_from}
use Rattle.bsi_table.specs.Index.{IndexedTable}
use Rattle.bsi_rows.specs.Rows.{Entries, SourcedRow}
use Rattle.bsi_rows.specs.declared.event.LoadRefused.TheVariants as load
use Rattle.bsi_rows.specs.Runs.{rows_from}
use Rattle.bsi_system.specs.declared.ring_reader.Front.{Front}
use Rattle.bsi_system.specs.declared.ring_reader.Front.TheVariants as front
use Rattle.bsi_system.specs.Rings.{channels_of, with_more_popped, with_seen, AllFit, ChannelName, IsWhole, RingReader, Sent}
use Rattle.bsi_snapshots.specs.Versions.{with_all_published, PublisherState}
use Rattle.bsi_system.specs.Readers.{AreFirstAt, AreUnpopped, HasFirst, IsBatchAt, IsFirstAt, IsFirstReply, LooksAtReader, PopsAt, SettlesAt, StagesFirst}
use Rattle.bsi_system.specs.LoaderSteps.{carried, loader_state, no_progress, popped, progress_at, progress_of, reader_progress, seen, seen_at, seen_of, settled_as, with_popped_rows, AlwaysHolds, Balanced, ChangesOnlySeen, FeederProgress, IsLoader, LoaderState, LoadsMany, LoadsOne, LoadsRows, MayLoad, WithinCarried}

-- ---- one place of a list

-- where the f-values are alike, the list of them stays
pub map-set_same : {X Y : Type 0} (f : X → Y) (xs : List X) (k : ℕ) (x y : X) → slice_get xs k ≡ Some x → f y ≡ f x → map f (set xs k y) ≡ map f xs
map-set_same f xs k x y at same =
    map-set f xs k y
    ∙ (ap (set (map f xs) k) (same ∙ sym (get_or_from_slice_get (map f xs) k (f x) (f x) (slice_get-map f xs k ∙ ap (option_map f) at)))
    ∙ set-get_or (map f xs) k (f x))

pub progress_at-of : (readers : List RingReader) (f : ℕ) (i : RingReader) → slice_get readers f ≡ Some i → progress_at (progress_of readers) f ≡ reader_progress i
progress_at-of readers f i at = get_or_from_slice_get (progress_of readers) f (reader_progress i) no_progress (slice_get-map reader_progress readers f ∙ ap (option_map reader_progress) at)

pub progress_at-past : (readers : List RingReader) (f : ℕ) → length readers ≤ f → progress_at (progress_of readers) f ≡ no_progress
progress_at-past [] f past = refl
progress_at-past (i ∷ readers) zero past = absurd (omega arith)
progress_at-past (i ∷ readers) (suc f) past = progress_at-past readers f (omega arith)

pub there : (readers : List RingReader) (f : ℕ) (i : RingReader) → slice_get readers f ≡ Some i → f < length (progress_of readers)
there readers f i at = omega (arith, slice_get_within readers f i at, length-map readers reader_progress)

-- what is seen of a list in which one channel was written
pub seen_set : (readers new : List RingReader) (f : ℕ) (i : RingReader) → f < length readers → new ≡ set readers f i → seen_of new ≡ set (seen_of readers) f i.seen
seen_set readers new f i within now = ap seen_of now ∙ map-set (λ (j : RingReader). j.seen) readers f i

seen_same : (readers new : List RingReader) (f : ℕ) (i : RingReader) → f < length readers → new ≡ set readers f i → seen_of new ≡ set (seen_of readers) f (seen_at (seen_of new) f)
seen_same readers new f i within now =
    let is = seen_set readers new f i within now in
    let there : f < length (seen_of readers) = omega (arith, within, length-map readers (λ (j : RingReader). j.seen)) in
    let read : seen_at (seen_of new) f ≡ i.seen = ap (λ (xs : List (List Entries)). seen_at xs f) is ∙ get_or-set_same (seen_of readers) f i.seen [] there in
    is ∙ ap (set (seen_of readers) f) (sym read)

-- rows stand first of those that are seen
pub first_seen : (readers : List RingReader) (f : ℕ) (rows : List Entries) → AreFirstAt readers f rows → length rows ≤ length (seen_at (seen_of readers) f)
first_seen readers f rows at =
    let read : seen_at (seen_of readers) f ≡ at.ring_reader.seen = get_or_from_slice_get (seen_of readers) f at.ring_reader.seen [] (slice_get-map (λ (j : RingReader). j.seen) readers f ∙ ap (option_map (λ (j : RingReader). j.seen)) at.at) in
    omega (arith, ap length (read ∙ at.first), length-append rows at.rest)

-- ---- looking at a channel

pub looks_same : (old : List RingReader) (f : ℕ) (first_row : Front) (new : List RingReader) → LooksAtReader old f first_row new → AreUnpopped old f new
looks_same old f first_row new looks = record {
  progress = ap progress_of looks.now ∙ map-set_same reader_progress old f looks.before (with_seen looks.before looks.seen) looks.at refl;
  channels = ap channels_of looks.now ∙ map-set_same (λ (i : RingReader). i.channel) old f looks.before (with_seen looks.before looks.seen) looks.at refl;
  seen = seen_same old new f (with_seen looks.before looks.seen) (slice_get_within old f looks.before looks.at) looks.now;
  whole = λ all. subst (All IsWhole) (sym looks.now) (All-set IsWhole old f (with_seen looks.before looks.seen) looks.whole all);
}

not_longer : (xs rest : List Entries) (row : Entries) → xs ++ (row ∷ rest) ≢ xs
not_longer xs rest row e = omega (arith, ap length e, length-append xs (row ∷ rest))

-- a channel of which a row is seen is not settled
unsettled : (i : RingReader) (row : Entries) (rest : List Entries) → IsWhole i → i.seen ≡ row ∷ rest → (o : Option (List Entries)) → i.carried ≡ o → o ≢ Some i.popped
unsettled i row rest whole seen None is e = cc e
unsettled i row rest whole seen (Some sent) is e =
    let all : i.popped ++ i.seen ≡ sent = subst (λ (t : Option (List Entries)). IfSome t (λ s. i.popped ++ i.seen ≡ s)) is whole in
    let same : sent ≡ i.popped = cc e in
    not_longer i.popped rest row (ap (λ xs. i.popped ++ xs) (sym seen) ∙ (all ∙ same))

module _ (old : List RingReader) (f : ℕ) (new : List RingReader) where
  pub may_load : LooksAtReader old f front.Row new → MayLoad (progress_of old) f
  may_load looks =
      let i = with_seen looks.before looks.seen in
      let is = progress_at-of old f looks.before looks.at in (
        there old f looks.before looks.at,
        λ settled. unsettled i looks.front_is.0 looks.front_is.1 looks.whole looks.front_is.2 i.carried refl (sym (ap (λ t. t.carried) is) ∙ (settled ∙ ap (λ (t : FeederProgress). Some t.popped) is)),
      )

  pub looks_ended : (full : Bool) → LooksAtReader old f front.Ended new → IsFirstReply (progress_of old) f full (Err load.Ended)
  looks_ended full looks =
      let is = progress_at-of old f looks.before looks.at in
      (there old f looks.before looks.at, ap (λ t. t.carried) is ∙ (looks.front_is ∙ sym (ap (λ (t : FeederProgress). Some t.popped) is)))

-- ---- the rows of a feeder

pub rows_from-append : (f : ℕ) (xs ys : List SourcedRow) → rows_from f (xs ++ ys) ≡ rows_from f xs ++ rows_from f ys
rows_from-append f xs ys = filter_map-append (λ (row : SourcedRow). cond (nat_eq row.0 f) (Some row.1) None) xs ys

rows_from-one : (f g : ℕ) (row : Entries) (b : Bool) → nat_eq f g ≡ b → rows_from g ((f, row) ∷ []) ≡ cond b (row ∷ []) []
rows_from-one f g row true is = rw is refl
rows_from-one f g row false is = rw is refl

-- of rows of one feeder
rows_from-fed : (f g : ℕ) (rows : List Entries) (b : Bool) → nat_eq f g ≡ b → rows_from g (sourced_from f rows) ≡ cond b rows []
rows_from-fed f g [] true is = refl
rows_from-fed f g [] false is = refl
rows_from-fed f g (row ∷ rows) true is =
    rows_from-append g ((f, row) ∷ []) (sourced_from f rows) ∙ ap₂ (λ (xs ys : List Entries). xs ++ ys) (rows_from-one f g row true is) (rows_from-fed f g rows true is)
rows_from-fed f g (row ∷ rows) false is =
    rows_from-append g ((f, row) ∷ []) (sourced_from f rows) ∙ ap₂ (λ (xs ys : List Entries). xs ++ ys) (rows_from-one f g row false is) (rows_from-fed f g rows false is)

-- ---- the loader

module _ (readers : List RingReader) (w : PublisherState) (is : IsLoader readers w) where
  -- what was popped is within what the closing carried
  within_carried : WithinCarried (loader_state readers w)
  within_carried f = by (slice_get_cases readers f).1
    where
      prefix_of : (i : RingReader) (o : Option (List Entries)) → i.carried ≡ o → IsWhole i → IfSome o (λ sent. IsPrefix i.popped sent)
      prefix_of i None carried' whole = tt
      prefix_of i (Some sent) carried' whole = (i.seen, subst (λ (t : Option (List Entries)). IfSome t (λ s. i.popped ++ i.seen ≡ s)) carried' whole)

      by : ((i : RingReader) × (f < length readers) × (slice_get readers f ≡ Some i) × (get_or readers f i ≡ i)) ⊎ ((length readers ≤ f) × (slice_get readers f ≡ None))
          → IfSome (carried (loader_state readers w) f) (λ sent. IsPrefix (popped (loader_state readers w) f) sent)
      by (inl at) =
          let whole : IsWhole at.0 = subst IsWhole at.3 (All-get_or IsWhole readers f at.0 at.1 is.whole) in
          subst (λ (t : FeederProgress). IfSome t.carried (λ sent. IsPrefix t.popped sent)) (sym (progress_at-of readers f at.0 at.2)) (prefix_of at.0 at.0.carried refl whole)
      by (inr past) = subst (λ (t : FeederProgress). IfSome t.carried (λ sent. IsPrefix t.popped sent)) (sym (progress_at-past readers f past.0)) tt

  -- all that always holds
  pub always_holds : AlwaysHolds (loader_state readers w)
  always_holds = record {
    balanced = is.balanced;
    within = within_carried;
    many = length-map readers reader_progress ∙ sym (length-map readers (λ (i : RingReader). i.channel));
  }

  -- the staged rows are published, or all stays
  pub published_loader : {E : Type 0} (new : PublisherState) (r : Result ℕ E) → OnOk r (new ≡ with_all_published w) → OnErr r (new ≡ w) → IsLoader readers new
  published_loader new (Ok len) ok err = subst (IsLoader readers) (sym ok) (record {
    balanced = λ f. ap (rows_from f) (append-nil (w.table.rows ++ w.staged)) ∙ is.balanced f;
    whole = is.whole;
    alike = is.alike;
    many = is.many;
  })
  published_loader new (Err e) ok err = subst (IsLoader readers) (sym err) is

  module _ (f : ℕ) (new : List RingReader) (same : AreUnpopped readers f new) where
    pub looks_loading : ChangesOnlySeen (loader_state readers w) f (loader_state new w)
    looks_loading =
        ap (λ (ts : List FeederProgress). record { system = record { channels = channels_of new; schema = w.table.schema; limit = w.table.limit }; progress = ts; seen = seen_of new; published = w.table.rows; staged = w.staged }) same.progress
        ∙ (ap (λ (ls : List ChannelName). record { system = record { channels = ls; schema = w.table.schema; limit = w.table.limit }; progress = progress_of readers; seen = seen_of new; published = w.table.rows; staged = w.staged }) same.channels
        ∙ ap (λ (xs : List (List Entries)). record { system = record { channels = channels_of readers; schema = w.table.schema; limit = w.table.limit }; progress = progress_of readers; seen = xs; published = w.table.rows; staged = w.staged }) same.seen)

    pub same_loader : IsLoader new w
    same_loader = record {
      balanced = subst Balanced (sym looks_loading) is.balanced;
      whole = same.whole is.whole;
      alike = subst (All (λ (channel : ChannelName). channel.schema ≡ w.table.schema)) (sym same.channels) is.alike;
      many = ap length same.channels ∙ is.many;
    }

  -- the rows that stand first fit the table, and their feeder is one of the table's
  module _ (f : ℕ) (rows : List Entries) (first : AreFirstAt readers f rows) where
    pub first_schema : first.ring_reader.channel.schema ≡ w.table.schema
    first_schema =
        let channel = first.ring_reader.channel in
        let at : slice_get (channels_of readers) f ≡ Some channel = slice_get-map (λ (i : RingReader). i.channel) readers f ∙ ap (option_map (λ (i : RingReader). i.channel)) first.at in
        let read = get_or_from_slice_get (channels_of readers) f channel channel at in
        let alike = All-get_or (λ (l : ChannelName). l.schema ≡ w.table.schema) (channels_of readers) f channel (slice_get_within (channels_of readers) f channel at) is.alike in
        ap (λ (l : ChannelName). l.schema) (sym read) ∙ alike

    pub first_fits : AllFit w.table.schema rows
    first_fits = subst (λ (s : Declared). AllFit s rows) first_schema first.fitting

    pub first_there : f < w.table.feeders
    first_there = omega (arith, slice_get_within readers f first.ring_reader first.at, length-map readers (λ (i : RingReader). i.channel), is.many)

-- ---- rows more are popped

-- a row that fits is seen first
pub front_at : (old : List RingReader) (f : ℕ) (new : List RingReader) → LooksAtReader old f front.Row new → HasFirst new f
front_at old f new looks =
    let now = with_seen looks.before looks.seen in
    let within = slice_get_within old f looks.before looks.at in
    let read : now ≡ get_or new f now = sym (ap (λ (xs : List RingReader). get_or xs f now) looks.now ∙ get_or-set_same old f now now within) in (
      looks.front_is.0,
      record {
        ring_reader = now;
        rest = looks.front_is.1;
        at = slice_get_read new (length new) f now refl (omega (arith, within, ap length looks.now, length-set old f now)) read;
        first = looks.front_is.2;
        fitting = All-cons (λ (r : Entries). IsTrue (fits now.channel.schema.columns r)) looks.front_is.0 [] looks.front_is.3 (All-nil (λ (r : Entries). IsTrue (fits now.channel.schema.columns r)));
      },
    )

module _ (readers : List RingReader) (f : ℕ) (first_row : HasFirst readers f) (i : RingReader) (read : i ≡ get_or readers f i) where
  first_reader : slice_get readers f ≡ Some i
  first_reader = slice_get_read readers (length readers) f i refl (slice_get_within readers f first_row.1.ring_reader first_row.1.at) read

  first_same : i ≡ first_row.1.ring_reader
  first_same = cc (first_reader, first_row.1.at)

  -- it is read
  pub first_read : (row : Entries) → IsPrefix (row ∷ []) i.seen → IsFirstAt readers f row
  first_read row first =
      let heads : row ∷ first.0 ≡ first_row.0 ∷ first_row.1.rest = first.1 ∙ (ap (λ (j : RingReader). j.seen) first_same ∙ first_row.1.first) in
      let row_is : row ≡ first_row.0 = cc heads in
      record {
        ring_reader = i;
        rest = first.0;
        at = first_reader;
        first = sym first.1;
        fitting = subst (λ (r : Entries). AllFit i.channel.schema (r ∷ [])) (sym row_is) (subst (λ (j : RingReader). AllFit j.channel.schema (first_row.0 ∷ [])) (sym first_same) first_row.1.fitting);
      }

  -- or a batch of rows is
  pub batch_read : (batch : IndexedTable) → IsPrefix (entries_of batch.rows) i.seen → 0 < length batch.rows → AllFit i.channel.schema (entries_of batch.rows) → IsBatchAt readers f batch
  batch_read batch first some fitting = record {
    first = record { ring_reader = i; rest = first.0; at = first_reader; first = sym first.1; fitting = fitting };
    some = some;
  }

-- after these rows more
abbrev loaded : LoaderState → ℕ → List Entries → LoaderState
loaded s f rows = record s { progress = set s.progress f (with_popped_rows (progress_at s.progress f) rows); staged = s.staged ++ sourced_from f rows }

loaded_balanced : (s : LoaderState) (f : ℕ) (rows : List Entries) → f < length s.progress → Balanced s → Balanced (loaded s f rows)
loaded_balanced s f rows within balanced g =
    let more = with_popped_rows (progress_at s.progress f) rows in
    let all : (b : Bool) → nat_eq f g ≡ b → rows_from g (s.published ++ (s.staged ++ sourced_from f rows)) ≡ popped s g ++ cond b rows [] =
    λ b is. ap (rows_from g) (sym (append_assoc s.published s.staged (sourced_from f rows)))
    ∙ (rows_from-append g (s.published ++ s.staged) (sourced_from f rows) ∙ (ap (λ xs. xs ++ rows_from g (sourced_from f rows)) (balanced g) ∙ ap (λ xs. popped s g ++ xs) (rows_from-fed f g rows b is))) in
    by all (nat_eq f g) refl
  where
    by : ((b : Bool) → nat_eq f g ≡ b → rows_from g (s.published ++ (s.staged ++ sourced_from f rows)) ≡ popped s g ++ cond b rows []) → (b : Bool) → nat_eq f g ≡ b
        → rows_from g (s.published ++ (s.staged ++ sourced_from f rows)) ≡ popped (loaded s f rows) g
    by all true is =
        let same : f ≡ g = grind (arith, nat_tests) in
        all true is ∙ subst (λ (h : ℕ). popped s h ++ rows ≡ popped (loaded s f rows) h) same
        (ap (λ (t : FeederProgress). t.popped) (sym (get_or-set_same s.progress f (with_popped_rows (progress_at s.progress f) rows) no_progress within)))
    by all false is =
        let other : g ≢ f = λ same. grind (arith, nat_tests) in
        all false is ∙ (append-nil (popped s g) ∙ ap (λ (t : FeederProgress). t.popped) (sym (get_or-set_other s.progress f g (with_popped_rows (progress_at s.progress f) rows) no_progress other)))

-- rows are loaded from what was looked at
looked_loads : (s t u : LoaderState) (f : ℕ) (rows : List Entries) → ChangesOnlySeen s f t → LoadsRows t f rows u → LoadsRows s f rows u
looked_loads s t u f rows looks loads =
    let from : LoadsRows (record s { seen = set s.seen f (seen t f) }) f rows u = subst (λ (v : LoaderState). LoadsRows v f rows u) looks loads in
    from
    ∙ ap (λ (xs : List (List Entries)). record s { progress = set s.progress f (with_popped_rows (progress_at s.progress f) rows); seen = xs; staged = s.staged ++ sourced_from f rows }) (set-set s.seen f (seen t f) (seen u f))

-- one row of many that are one
pub one_of_many : (s : LoaderState) (f : ℕ) (t : LoaderState) → LoadsMany s f 1 t → LoadsOne s f t
one_of_many s f t many = by many.rows many.count many.fitting many.loads
  where
    by : (rows : List Entries) → length rows ≡ 1 → AllFit s.system.schema rows → LoadsRows s f rows t → LoadsOne s f t
    by [] count fitting loads = absurd (omega arith)
    by (row ∷ []) count fitting loads = (row, All-head (λ (r : Entries). IsTrue (fits s.system.schema.columns r)) row [] fitting, loads)
    by (row ∷ (other ∷ rows)) count fitting loads = absurd (omega arith)

module _ (readers : List RingReader) (w : PublisherState) (f many : ℕ) (new : List RingReader) (next : PublisherState) (pops : PopsAt readers f many new) (holds : StagesFirst readers f w many next) where
  -- the rows that are popped are those that are staged
  after_is : with_more_popped pops.before many ≡ record pops.before { popped = pops.before.popped ++ holds.rows; seen = holds.first.rest }
  after_is =
      let same : holds.first.ring_reader ≡ pops.before = cc (holds.first.at, pops.at) in
      let seen_is : pops.before.seen ≡ holds.rows ++ holds.first.rest = ap (λ (i : RingReader). i.seen) (sym same) ∙ holds.first.first in
      ap₂ (λ (n : ℕ) (xs : List Entries). record pops.before { popped = pops.before.popped ++ take n xs; seen = drop n xs }) (sym holds.count) seen_is
      ∙ ap₂ (λ (xs ys : List Entries). record pops.before { popped = pops.before.popped ++ xs; seen = ys }) (take-append_seam holds.rows holds.first.rest) (drop-append_seam holds.rows holds.first.rest)

  pops_channels : channels_of new ≡ channels_of readers
  pops_channels =
      ap channels_of pops.now ∙ map-set_same (λ (i : RingReader). i.channel) readers f pops.before (with_more_popped pops.before many) pops.at refl

  pops_seen : seen_of new ≡ set (seen_of readers) f (seen_at (seen_of new) f)
  pops_seen = seen_same readers new f (with_more_popped pops.before many) (slice_get_within readers f pops.before pops.at) pops.now

  pops_loads : LoadsRows (loader_state readers w) f holds.rows (loader_state new next)
  pops_loads =
      let rows = holds.rows in
      let progress_is_of : reader_progress (with_more_popped pops.before many) ≡ with_popped_rows (progress_at (progress_of readers) f) rows =
      ap reader_progress after_is ∙ ap (λ (t : FeederProgress). with_popped_rows t rows) (sym (progress_at-of readers f pops.before pops.at)) in
      let progress : progress_of new ≡ set (progress_of readers) f (with_popped_rows (progress_at (progress_of readers) f) rows) =
      ap progress_of pops.now ∙ (map-set reader_progress readers f (with_more_popped pops.before many) ∙ ap (set (progress_of readers) f) progress_is_of) in
      ap (loader_state new) holds.staged
      ∙ (ap (λ (ts : List FeederProgress). record { system = record { channels = channels_of new; schema = w.table.schema; limit = w.table.limit }; progress = ts; seen = seen_of new; published = w.table.rows; staged = w.staged ++ sourced_from f rows }) progress
      ∙ (ap (λ (ls : List ChannelName). record { system = record { channels = ls; schema = w.table.schema; limit = w.table.limit }; progress = set (progress_of readers) f (with_popped_rows (progress_at (progress_of readers) f) rows); seen = seen_of new; published = w.table.rows; staged = w.staged ++ sourced_from f rows }) pops_channels
      ∙ ap (λ (xs : List (List Entries)). record { system = record { channels = channels_of readers; schema = w.table.schema; limit = w.table.limit }; progress = set (progress_of readers) f (with_popped_rows (progress_at (progress_of readers) f) rows); seen = xs; published = w.table.rows; staged = w.staged ++ sourced_from f rows }) pops_seen))

  pub pops_loader : IsLoader readers w → IsLoader new next
  pops_loader is = record {
    balanced = subst Balanced (sym pops_loads) (loaded_balanced (loader_state readers w) f holds.rows (there readers f pops.before pops.at) is.balanced);
    whole = subst (All IsWhole) (sym pops.now) (All-set IsWhole readers f (with_more_popped pops.before many) pops.whole is.whole);
    alike = subst (λ (v : PublisherState). All (λ (channel : ChannelName). channel.schema ≡ v.table.schema) (channels_of new)) (sym holds.staged)
        (subst (All (λ (channel : ChannelName). channel.schema ≡ w.table.schema)) (sym pops_channels) is.alike);
    many = ap length pops_channels ∙ (is.many ∙ ap (λ (v : PublisherState). v.table.feeders) (sym holds.staged));
  }

  -- they are loaded, also from what was seen before
  pub pops_many : (s : LoaderState) → IsLoader readers w → ChangesOnlySeen s f (loader_state readers w) → LoadsMany s f many (loader_state new next)
  pops_many s is looks = record {
    rows = holds.rows;
    count = holds.count;
    some = holds.some;
    fitting = subst (λ (v : LoaderState). AllFit v.system.schema holds.rows) looks (first_fits readers w is f holds.rows holds.first);
    loads = looked_loads s (loader_state readers w) (loader_state new next) f holds.rows looks pops_loads;
  }

-- ---- a feeder is settled

settled_balanced : (s : LoaderState) (f : ℕ) (sent : List Entries) → f < length s.progress → Balanced s → Balanced (settled_as s f sent)
settled_balanced s f sent within balanced g = balanced g ∙ by (nat_eq f g) refl
  where
    by : (b : Bool) → nat_eq f g ≡ b → popped s g ≡ popped (settled_as s f sent) g
    by true is =
        let same : f ≡ g = grind (arith, nat_tests) in
        subst (λ (h : ℕ). popped s h ≡ popped (settled_as s f sent) h) same
        (ap (λ (t : FeederProgress). t.popped) (sym (get_or-set_same s.progress f (record { popped = popped s f; carried = Some sent }) no_progress within)))
    by false is =
        let other : g ≢ f = λ same. grind (arith, nat_tests) in
        ap (λ (t : FeederProgress). t.popped) (sym (get_or-set_other s.progress f g (record { popped = popped s f; carried = Some sent }) no_progress other))

module _ (readers : List RingReader) (w : PublisherState) (f : ℕ) (closing : Sent) (new : List RingReader) (settles : SettlesAt readers f closing new) where
  settles_channels : channels_of new ≡ channels_of readers
  settles_channels =
      ap channels_of settles.now ∙ map-set_same (λ (i : RingReader). i.channel) readers f settles.before settles.after settles.at (ap (λ (i : RingReader). i.channel) settles.settles)

  -- what is seen then is what was not popped
  settles_rest : settles.after.seen ≡ drop (length (popped (loader_state readers w) f)) closing.rows
  settles_rest =
      let after = settles.after in
      let popped_is : after.popped ≡ popped (loader_state readers w) f = ap (λ (i : RingReader). i.popped) settles.settles ∙ ap (λ (t : FeederProgress). t.popped) (sym (progress_at-of readers f settles.before settles.at)) in
      let carried_is : after.carried ≡ Some closing.rows = ap (λ (i : RingReader). i.carried) settles.settles in
      let all : after.popped ++ after.seen ≡ closing.rows = subst (λ (o : Option (List Entries)). IfSome o (λ sent. after.popped ++ after.seen ≡ sent)) carried_is settles.whole in
      sym (drop-append_seam after.popped after.seen) ∙ (ap (drop (length after.popped)) all ∙ ap (λ (xs : List Entries). drop (length xs) closing.rows) popped_is)

  settles_seen : seen_of new ≡ set (seen_of readers) f (drop (length (popped (loader_state readers w) f)) closing.rows)
  settles_seen =
      seen_set readers new f settles.after (slice_get_within readers f settles.before settles.at) settles.now ∙ ap (set (seen_of readers) f) settles_rest

  pub settles_loading : loader_state new w ≡ settled_as (loader_state readers w) f closing.rows
  settles_loading =
      let after_is : reader_progress settles.after ≡ record { popped = popped (loader_state readers w) f; carried = Some closing.rows } =
      ap reader_progress settles.settles ∙ ap (λ (t : FeederProgress). record { popped = t.popped; carried = Some closing.rows }) (sym (progress_at-of readers f settles.before settles.at)) in
      let progress : progress_of new ≡ set (progress_of readers) f (record { popped = popped (loader_state readers w) f; carried = Some closing.rows }) =
      ap progress_of settles.now ∙ (map-set reader_progress readers f settles.after ∙ ap (set (progress_of readers) f) after_is) in
      ap (λ (ts : List FeederProgress). record { system = record { channels = channels_of new; schema = w.table.schema; limit = w.table.limit }; progress = ts; seen = seen_of new; published = w.table.rows; staged = w.staged }) progress
      ∙ (ap (λ (ls : List ChannelName). record { system = record { channels = ls; schema = w.table.schema; limit = w.table.limit }; progress = set (progress_of readers) f (record { popped = popped (loader_state readers w) f; carried = Some closing.rows }); seen = seen_of new; published = w.table.rows; staged = w.staged }) settles_channels
      ∙ ap (λ (xs : List (List Entries)). record { system = record { channels = channels_of readers; schema = w.table.schema; limit = w.table.limit }; progress = set (progress_of readers) f (record { popped = popped (loader_state readers w) f; carried = Some closing.rows }); seen = xs; published = w.table.rows; staged = w.staged }) settles_seen)

  -- a second closing tells the same rows
  pub settles_once : IfSome (carried (loader_state readers w) f) (λ sent. closing.rows ≡ sent)
  settles_once = subst (λ (t : FeederProgress). IfSome t.carried (λ sent. closing.rows ≡ sent)) (sym (progress_at-of readers f settles.before settles.at)) settles.once

  pub settles_loader : IsLoader readers w → IsLoader new w
  settles_loader is = record {
    balanced = subst Balanced (sym settles_loading) (settled_balanced (loader_state readers w) f closing.rows (there readers f settles.before settles.at) is.balanced);
    whole = subst (All IsWhole) (sym settles.now) (All-set IsWhole readers f settles.after settles.whole is.whole);
    alike = subst (All (λ (channel : ChannelName). channel.schema ≡ w.table.schema)) (sym settles_channels) is.alike;
    many = ap length settles_channels ∙ is.many;
  }
