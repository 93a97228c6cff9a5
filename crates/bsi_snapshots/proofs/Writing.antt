-- What the publisher keeps to, from step to step.
use Rattle.std.proofs.Common.{◌≡◌, ℕ, ◌+◌, ◌-◌, ◌≤◌, List, [], ◌∷◌, ◌++◌, length, refl, sym, ◌∙◌, subst, ap, arith, append_assoc, length-append, inl, inr}
use Rattle.std.specs.Prelude.{fold, ◌⊎◌, OnErr, Result, Ok, Err}
use Rattle.std.proofs.lemmas.List.{append-nil}
use mathlib.Core.List.{IsPrefix}
use Rattle.logbook.specs.Pages.{Book}
use Rattle.bsi_rows.specs.Table.{with_rows, Table}
use Rattle.bsi_snapshots.specs.History.{with_list, RowList, Version, VersionToken}
use Rattle.bsi_snapshots.specs.Versions.{after, pending_rows, publisher_state, with_all_published, IsBufferOf, IsPublisher, IsVersionOf, LastStampIsPrefix, MovesToPending, PublisherState}
use Rattle.bsi_snapshots.specs.declared.operation.Operation.{Operation}
use Rattle.bsi_snapshots.specs.declared.operation.Operation.TheVariants.{Block as block_operation, Batch, Stamp}
use Rattle.bsi_snapshots.proofs.Growing.{prefix_self, prefix_trans, prefix_whole}

-- ---- pending operations

pub pending_rows-append : (xs ys : List Operation) → pending_rows (xs ++ ys) ≡ pending_rows xs ++ pending_rows ys
pending_rows-append [] ys = refl
pending_rows-append (block_operation block ∷ xs) ys =
    ap (λ (all : RowList). block.rows ++ all) (pending_rows-append xs ys) ∙ sym (append_assoc block.rows (pending_rows xs) (pending_rows ys))
pending_rows-append (Batch batch ∷ xs) ys =
    ap (λ (all : RowList). batch.rows ++ all) (pending_rows-append xs ys) ∙ sym (append_assoc batch.rows (pending_rows xs) (pending_rows ys))
pending_rows-append (Stamp token ∷ xs) ys = pending_rows-append xs ys

-- a stamp is no row
pub pending_rows-stamp : (xs : List Operation) (token : VersionToken) → pending_rows (xs ++ Stamp token ∷ []) ≡ pending_rows xs
pending_rows-stamp xs token = pending_rows-append xs (Stamp token ∷ []) ∙ append-nil (pending_rows xs)

-- the rows of the operations stand last, in their order
pub table_after : (e : Version) (pending : List Operation) → (fold after e pending).table ≡ with_rows e.table (pending_rows pending)
table_after e [] = ap (λ (rows : RowList). record e.table { rows = rows }) (sym (append-nil e.table.rows))
table_after e (block_operation block ∷ pending) =
    table_after (after e (block_operation block)) pending
    ∙ ap (λ (all : RowList). record e.table { rows = all }) (append_assoc e.table.rows block.rows (pending_rows pending))
table_after e (Batch batch ∷ pending) =
    table_after (after e (Batch batch)) pending
    ∙ ap (λ (all : RowList). record e.table { rows = all }) (append_assoc e.table.rows batch.rows (pending_rows pending))
table_after e (Stamp token ∷ pending) = table_after (after e (Stamp token)) pending

fold-push : (e : Version) (pending : List Operation) (x : Operation) → fold after e (pending ++ x ∷ []) ≡ after (fold after e pending) x
fold-push e [] x = refl
fold-push e (y ∷ pending) x = fold-push (after e y) pending x

-- the version after the operations, and then a stamp
pub stamped : (e : Version) (pending : List Operation) (token : VersionToken)
    → fold after e (pending ++ Stamp token ∷ []) ≡ record { table = with_rows e.table (pending_rows pending); token = token }
stamped e pending token = fold-push e pending (Stamp token) ∙ ap (λ (t : Table). record { table = t; token = token }) (table_after e pending)

-- a block of rows stamps no list
pub known_after : (e : Version) (pending more : List Operation) (x : Operation) → more ≡ pending ++ x ∷ [] → ((d : Version) → (after d x).token ≡ d.token)
    → (fold after e more).token ≡ (fold after e pending).token
known_after e pending more x is keeps = ap (λ (xs : List Operation). (fold after e xs).token) is ∙ ap (λ (d : Version). d.token) (fold-push e pending x) ∙ keeps (fold after e pending)

-- ---- the buffer

-- all rows of the buffer did
pub staged_all : (pending more : List Operation) (buffer left : RowList) (token : (e : Version) → (fold after e more).token ≡ (fold after e pending).token)
    → pending_rows more ≡ pending_rows pending ++ buffer → left ≡ [] → MovesToPending pending buffer more left
staged_all pending more buffer left token rows none = record {
  staged = ap (λ (xs : RowList). pending_rows more ++ xs) none ∙ append-nil (pending_rows more) ∙ rows;
  begins = (buffer, sym rows);
  token = token;
}

-- a prefix of the front begins the whole
front_begins : (front short long : RowList) → IsPrefix short long → IsPrefix (front ++ short) (front ++ long)
front_begins front short long p = (p.0, append_assoc front short p.0 ∙ ap (λ (xs : RowList). front ++ xs) p.1)

-- where the limit has fits for so many more rows, as many free_is are free
pub free_rows : (shown staged buffer : RowList) (limit free rows_len staged_len most more : ℕ) → length shown ≡ rows_len → length (staged ++ buffer) ≡ staged_len → limit ≡ most
    → length shown + length staged + length buffer + free ≡ limit → rows_len + staged_len + more ≤ most → (free - more) + more ≡ free
free_rows shown staged buffer limit free rows_len staged_len most more a b c free_is fits = omega (arith, a, b, c, free_is, fits, length-append staged buffer)

module _ (book : Book) (about : Table) where
  -- ---- the beginning

  pub first_version : (t : Table) (token : VersionToken) → token ≡ record { book = book; list = [] } → t ≡ about → t.rows ≡ [] → IsVersionOf book about (record { table = t; token = token })
  first_version t token is same empty = record {
    book_is = ap (λ k. k.book) is;
    list_is = ap (λ k. k.list) is ∙ sym empty;
    about_is = ap (λ (rows : RowList). record t { rows = rows }) (sym empty) ∙ same;
  }

  pub first_writing : (t : Table) (token : VersionToken) (buffer : RowList) (free : ℕ) → token ≡ record { book = book; list = [] } → t ≡ about → t.rows ≡ [] → buffer ≡ [] → free ≡ t.limit
      → IsPublisher book about (record { table = t; token = token }) [] buffer token free
  first_writing t token buffer free is same empty none all = record {
    version_is = first_version t token is same empty;
    same_book = ap (λ k. k.book) is;
    begins = subst (λ (rows : RowList). IsPrefix rows (t.rows ++ [])) (sym (ap (λ k. k.list) is)) (t.rows ++ [], refl);
    free_is = omega (arith, ap length empty, ap length none, all);
  }

  pub first_stamped : (t : Table) (token : VersionToken) → token ≡ record { book = book; list = [] } → LastStampIsPrefix book (record { table = t; token = token }) [] 0
  first_stamped t token is = record {
    same_book = ap (λ k. k.book) is;
    begins = subst (λ (rows : RowList). IsPrefix rows (t.rows ++ [])) (sym (ap (λ k. k.list) is)) (t.rows ++ [], refl);
    many = ap (λ k. length k.list) is;
  }

  module _ (shown : Version) (pending : List Operation) (buffer : RowList) (history : VersionToken) (free : ℕ) (is : IsPublisher book about shown pending buffer history free) where
    -- ---- rows of the buffer may have become pending

    pub staged_writing : (more : List Operation) (left : RowList) → MovesToPending pending buffer more left → IsPublisher book about shown more left history free
    staged_writing more left staged = record {
      version_is = is.version_is;
      same_book = is.same_book;
      begins = prefix_trans history.list (shown.table.rows ++ pending_rows pending) (shown.table.rows ++ pending_rows more) is.begins
          (front_begins shown.table.rows (pending_rows pending) (pending_rows more) staged.begins);
      free_is = omega (arith, is.free_is, ap length staged.staged, length-append (pending_rows more) left, length-append (pending_rows pending) buffer);
    }

    -- of the same version
    pub staged_shown : (next : Version) (more : List Operation) (left : RowList) → next ≡ shown → MovesToPending pending buffer more left → IsPublisher book about next more left history free
    staged_shown next more left same staged = subst (λ (e : Version). IsPublisher book about e more left history free) (sym same) (staged_writing more left staged)

    -- ---- more rows are staged

    pub with_staged_writing : (added grown : RowList) (less : ℕ) → grown ≡ buffer ++ added → less + length added ≡ free → IsPublisher book about shown pending grown history less
    with_staged_writing added grown less more many = record {
      version_is = is.version_is;
      same_book = is.same_book;
      begins = is.begins;
      free_is = omega (arith, is.free_is, many, ap length more, length-append buffer added);
    }

    -- ---- a publish

    abbrev pub next_list : RowList
    next_list = shown.table.rows ++ pending_rows pending

    -- where nothing is shown, the history may be longer by the list that was to be
    pub same_writing : (again : VersionToken) (more : List Operation) → (again ≡ history) ⊎ (again ≡ with_list history next_list) → pending_rows more ≡ pending_rows pending → IsPublisher book about shown more buffer again free
    same_writing again more (inl same) rows = record {
      version_is = is.version_is;
      same_book = ap (λ k. k.book) same ∙ is.same_book;
      begins = subst (λ (xs : RowList). IsPrefix again.list (shown.table.rows ++ xs)) (sym rows) (subst (λ (xs : RowList). IsPrefix xs next_list) (sym (ap (λ k. k.list) same)) is.begins);
      free_is = omega (arith, is.free_is, ap length rows);
    }
    same_writing again more (inr added) rows = record {
      version_is = is.version_is;
      same_book = ap (λ k. k.book) added ∙ is.same_book;
      begins = subst (λ (xs : RowList). IsPrefix again.list (shown.table.rows ++ xs)) (sym rows) (subst (λ (xs : RowList). IsPrefix xs next_list) (sym (ap (λ k. k.list) added)) (prefix_self next_list));
      free_is = omega (arith, is.free_is, ap length rows);
    }

    -- how many rows are to be shown, where the buffer is empty
    pub next_len : (limit : ℕ) → limit ≡ shown.table.limit → buffer ≡ [] → limit - free ≡ length next_list
    next_len limit same none = omega (arith, is.free_is, same, ap length none, length-append shown.table.rows (pending_rows pending))

    -- all staged rows are shown
    pub shown_writing : (again : VersionToken) (stamps : List Operation) (next : Version) (none : List Operation) → (again ≡ history) ⊎ (again ≡ with_list history next_list) → pending_rows stamps ≡ pending_rows pending
        → IsVersionOf book about (fold after shown stamps) → next ≡ fold after shown stamps → none ≡ [] → IsPublisher book about next none buffer again free
    shown_writing again stamps next none added rows version_is now nothing =
        let unchanged = same_writing again stamps added rows in
        let table = table_after shown stamps in
        subst (λ (x : Version). IsPublisher book about x none buffer again free) (sym now)
        (subst (λ (ops : List Operation). IsPublisher book about (fold after shown stamps) ops buffer again free) (sym nothing)
        (record {
          version_is = version_is;
          same_book = unchanged.same_book;
          begins = subst (λ (xs : RowList). IsPrefix again.list (xs ++ [])) (sym (ap (λ (t : Table). t.rows) table))
              (subst (λ (xs : RowList). IsPrefix again.list xs) (sym (append-nil (shown.table.rows ++ pending_rows stamps))) unchanged.begins);
          free_is = omega (arith, unchanged.free_is, ap (λ (t : Table). length t.rows) table, ap (λ (t : Table). t.limit) table, length-append shown.table.rows (pending_rows stamps));
        }))

-- ---- the last list that is stamped

module _ (book : Book) (shown : Version) (pending : List Operation) (n : ℕ) (is : LastStampIsPrefix book shown pending n) where
  -- it stays while rows of the buffer become pending
  pub staged_stamped : (more : List Operation) (buffer left : RowList) → MovesToPending pending buffer more left → LastStampIsPrefix book shown more n
  staged_stamped more buffer left staged =
      let same = staged.token shown in
      record {
        same_book = ap (λ (k : VersionToken). k.book) same ∙ is.same_book;
        begins = subst (λ (xs : RowList). IsPrefix xs (shown.table.rows ++ pending_rows more)) (sym (ap (λ (k : VersionToken). k.list) same))
            (prefix_trans (fold after shown pending).token.list (shown.table.rows ++ pending_rows pending) (shown.table.rows ++ pending_rows more) is.begins
            (front_begins shown.table.rows (pending_rows pending) (pending_rows more) staged.begins));
        many = ap (λ (k : VersionToken). length k.list) same ∙ is.many;
      }

  -- where it has all rows, the version that it leads to may be shown
  pub stamped_version : (about : Table) → IsVersionOf book about shown → n ≡ length (shown.table.rows ++ pending_rows pending) → IsVersionOf book about (fold after shown pending)
  stamped_version about version_is all = record {
    book_is = is.same_book;
    list_is = prefix_whole (fold after shown pending).token.list (shown.table.rows ++ pending_rows pending) is.begins (omega (arith, is.many, all))
        ∙ sym (ap (λ (t : Table). t.rows) (table_after shown pending));
    about_is = ap (λ (t : Table). Rattle.bsi_snapshots.specs.Versions.emptied t) (table_after shown pending) ∙ version_is.about_is;
  }

  -- it is shown
  pub shown_stamped : (next : Version) (none : List Operation) → next ≡ fold after shown pending → none ≡ [] → LastStampIsPrefix book next none n
  shown_stamped next none now nothing =
      subst (λ (e : Version). LastStampIsPrefix book e none n) (sym now)
      (subst (λ (ops : List Operation). LastStampIsPrefix book (fold after shown pending) ops n) (sym nothing)
      (record {
        same_book = is.same_book;
        begins = subst (λ (xs : RowList). IsPrefix (fold after shown pending).token.list (xs ++ [])) (sym (ap (λ (t : Table). t.rows) (table_after shown pending)))
            (subst (λ (xs : RowList). IsPrefix (fold after shown pending).token.list xs) (sym (append-nil (shown.table.rows ++ pending_rows pending))) is.begins);
        many = is.many;
      }))

-- all that the publisher keeps to, where rows of the buffer may have become pending
pub staged_same : (book : Book) (about : Table) (shown : Version) (pending : List Operation) (buffer : RowList) (history : VersionToken) (free stamped : ℕ)
    → IsPublisher book about shown pending buffer history free → LastStampIsPrefix book shown pending stamped
    → (next : Version) (more : List Operation) (left : Table) → next ≡ shown → MovesToPending pending buffer more left.rows → IsBufferOf next.table left
    → IsPublisher book about next more left.rows history free × IsBufferOf next.table left × LastStampIsPrefix book next more stamped
staged_same book about shown pending buffer history free stamped writing is next more left same staged kind = (
  staged_shown book about shown pending buffer history free writing next more left.rows same staged,
  kind,
  subst (λ (e : Version). LastStampIsPrefix book e more stamped) (sym same) (staged_stamped book shown pending stamped is more buffer left.rows staged),
)

-- a list that is to be shown is stamped
pub stamped_all : (book : Book) (shown : Version) (pending more : List Operation) (token : VersionToken) (len : ℕ)
    → more ≡ pending ++ Stamp token ∷ [] → token.book ≡ book → token.list ≡ shown.table.rows ++ pending_rows pending
    → len ≡ length (shown.table.rows ++ pending_rows pending) → LastStampIsPrefix book shown more len
stamped_all book shown pending more token len is same list all =
    let knows : (fold after shown more).token ≡ token =
    ap (λ (xs : List Operation). (fold after shown xs).token) is ∙ ap (λ (e : Version). e.token) (stamped shown pending token) in
    let rows : pending_rows more ≡ pending_rows pending = ap pending_rows is ∙ pending_rows-stamp pending token in
    record {
      same_book = ap (λ (k : VersionToken). k.book) knows ∙ same;
      begins = subst (λ (xs : RowList). IsPrefix xs (shown.table.rows ++ pending_rows more)) (sym (ap (λ (k : VersionToken). k.list) knows))
          (subst (λ (xs : RowList). IsPrefix token.list (shown.table.rows ++ xs)) (sym rows)
          (subst (λ (xs : RowList). IsPrefix token.list xs) list (prefix_self token.list)));
      many = ap (λ (k : VersionToken). length k.list) knows ∙ ap length list ∙ sym all;
    }

-- what contracts see once all staged rows are shown
pub published_view : (shown : Version) (pending stamps : List Operation) (buffer : RowList) (next : Version) (none : List Operation)
    → next ≡ fold after shown stamps → pending_rows stamps ≡ pending_rows pending → none ≡ [] → buffer ≡ [] → publisher_state next none buffer ≡ with_all_published (publisher_state shown pending buffer)
published_view shown pending stamps buffer next none now rows nothing empty =
    ap (λ (ops : List Operation). publisher_state next ops buffer) nothing
    ∙ ap (λ (e : Version). publisher_state e [] buffer) now
    ∙ ap (λ (t : Table). record { table = t; staged = buffer }) (table_after shown stamps)
    ∙ ap (λ (xs : RowList). record { table = with_rows shown.table xs; staged = buffer }) rows
    ∙ ap (λ (xs : RowList). record { table = with_rows shown.table (pending_rows pending); staged = xs }) empty
    ∙ ap (λ (xs : RowList). record { table = with_rows shown.table xs; staged = [] }) (sym (append-nil (pending_rows pending)) ∙ ap (λ (xs : RowList). pending_rows pending ++ xs) (sym empty))

-- what contracts see once more rows are staged
abbrev pub with_more : PublisherState → RowList → PublisherState
with_more w added = record w { staged = w.staged ++ added }

pub with_staged_view : (shown : Version) (pending : List Operation) (buffer grown added : RowList) → grown ≡ buffer ++ added
    → publisher_state shown pending grown ≡ with_more (publisher_state shown pending buffer) added
with_staged_view shown pending buffer grown added more =
    ap (λ (xs : RowList). record { table = shown.table; staged = pending_rows pending ++ xs }) more
    ∙ ap (λ (xs : RowList). record { table = shown.table; staged = xs }) (sym (append_assoc (pending_rows pending) buffer added))

-- what contracts see where rows of the buffer may have become pending
pub staged_view : (shown : Version) (pending : List Operation) (buffer : RowList) (next : Version) (more : List Operation) (left : RowList)
    → next ≡ shown → MovesToPending pending buffer more left → publisher_state next more left ≡ publisher_state shown pending buffer
staged_view shown pending buffer next more left same staged =
    ap (λ (e : Version). publisher_state e more left) same ∙ ap (λ (xs : RowList). record { table = shown.table; staged = xs }) staged.staged

-- what contracts see where nothing is shown
pub same_view : (shown : Version) (pending : List Operation) (buffer : RowList) (next : Version) (more : List Operation) → next ≡ shown → pending_rows more ≡ pending_rows pending → publisher_state next more buffer ≡ publisher_state shown pending buffer
same_view shown pending buffer next more same rows =
    ap (λ (e : Version). publisher_state e more buffer) same ∙ ap (λ (xs : RowList). record { table = shown.table; staged = xs ++ buffer }) rows

-- what holds anyway holds after a refusal
pub on_err : {T E : Type 0} {P : Type 0} (r : Result T E) → P → OnErr r P
on_err (Ok x) p = tt
on_err (Err e) p = p
