use Rattle.std.proofs.Common.{◌≡◌, ◌++◌, List, length, subst, sym, ap, ◌∙◌}
use Rattle.bsi_rows.specs.Rows.{feeders_of, SourcedRow}
use Rattle.bsi_rows.specs.Table.{AreFitting, AreFrom, Table}
use Rattle.bsi_table.specs.Index.{table_of}
use Rattle.bsi_table.specs.Encoded.{sourced_rows, AreEncoded}
use Rattle.bsi_table.proofs.RowBitmaps.{fed-feeders, fed-fitting}
use Rattle.bsi_storage.specs.Saved.{columns_words, feeder_words}
use Rattle.bsi_storage.proofs.ColumnWords.{fed_long, fed_words, feeders_below, feeders_long, rest_is}
use Rattle.bsi_storage.proofs.decoding.decode_index.Goals as goal

pub returns-in_default-clause-none : goal.returns-in_default-clause-none
returns-in_default-clause-none c = λ rows are many is.
    (let none = rw c.in_default.is at c.in_ok-columns.ensures.none in
    none rows (feeder_words c.args.sizes.feeders (feeders_of rows)) c.args.sizes.feeders are many is)

pub returns-in_default-2-clause-none : goal.returns-in_default-2-clause-none
returns-in_default-2-clause-none c = λ rows are many is.
    (let encoded = rw c.in-Some.is at c.in_ok-columns.ensures.encoded in
    let words = rw c.in-Some.is at c.in_ok-columns.ensures.words in
    let none = rw c.in_default-2.is at c.in_ok-origins.ensures.none in
    none (feeders_of rows) (feeders_below c.args.sizes.feeders rows are.from) (feeders_long rows ∙ many)
    (rest_is c.args.schema c.in-Some.columns.items rows c.args.sizes.feeders c.args.sizes.rows encoded are many c.in-Some.rest.now
    (feeder_words c.args.sizes.feeders (feeders_of rows)) (sym words ∙ is)))

pub returns-clause-made : goal.returns-clause-made
returns-clause-made c =
    let schema = c.args.schema in
    let columns = c.in-Some.columns.items in
    let row_feeders = c.in-Some-2.origins.rows in
    let table : Table = table_of c.in_ok-index.index in
    let made = c.in_ok-index.ensures in
    let long = rw c.in-Some-2.is at c.in_ok-origins.ensures.len in
    let feeders = rw c.in-Some-2.is at c.in_ok-origins.ensures.feeders in
    let feeder_words_are = rw c.in-Some-2.is at c.in_ok-origins.ensures.words in
    let words = rw c.in-Some.is at c.in_ok-columns.ensures.words in
    let encoded = subst (AreEncoded schema.columns columns) (sym long) (rw c.in-Some.is at c.in_ok-columns.ensures.encoded) in
    let rows : table.rows ≡ sourced_rows row_feeders columns = ap (λ (t : Table). t.rows) made in
    record {
      schema_is = ap (λ (t : Table). t.schema) made;
      feeders_are = ap (λ (t : Table). t.feeders) made ∙ feeders;
      limit_is = ap (λ (t : Table). t.limit) made;
      many = ap (λ (rs : List SourcedRow). length rs) rows ∙ fed_long schema columns row_feeders encoded ∙ long;
      rows_are = record {
        fits = subst (AreFitting schema.columns) (sym rows) (fed-fitting schema.columns columns row_feeders encoded);
        from = subst (λ n. AreFrom n table.rows) (ap (λ (t : Table). t.feeders) made ∙ feeders) c.feeders.ensures.from;
      };
      words_are =
          words
          ∙ ap (λ ws. ws ++ c.in-Some.rest.now) (fed_words schema columns row_feeders encoded)
          ∙ ap (λ ws. columns_words schema (sourced_rows row_feeders columns) 0 (length schema.columns) ++ ws)
          (feeder_words_are ∙ ap (feeder_words c.args.sizes.feeders) (sym (fed-feeders schema.columns columns row_feeders encoded)))
          ∙ ap (λ rs. columns_words schema rs 0 (length schema.columns) ++ feeder_words c.args.sizes.feeders (feeders_of rs)) (sym rows);
    }
