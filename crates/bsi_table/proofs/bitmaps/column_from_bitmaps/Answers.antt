use Rattle.std.proofs.Common.{length, ap, sym, subst, arith, rules, ◌∙◌, SFits, w64, to_z-of_z}
use Rattle.std.proofs.lemmas.Int.{ints}
use Rattle.bsi_columns.specs.AnyColumns.{any_entries}
use Rattle.bsi_columns.specs.StoredBitmaps.{bits_each, column_bitmaps, form_places, HaveNoEntriesBelow}
use Rattle.bsi_schema.specs.Columns.{column_at, size_in, IsForm}
use Rattle.bsi_shift.proofs.Shifting.{length-shifted_entries}
use Rattle.bsi_table.specs.Encoded.{encoded_form, IsInForm}
use Rattle.bsi_table.proofs.BitmapRows.{none_accepted, rows_of_bitmaps, size_some, stored_of_shifted}
use Rattle.bsi_table.proofs.bitmaps.column_from_bitmaps.Goals as goal

pub returns-in_default-clause-none : goal.returns-in_default-clause-none
returns-in_default-clause-none c =
    let column = column_at c.args.schema.now.columns c.args.c in
    let none = rw c.in_default.is at c.in_ok-stored.ensures.none in
    let some = size_some column.form (subst IsForm c.form.ensures.form c.form.ensures.valid) in
    none_accepted column some (bits_each c.args.bitmaps.items)
    (subst (λ form. HaveNoEntriesBelow (form_places (encoded_form form)) (size_in form) (bits_each c.args.bitmaps.items)) c.form.ensures.form none)

pub returns-clause-encodes : goal.returns-clause-encodes
returns-clause-encodes c =
    let made = c.new-column.ensures in
    let read : SFits w64 c.offset.result = search rules in
    let stored = c.in-Some.stored in
    let form = rw c.in-Some.is at c.in_ok-stored.ensures.form in
    let same = rw c.in-Some.is at c.in_ok-stored.ensures.bitmaps in
    record {
      form = subst (λ f. IsInForm f c.new-column.result.stored) c.form.ensures.form (subst (λ s. IsInForm c.form.result.now s.stored) (sym made) form);
      offset = ap (λ s. s.offset) made ∙ to_z-of_z read ∙ c.offset.ensures.offset;
      rows =
          length-shifted_entries c.new-column.result ∙ ap (λ s. length (any_entries s.stored)) made
          ∙ rows_of_bitmaps (encoded_form c.form.result.now) (any_entries stored) c.args.bitmaps.items same;
      low = omega (arith, ints, c.offset.ensures.offset);
      high = omega (arith, ints, c.offset.ensures.offset, c.offset.ensures.below);
      range = c.size.ensures.range;
    }

pub returns-clause-bitmaps : goal.returns-clause-bitmaps
returns-clause-bitmaps c =
    let column = column_at c.args.schema.now.columns c.args.c in
    let made = c.new-column.ensures in
    let read : SFits w64 c.offset.result = search rules in
    let offset = ap (λ s. s.offset) made ∙ to_z-of_z read ∙ c.offset.ensures.offset in
    let same = rw c.in-Some.is at c.in_ok-stored.ensures.bitmaps in
    ap (column_bitmaps (encoded_form column.form)) (stored_of_shifted c.new-column.result column.offset offset ∙ ap (λ s. any_entries s.stored) made)
    ∙ ap (λ form. column_bitmaps (encoded_form form) (any_entries c.in-Some.stored)) (sym c.form.ensures.form)
    ∙ same
